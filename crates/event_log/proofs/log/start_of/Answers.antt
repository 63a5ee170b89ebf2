use Rattle.std.proofs.Common.{◌∙◌, sym, ap}
use Rattle.event_log.proofs.Placed.{start_at}
use Rattle.event_log.proofs.log.start_of.Goals as goal

pub returns-then-at-records : goal.returns-then-at-records
returns-then-at-records c =
    ap (λ r. r.start) (sym c.index-records-at.is)
    ∙ start_at c.args.bytes.now c.args.records.now c.args.at c.index-records-at.result c.requires c.if-at-records.true c.index-records-at.is
