use Rattle.std.proofs.Common.{sym, subst}
use Rattle.race_core.specs.TurnView.{IsStarted}
use Rattle.race_core.proofs.Starting.{started}
use Rattle.race_core.proofs.ledger.start_call.Goals as goal

pub returns-in-Some : goal.returns-in-Some
returns-in-Some c =
    subst (λ request. IsStarted c.args.root request c.start.result) (sym c.in-Some.is)
    (started c.args.root c.in-Some.request c.start.result c.start.ensures.turn c.start.ensures.kept c.start.ensures.few)
