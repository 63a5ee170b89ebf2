use Rattle.std.proofs.Common.{◌≡◌, ◌++◌}
use Rattle.std.specs.Vec.Iter.{into_iter_items}
use Rattle.race_core.specs.Worlds.{replies_in, kept_in}
use Rattle.race_core.proofs.world.report_on.Given as goal

abbrev pub invariant-loop-ledger : goal.invariant-loop-ledger
invariant-loop-ledger g l = record {
  replies : l.replies.items ++ replies_in (into_iter_items l.ledger-iterator) ≡ replies_in l.fn.ledgers.items;
  kept : l.kept.items ++ kept_in (into_iter_items l.ledger-iterator) ≡ kept_in l.fn.ledgers.items;
}
