use Rattle.std.proofs.Common.{◌≡◌, ◌+◌, ◌≤◌, length}
use Rattle.std.specs.Vec.Iter.{into_iter_items, into_iter_len}
use Rattle.race_core.specs.declared.opening.TheConstants.{ACTORS_MAX}
use Rattle.race_core.specs.Opening.{granted, after_these}
use Rattle.race_core.proofs.opening.grant_roots.Given as goal

abbrev pub invariant-loop-plan : goal.invariant-loop-plan
invariant-loop-plan g l = record {
  same : granted (g.T.Tree.state l.initial.tree) 0 (into_iter_items l.initial.plans)
      ≡ after_these l.ledgers.items (granted (g.T.Tree.state l.tree) (length l.ledgers.items) (into_iter_items l.plans));
  few : length l.ledgers.items + length (into_iter_items l.plans) ≤ ACTORS_MAX;
}

abbrev pub decreases-loop-plan : goal.decreases-loop-plan
decreases-loop-plan g l = into_iter_len l.plans
