use Rattle.step_resolver.specs.TurnView.{steps_to_come}
use Rattle.step_resolver.specs.View.{way_from}
use Rattle.step_resolver.proofs.DrivenWalks.{IsDriven}
use Rattle.step_resolver.proofs.driver.resolve.Given as goal

-- the walk was driven here
abbrev pub invariant-loop-turn : goal.invariant-loop-turn
invariant-loop-turn g l =
    let state = g.T.Tree.state in
    record { driven : IsDriven l.fn.root.owner (way_from l.fn.root l.fn.goal l.fn.flags) (state l.fn.tree) l.fn.path (state l.tree) l.turn }

abbrev pub decreases-loop-turn : goal.decreases-loop-turn
decreases-loop-turn g l = steps_to_come l.turn
