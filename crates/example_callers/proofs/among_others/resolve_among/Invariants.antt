use Rattle.step_resolver.specs.TurnView.{steps_to_come}
use Rattle.step_resolver.specs.View.{way_from}
use Rattle.example_callers.proofs.Led.{IsLed}
use Rattle.example_callers.proofs.among_others.resolve_among.Given as goal

-- the walk was led here
abbrev pub invariant-loop-turn : goal.invariant-loop-turn
invariant-loop-turn g l =
    let state = g.T.Tree.state in
    record { led : IsLed g.row.O.Denot (g.O.Others.acts l.fn.root.owner.actor) l.fn.root.owner (way_from l.fn.root l.fn.goal l.fn.flags) l.fn.others (state l.fn.tree) l.fn.path l.others (state l.tree) l.turn }

abbrev pub decreases-loop-turn : goal.decreases-loop-turn
decreases-loop-turn g l = steps_to_come l.turn
