use Rattle.explore.specs.Opened.{opened_world}
use Rattle.explore_command.specs.Surveyed.{scope_asked}
use Rattle.explore_command.specs.Part.{AreWhoMight}
use Rattle.explore_command.proofs.part.who_might.Given as goal

-- of the actors so far nobody is left out
abbrev pub invariant-loop-actor : goal.invariant-loop-actor
invariant-loop-actor l = AreWhoMight (opened_world l.scene.tree l.scene.plans.items l.scene.lines) (scope_asked l.asked) l.actor l.turns l.might.items
