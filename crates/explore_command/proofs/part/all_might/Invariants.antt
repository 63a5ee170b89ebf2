use Rattle.std.proofs.Common.{◌≡◌, length}
use Rattle.explore.specs.Opened.{opened_world}
use Rattle.explore_command.specs.Surveyed.{scope_asked}
use Rattle.explore_command.specs.Part.{AreEachWhoMight}
use Rattle.explore_command.proofs.part.all_might.Given as goal

-- it is told of the turns so far
abbrev pub invariant-loop-at : goal.invariant-loop-at
invariant-loop-at l = record {
  each : AreEachWhoMight (opened_world l.scene.tree l.scene.plans.items l.scene.lines) (scope_asked l.asked) (length l.scene.plans.items) (scope_asked l.asked).begin l.all.items;
  many : length l.all.items ≡ l.at;
}
