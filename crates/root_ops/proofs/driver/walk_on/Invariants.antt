use Rattle.std.proofs.Common.{◌≤◌}
use Rattle.step_resolver.specs.Order.{steps_left}
use Rattle.root_ops.specs.Order.{more, walking}
use Rattle.root_ops.specs.View.{IsOurWalk}
use Rattle.root_ops.specs.Driver.{Drives}
use Rattle.root_ops.proofs.driver.walk_on.Given as goal

-- the walk was driven here, and is still the call's
abbrev pub invariant-loop-answer : goal.invariant-loop-answer
invariant-loop-answer g l =
    let state = g.T.Tree.state in
    record {
      ours : IsOurWalk l.fn.below l.walk l.fn.aim;
      driven : Drives l.fn.below l.fn.below.root.owner.actor (state l.fn.tree) (more (walking l.fn.walk.walking l.fn.aim)) (state l.tree) (more (walking l.walk.walking l.fn.aim));
      few : steps_left l.walk.walking ≤ steps_left l.fn.walk.walking;
    }

abbrev pub decreases-loop-answer : goal.decreases-loop-answer
decreases-loop-answer g l = steps_left l.walk.walking
