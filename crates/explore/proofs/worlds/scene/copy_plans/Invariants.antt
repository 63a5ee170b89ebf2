use Rattle.std.proofs.Common.{◌≡◌, take}
use Rattle.explore.proofs.worlds.scene.copy_plans.Given as goal

abbrev pub invariant-loop-plan : goal.invariant-loop-plan
invariant-loop-plan l = l.copies.items ≡ take l.plan-index l.plans
