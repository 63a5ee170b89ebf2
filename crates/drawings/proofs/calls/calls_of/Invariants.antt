use Rattle.std.proofs.Common.{◌≡◌, ◌++◌, drop}
use Rattle.drawings.specs.Calls.{calls_of}
use Rattle.drawings.proofs.calls.calls_of.Given as goal

-- the words so far and those that are left make the whole
abbrev pub invariant-loop-plan : goal.invariant-loop-plan
invariant-loop-plan l = l.calls.items ++ calls_of (drop l.plan-index l.plans) ≡ calls_of l.plans
