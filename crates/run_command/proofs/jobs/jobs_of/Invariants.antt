use Rattle.std.proofs.Common.{◌≡◌, map, take}
use Rattle.race_core.specs.declared.plan.Planned.TheVariants.{Call}
use Rattle.run_command.proofs.jobs.jobs_of.Given as goal

abbrev pub invariant-loop-call : goal.invariant-loop-call
invariant-loop-call l = map Call l.jobs.items ≡ take l.call-index l.call-items
