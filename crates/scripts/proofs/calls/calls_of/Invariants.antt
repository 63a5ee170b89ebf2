use Rattle.scripts.specs.Calls.{call_at}
use Rattle.scripts.proofs.Each.{IsReadSoFar}
use Rattle.scripts.proofs.calls.calls_of.Given as goal

abbrev pub invariant-loop-at : goal.invariant-loop-at
invariant-loop-at l = IsReadSoFar (call_at l.purpose l.version l.actor l.labels.items) l.calls l.at l.plans
