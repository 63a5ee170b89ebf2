use Rattle.std.proofs.Common.{◌≡◌, drop}
use Rattle.bulk_ops.specs.MakeAllView.{fault_in}
use Rattle.bulk_ops.proofs.make_all.fault_in.Given as goal

abbrev pub invariant-loop-at : goal.invariant-loop-at
invariant-loop-at l = fault_in (drop l.at l.rest) ≡ fault_in l.fn.rest
