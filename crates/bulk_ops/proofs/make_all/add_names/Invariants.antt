use Rattle.std.proofs.Common.{◌≡◌, ◌++◌, drop}
use Rattle.std.specs.Prelude.{None}
use Rattle.bulk_ops.specs.MakeAllView.{fault_in, names_in}
use Rattle.bulk_ops.proofs.make_all.add_names.Given as goal

abbrev pub invariant-loop-at : goal.invariant-loop-at
invariant-loop-at l =
    record { fault : fault_in (drop l.at l.rest) ≡ None; names : l.names ++ names_in (drop l.at l.rest) ≡ l.initial.names ++ names_in l.fn.rest }
