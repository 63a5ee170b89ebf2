use Rattle.std.proofs.Common.{◌≡◌, ◌++◌, drop}
use Rattle.path_text.specs.Print.{printed, after_slashes}
use Rattle.path_text.proofs.names.Names.print.Given as goal

-- what is printed so far and the names that are left make the whole
abbrev pub invariant-loop-at : goal.invariant-loop-at
invariant-loop-at l = l.text.items ++ after_slashes (drop l.at l.self) ≡ printed l.self
