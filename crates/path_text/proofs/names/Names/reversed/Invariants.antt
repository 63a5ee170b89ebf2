use Rattle.std.proofs.Common.{◌≡◌, take, reverse}
use Rattle.path_text.proofs.names.Names.reversed.Given as goal

abbrev pub invariant-loop-before : goal.invariant-loop-before
invariant-loop-before l = l.turned ≡ take l.before (reverse l.self)
