use Rattle.std.proofs.Common.{◌≡◌, ◌++◌, drop}
use Rattle.command_line.specs.Entry.{printed}
use Rattle.command_line.proofs.entry.add_printed.Given as goal

-- what is written and what is left to write make the whole
abbrev pub invariant-loop-byte : goal.invariant-loop-byte
invariant-loop-byte l = l.out ++ printed (drop l.byte-index l.text) ≡ l.fn.out ++ printed l.text
