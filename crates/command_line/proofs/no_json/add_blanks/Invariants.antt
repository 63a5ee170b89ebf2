use Rattle.std.proofs.Common.{◌≡◌, ◌++◌, drop}
use Rattle.command_line.specs.NoJson.{blanks}
use Rattle.command_line.proofs.no_json.add_blanks.Given as goal

-- what is written and what is left to write make the whole
abbrev pub invariant-loop-byte : goal.invariant-loop-byte
invariant-loop-byte l = l.out ++ blanks (drop l.byte-index l.text) ≡ l.fn.out ++ blanks l.text
