use Rattle.std.proofs.Common.{◌≡◌, ◌++◌, drop}
use Rattle.pages.specs.Page.{script_text}
use Rattle.pages.proofs.embedded.script_text.Given as goal

-- what is written and what is left to write make the whole
abbrev pub invariant-loop-byte : goal.invariant-loop-byte
invariant-loop-byte l = l.out ++ script_text (drop l.byte-index l.json) ≡ l.fn.out ++ script_text l.json
