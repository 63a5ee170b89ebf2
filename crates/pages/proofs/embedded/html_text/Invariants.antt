use Rattle.std.proofs.Common.{◌≡◌, ◌++◌, drop}
use Rattle.pages.specs.Page.{html_text}
use Rattle.pages.proofs.embedded.html_text.Given as goal

-- what is written and what is left to write make the whole
abbrev pub invariant-loop-byte : goal.invariant-loop-byte
invariant-loop-byte l = l.out ++ html_text (drop l.byte-index l.text) ≡ l.fn.out ++ html_text l.text
