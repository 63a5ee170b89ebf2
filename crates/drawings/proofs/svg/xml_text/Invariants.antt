use Rattle.std.proofs.Common.{◌≡◌, ◌++◌, drop}
use Rattle.drawings.specs.Svg.{xml_text}
use Rattle.drawings.proofs.svg.xml_text.Given as goal

-- what is written and what is left to write make the whole
abbrev pub invariant-loop-byte : goal.invariant-loop-byte
invariant-loop-byte l = l.out ++ xml_text (drop l.byte-index l.text) ≡ l.fn.out ++ xml_text l.text
