use Rattle.std.proofs.Common.{◌≡◌, ◌++◌, drop}
use Rattle.std.specs.Str.{encode_utf8_all}
use Rattle.json.specs.Print.{escape}
use Rattle.report_text.proofs.json_words.characters.Given as goal

-- what is written and what is left to write make the whole
abbrev pub invariant-loop-one : goal.invariant-loop-one
invariant-loop-one l = l.out ++ escape (encode_utf8_all (drop l.one-index l.text)) ≡ l.fn.out ++ escape (encode_utf8_all l.text)
