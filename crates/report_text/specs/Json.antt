-- JSON as it is written: texts, and what stands between the elements of a list (RFC 8259, sections 7 and 5).
use Rattle.std.specs.Prelude.{ℕ, ◌==◌, List, [], if◌then◌else◌, codes}
use Rattle.std.specs.Str.{encode_utf8_all}
use Rattle.json.specs.Print.{quoted}

-- a text between its quotes, as JSON escapes it: each byte as the character with its number
abbrev pub text_words : List ℕ → List ℕ
text_words text = quoted (encode_utf8_all text)

-- a comma where something comes before
abbrev pub comma_words : ℕ → List ℕ
comma_words at = if at == 0 then [] else codes ","
