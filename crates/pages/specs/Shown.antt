-- A picture as JSON: its heading and its lines.
use Rattle.std.specs.Prelude.{ℕ, List, ◌++◌, Option, Some, None, codes, decimal}
use Rattle.drawings.specs.declared.picture.Head.{Head}
use Rattle.drawings.specs.declared.picture.Line.{Line}
use Rattle.drawings.specs.declared.picture.Tone.{Tone}
use Rattle.drawings.specs.declared.picture.Tone.TheVariants.{Plain, Good, Failed, Bad}
use Rattle.drawings.specs.Picture.{Drawn}
use Rattle.report_text.specs.Report.{numbered}
use Rattle.report_text.specs.Json.{text_words, comma_words}

abbrev pub tone_word : Tone → List ℕ
tone_word Plain = codes "plain"
tone_word Good = codes "good"
tone_word Failed = codes "failed"
tone_word Bad = codes "bad"

-- how a text looks, and the text, at the end of an object
unfoldable pub toned_words : Tone → List ℕ → List ℕ
toned_words tone text =
    codes "\"tone\":\"" ++ (tone_word tone ++ (codes "\",\"text\":" ++ (text_words text ++ codes "}")))

abbrev pub head_words : ℕ → Head → List ℕ
head_words at head = comma_words at ++ (codes "{" ++ toned_words head.tone head.text)

abbrev pub moment_words : Option ℕ → List ℕ
moment_words None = codes "null"
moment_words (Some moment) = decimal moment

abbrev pub line_words : ℕ → Line → List ℕ
line_words at line =
    comma_words at ++ (codes "{\"moment\":" ++ (moment_words line.moment
    ++ ((codes ",\"actor\":" ++ decimal line.actor) ++ (codes "," ++ toned_words line.tone line.text))))

unfoldable pub actors_part : Drawn → List ℕ
actors_part picture = codes "{\"actors\":" ++ decimal picture.actors

abbrev pub heads_words : List Head → List ℕ
heads_words heads = codes "[" ++ (numbered head_words 0 heads ++ codes "]")

-- up to the list of the lines
unfoldable pub heading_part : Drawn → List ℕ
heading_part picture = codes ",\"heading\":" ++ (heads_words picture.heads ++ codes ",\"lines\":")

abbrev pub lines_words : List Line → List ℕ
lines_words lines = codes "[" ++ (numbered line_words 0 lines ++ codes "]")

unfoldable pub lines_part : Drawn → List ℕ
lines_part picture = lines_words picture.lines ++ codes "}\n"

-- how many actors there are, the heading, and the lines
unfoldable pub picture_json : Drawn → List ℕ
picture_json picture = actors_part picture ++ (heading_part picture ++ lines_part picture)
