-- A page of HTML (HTML Living Standard, WHATWG): a fixed beginning, a text, of each run the report and the picture as
-- JSON, and a fixed end.
use Rattle.std.specs.Prelude.{ℕ, ◌==◌, List, [], ◌∷◌, ◌++◌, if◌then◌else◌, codes}
use Rattle.std.specs.List.{flat_map}
use Rattle.drawings.specs.declared.picture.Closes.{Closes}
use Rattle.drawings.specs.Picture.{drawn_of}
use Rattle.race_core.specs.declared.report.Outcome.{Outcome}
use Rattle.tree_model.specs.declared.answer.Event.{Event}
use Rattle.tree_model.specs.State.{State}
use Rattle.pages.specs.declared.fixed.TheConstants.{BEGINNING, RUNS, REPORT, PICTURE, RUN_END, END}
use Rattle.pages.specs.declared.played.Played.{Played}
use Rattle.pages.specs.Run.{report_json}
use Rattle.pages.specs.Shown.{picture_json}

-- a byte of a text of HTML: what is taken for markup as its entity (section 13.1.4)
abbrev pub html_byte : ℕ → List ℕ
html_byte b =
    if b == 0x26 then codes "&amp;"
    else if b == 0x3c then codes "&lt;"
    else b ∷ []

abbrev pub html_text : List ℕ → List ℕ
html_text text = flat_map html_byte text

-- a byte of JSON within an element `script`: a less-than sign, which stands in a text of JSON alone, is written as that
-- text's escape (RFC 8259, section 7), since it might begin a closing tag or a comment (HTML, section 4.12.1.3)
abbrev pub script_byte : ℕ → List ℕ
script_byte b = if b == 0x3c then codes "\\u003c" else b ∷ []

abbrev pub script_text : List ℕ → List ℕ
script_text json = flat_map script_byte json

-- what every page has: up to the text, between it and the runs, before the report of each run, between that and its
-- picture, behind that, and behind all
unfoldable pub beginning : List ℕ
beginning = BEGINNING.now

unfoldable pub before_runs : List ℕ
before_runs = RUNS.now

unfoldable pub before_report : List ℕ
before_report = REPORT.now

unfoldable pub before_picture : List ℕ
before_picture = PICTURE.now

unfoldable pub after_run : List ℕ
after_run = RUN_END.now

unfoldable pub ending : List ℕ
ending = END.now

unfoldable pub text_part : List ℕ → List ℕ
text_part text = beginning ++ (html_text text ++ before_runs)

unfoldable pub report_part : List ℕ → List ℕ
report_part report = before_report ++ script_text report

unfoldable pub picture_part : List ℕ → List ℕ
picture_part picture = before_picture ++ (script_text picture ++ after_run)

-- a run of these events from a tree in which the roots are granted: its report, and its picture
abbrev pub played_of : Closes → State → List (List (List ℕ)) → List Event → List (List Outcome) → Played
played_of closes opening calls events replies =
    record { report = report_json opening events replies; picture = drawn_of closes opening calls events replies }

unfoldable pub run_part : Played → List ℕ
run_part run = report_part run.report ++ picture_part (picture_json run.picture)

-- the page of a text, and of runs in their order
unfoldable pub page_of : List ℕ → List Played → List ℕ
page_of text runs = text_part text ++ (flat_map run_part runs ++ ending)
