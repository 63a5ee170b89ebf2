-- The report of a run as JSON: the tree as the run begins, each event with what it changed, and how the calls ended.
use Rattle.std.specs.Prelude.{ℕ, List, [], ◌++◌, codes}
use Rattle.race_core.specs.declared.report.Outcome.{Outcome}
use Rattle.report_text.specs.Report.{numbered, reply_words}
use Rattle.tree_model.specs.declared.answer.Event.{Event}
use Rattle.tree_model.specs.State.{State}
use Rattle.pages.specs.Changes.{changes_words}
use Rattle.pages.specs.History.{events_from}
use Rattle.report_text.specs.Json.{text_words, comma_words}

-- how a call ended, by its place
abbrev pub reply_at : ℕ → Outcome → List ℕ
reply_at at outcome = comma_words at ++ text_words (reply_words outcome)

-- an actor's calls, by its place
abbrev pub replies_at : ℕ → List Outcome → List ℕ
replies_at at outcomes = comma_words at ++ (codes "[" ++ (numbered reply_at 0 outcomes ++ codes "]"))

abbrev pub replies_words : List (List Outcome) → List ℕ
replies_words replies = codes "[" ++ (numbered replies_at 0 replies ++ codes "]")

-- up to the list of the events
unfoldable pub replies_part : List (List Outcome) → List ℕ
replies_part replies = codes ",\"replies\":" ++ (replies_words replies ++ codes ",\"events\":")

-- the version of this form; and what the tree has as the run begins, which is all that it has beyond nothing
unfoldable pub opening_part : State → List ℕ
opening_part opening = codes "{\"version\":1" ++ changes_words [] [] opening

abbrev pub events_words : State → List Event → List ℕ
events_words opening events = codes "[" ++ (events_from opening 0 events ++ codes "]")

unfoldable pub events_part : State → List Event → List ℕ
events_part opening events = events_words opening events ++ codes "}\n"

-- an object and a line end
unfoldable pub report_json : State → List Event → List (List Outcome) → List ℕ
report_json opening events replies = opening_part opening ++ (replies_part replies ++ events_part opening events)
