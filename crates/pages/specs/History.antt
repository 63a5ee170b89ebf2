-- The events of a run, each with what it changed.
use Rattle.std.specs.Prelude.{ℕ, suc, List, [], ◌∷◌, ◌++◌, codes, decimal}
use Rattle.event_log.specs.Words.{line_of, step_words, answer_words}
use Rattle.tree_model.specs.declared.answer.Event.{Event}
use Rattle.tree_model.specs.History.{after_event}
use Rattle.tree_model.specs.State.{State}
use Rattle.pages.specs.Changes.{changes_words}
use Rattle.report_text.specs.Json.{text_words, comma_words}

-- the step and its answer in the words of a report's line
unfoldable pub step_part : Event → List ℕ
step_part event = codes ",\"step\":" ++ text_words (line_of (step_words event.step))

unfoldable pub answer_part : Event → List ℕ
answer_part event = codes ",\"answer\":" ++ text_words (line_of (answer_words event.answer))

unfoldable pub deed_words : Event → List ℕ
deed_words event = (codes "{\"actor\":" ++ decimal event.actor) ++ (step_part event ++ answer_part event)

-- an event by its place, and what the tree has after it that it hadn't just before
abbrev pub event_words : State → ℕ → Event → List ℕ
event_words s at event =
    comma_words at ++ (deed_words event ++ (changes_words s.nodes s.handles (after_event s event) ++ codes "}"))

-- all events from a tree on, counted from k
abbrev pub events_from : State → ℕ → List Event → List ℕ
events_from s k [] = []
events_from s k (event ∷ events) = event_words s k event ++ events_from (after_event s event) (suc k) events
