-- The records of events, and the one buffer of their names and texts.
use Rattle.std.specs.Prelude.{◌≡◌, ℕ, ◌+◌, List, [], ◌∷◌, ◌++◌, length, drop, map, All}
use Rattle.tree_model.specs.declared.answer.Answer.{Answer}
use Rattle.tree_model.specs.declared.answer.Event.{Event}
use Rattle.tree_model.specs.StepWith.{StepWith}
use Rattle.event_log.specs.declared.shape.Record.{Record}
use Rattle.event_log.specs.Shapes.{step_shape, step_texts, step_read, step_rest, answer_shape, answer_texts, answer_read, HasStepNames, HasAnswerNames}

abbrev pub event_with : ℕ → StepWith ℕ → Answer → Event
event_with actor step answer = record { actor = actor; step = step; answer = answer }

-- an event's names and texts, its step's first
abbrev pub event_texts : Event → List ℕ
event_texts event = step_texts event.step ++ answer_texts event.answer

-- the record of an event whose names and texts begin there
abbrev pub record_of : ℕ → Event → Record
record_of start event =
    record { start = start; actor = event.actor; step = step_shape event.step; answer = answer_shape event.answer }

-- the two are alike but for where their names and texts begin
abbrev pub IsLike : Record → Record → Type 0
IsLike r q = (r.actor ≡ q.actor) × (r.step ≡ q.step) × (r.answer ≡ q.answer)

-- the event of a record, read from the buffer
abbrev pub event_read : List ℕ → Record → Event
event_read bytes r =
    let own = drop r.start bytes in
    record { actor = r.actor; step = step_read r.step own; answer = answer_read r.answer (step_rest r.step own) }

abbrev pub events_read : List ℕ → List Record → List Event
events_read bytes records = map (event_read bytes) records

-- the records of events whose names and texts lie one after another from there on
abbrev pub records_from : ℕ → List Event → List Record
records_from start [] = []
records_from start (event ∷ events) = record_of start event ∷ records_from (start + length (event_texts event)) events

abbrev pub texts_of : List Event → List ℕ
texts_of [] = []
texts_of (event ∷ events) = event_texts event ++ texts_of events

abbrev pub HasNames : Event → Type 0
HasNames event = HasStepNames event.step × HasAnswerNames event.answer

-- the records and the bytes are exactly those of the events that are read from them
pub record IsLog (bytes : List ℕ) (records : List Record) : Type 0 where
  pub recorded : records ≡ records_from 0 (events_read bytes records)
  pub written : bytes ≡ texts_of (events_read bytes records)
  pub named : All HasNames (events_read bytes records)
