-- What a call is told, line by line.
use Rattle.std.specs.Prelude.{◌≡◌, ℕ, ◌⊎◌, List, [], ◌∷◌, Bool, true, false}
use Rattle.path_text.specs.declared.errno.Errno.{Errno}
use Rattle.path_text.specs.declared.errno.Errno.TheVariants.{NoMemory, BookFull}
use Rattle.tree_model.specs.declared.answer.Answer.{Answer}
use Rattle.tree_model.specs.declared.answer.Answer.TheVariants.{Refused}
use Rattle.tree_model.specs.declared.answer.Event.{Event}
use Rattle.tree_model.specs.StepWith.{StepWith}
use Rattle.tree_model.specs.declared.step.StepOf.TheVariants.{Close}

-- A line is a step with its answer; a step with its answer, whose use found no memory; or a step that wasn't made, for
-- want of memory or of room in the book.
pub data Line : Type 0 where
  answered : StepWith ℕ → Answer → Line
  no_room : StepWith ℕ → Answer → Line
  not_made : Errno → Line

-- the events that an actor's lines are
abbrev pub events_of : ℕ → List Line → List Event
events_of a [] = []
events_of a (answered step answer ∷ lines) = record { actor = a; step = step; answer = answer } ∷ events_of a lines
events_of a (no_room step answer ∷ lines) = record { actor = a; step = step; answer = answer } ∷ events_of a lines
events_of a (not_made error ∷ lines) = events_of a lines

-- why a step can't be made at all
abbrev pub IsWant : Errno → Type 0
IsWant error = (error ≡ NoMemory) ⊎ (error ≡ BookFull)

abbrev pub is_close : StepWith ℕ → Bool
is_close (Close h) = true
is_close step = false

-- why this step wasn't made: for want of memory or of room in the book, but no Close for that
abbrev pub IsUnmade : StepWith ℕ → Errno → Type 0
IsUnmade step error = IsWant error × (is_close step ≡ false)

-- whether what a line brought found room, and the answer that it hands in: a want is handed in as the step's refusal
abbrev pub has_room : Line → Bool
has_room (answered step answer) = true
has_room (no_room step answer) = false
has_room (not_made error) = true

abbrev pub answer_of : Line → Answer
answer_of (answered step answer) = answer
answer_of (no_room step answer) = answer
answer_of (not_made error) = Refused error
