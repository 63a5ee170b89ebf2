-- A book as contracts see it: the opening tree, the events since, and how many lines it has.
use Rattle.std.specs.Prelude.{◌≡◌, ℕ, ◌+◌, ◌-◌, ◌≤◌, ◌<◌, List, [], ◌∷◌, ◌++◌, Bool, true, false, length, is_some, not, nat_lt, if◌then◌else◌, Option, Some, None, Result, Ok, Err}
use Rattle.path_text.specs.declared.errno.Errno.{Errno}
use Rattle.path_text.specs.declared.errno.Errno.TheVariants.{BadHandle, NoMemory, Invalid, BookFull}
use Rattle.tree_model.specs.declared.answer.Answer.{Answer}
use Rattle.tree_model.specs.declared.answer.Answer.TheVariants.{Opened, Text, Names, NotBelow, Listed, Done, Refused}
use Rattle.tree_model.specs.declared.answer.Event.{Event}
use Rattle.tree_model.specs.StepWith.{StepWith}
use Rattle.tree_model.specs.declared.step.StepOf.TheVariants.{Open, Dup, Parent, ReadLink, NameBelow, List as ListNames, Close, MakeDir, MakeFile, MakeLink, RemoveFile, RemoveDir, Rename}
use Rattle.tree_model.specs.History.{after_events, IsLegal}
use Rattle.tree_model.specs.State.{State}
use Rattle.tree_model.specs.StepLaws.{open_count}
use Rattle.tree_model.specs.Steps.{outcome, held}
pub use Rattle.step_machine.specs.Told.{is_close}
use Rattle.race_core.specs.declared.book.TheConstants.{LINES_MAX}

pub record BookedHistory : Type 0 where
  pub opening : State
  pub events : List Event
  pub lines : ℕ

-- the tree as the events left it
abbrev pub tree_now : BookedHistory → State
tree_now book = after_events book.opening book.events

-- the lines that are neither an event's nor kept for the Close of an open handle
abbrev pub free_lines : BookedHistory → ℕ
free_lines book = book.lines - (length book.events + open_count (tree_now book))

-- a step that may open a handle needs a line for itself and one for the Close; a Close has its own
abbrev pub lines_needed : StepWith ℕ → ℕ
lines_needed (Open h n) = 2
lines_needed (Dup h) = 2
lines_needed (Parent h) = 2
lines_needed (Close h) = 0
lines_needed (ReadLink h) = 1
lines_needed (NameBelow r h) = 1
lines_needed (ListNames h) = 1
lines_needed (MakeDir h n) = 1
lines_needed (MakeFile h n) = 1
lines_needed (MakeLink h n text) = 1
lines_needed (RemoveFile h n) = 1
lines_needed (RemoveDir h n) = 1
lines_needed (Rename h n k m mode) = 1

-- the step is the Close of a handle that isn't open, or not the actor's (close(2), EBADF)
abbrev pub closes_nothing : State → ℕ → StepWith ℕ → Bool
closes_nothing s a (Close h) = not (is_some (held s a h))
closes_nothing s a (Open h n) = false
closes_nothing s a (Dup h) = false
closes_nothing s a (Parent h) = false
closes_nothing s a (ReadLink h) = false
closes_nothing s a (NameBelow r h) = false
closes_nothing s a (ListNames h) = false
closes_nothing s a (MakeDir h n) = false
closes_nothing s a (MakeFile h n) = false
closes_nothing s a (MakeLink h n text) = false
closes_nothing s a (RemoveFile h n) = false
closes_nothing s a (RemoveDir h n) = false
closes_nothing s a (Rename h n k m mode) = false

-- why a step isn't made, where it isn't: the book is full for it, or it is a Close of nothing
abbrev pub refusal : BookedHistory → ℕ → StepWith ℕ → Option Errno
refusal book a step =
    if nat_lt (free_lines book) (lines_needed step) then Some BookFull
    else (if closes_nothing (tree_now book) a step then Some BadHandle else None)

-- what the step is answered
abbrev pub answer_now : BookedHistory → ℕ → StepWith ℕ → Answer
answer_now book a step = (outcome (tree_now book) a step).answer

-- the step, with its answer, is one event more
abbrev pub booked : BookedHistory → ℕ → StepWith ℕ → BookedHistory
booked book a step = record {
  opening = book.opening;
  events = book.events ++ record { actor = a; step = step; answer = answer_now book a step } ∷ [];
  lines = book.lines;
}

abbrev pub is_done : Answer → Bool
is_done Done = true
is_done (Opened h x kind) = false
is_done (Text text) = false
is_done (Names names) = false
is_done NotBelow = false
is_done (Listed names) = false
is_done (Refused error) = false

-- what the Close of a handle comes to
abbrev pub closed_now : BookedHistory → ℕ → ℕ → Result Answer Errno
closed_now book a h = if is_some (held (tree_now book) a h) then Ok Done else Err BadHandle

-- a book of a tree, without an event yet
abbrev pub opened_book : State → ℕ → BookedHistory
opened_book s lines = record { opening = s; events = []; lines = lines }

-- when a book of that many lines may be refused for a cause
abbrev pub MayRefuse : State → ℕ → Errno → Type 0
MayRefuse s lines Invalid = LINES_MAX < lines
MayRefuse s lines BookFull = (lines ≤ LINES_MAX) × (lines < open_count s)
MayRefuse s lines NoMemory = lines ≤ LINES_MAX
MayRefuse s lines other = ⊥

-- What a book keeps. Its tree is the one that its legal events lead to, its handles are counted, and the events and
-- the Closes to come have their lines, and the Closes their memory.
pub record IsBook (opening tree : State) (events : List Event) (lines open_handles room : ℕ) : Type 0 where
  pub legal : IsLegal opening events
  pub current : tree ≡ after_events opening events
  pub counted : open_handles ≡ open_count tree
  pub in_lines : length events + open_handles ≤ lines
  pub in_room : open_handles ≤ room
  pub bounded : lines ≤ LINES_MAX
