-- A call that begins with a walk, in a history: the walk's part of the window, and what comes after it.
use Rattle.std.specs.Prelude.{◌≡◌, ℕ, List, [], ◌∷◌, ◌++◌, Some, slice_get}
use Rattle.path_text.specs.declared.errno.Errno.{Errno}
use Rattle.tree_model.specs.declared.answer.Answer.{Answer}
use Rattle.tree_model.specs.declared.answer.Event.{Event}
use Rattle.tree_model.specs.StepWith.{StepWith}
use Rattle.step_resolver.specs.Failures.{TellsError}
use Rattle.step_resolver.specs.Headline.{Headline, Opens}
use Rattle.step_resolver.specs.Order.{Handle, Line, events_of}
use Rattle.step_resolver.specs.Order as walk
use Rattle.step_resolver.specs.WalkHistory.{WalkInHistory, IsWalkInHistory, own_events}
pub use Rattle.step_resolver.specs.Moments.{LeavesEntries, AllLeaveEntries}

-- A call in a history is given as a walk is: `lines` are all that the call was told, those of its walk first.

-- the own event t is this step, with this answer
abbrev pub event_at : WalkInHistory → ℕ → StepWith ℕ → Answer → Type 0
event_at w t step answer = slice_get w.window t ≡ Some (record { actor = w.actor; step = step; answer = answer })

-- the walk's part of the window, with what the walk was told; and what comes after it
abbrev pub walk_part : WalkInHistory → List Event → List Line → WalkInHistory
walk_part w window lines = record w { window = window; lines = lines }

abbrev pub rest_part : WalkInHistory → List Event → List Event → List Line → WalkInHistory
rest_part w first window lines = record w { before = w.before ++ first; window = window; lines = lines }

-- the last of these events, if there is one, is this actor's
abbrev pub EndsInOwn : ℕ → List Event → Type 0
EndsInOwn a [] = Unit {0}
EndsInOwn a (event ∷ []) = event.actor ≡ a
EndsInOwn a (event ∷ next ∷ events) = EndsInOwn a (next ∷ events)

-- A window begins with a walk on its way along its path, which comes to this end. Its part of the window ends in its
-- own last event. The headline holds of it, from the window's beginning on and from any later moment before its own
-- first event.
pub record WalkedTo (w : WalkInHistory) (end : walk.Turn) : Type 0 where
  pub window : List Event
  pub later : List Event
  pub windows : w.window ≡ window ++ later
  pub ends_in_own : EndsInOwn w.actor window
  pub lines : List Line
  pub rest : List Line
  pub all_lines : w.lines ≡ lines ++ rest
  pub own_later : own_events w.actor later ≡ events_of w.actor rest
  pub leads : walk.LeadsTo w.way (walk.begins w.way w.path) lines end
  pub is_walk : IsWalkInHistory (walk_part w window lines)
  pub headline : Headline (walk_part w window lines) end
  pub begun_later : (others onward : List Event) → window ≡ others ++ onward → own_events w.actor others ≡ []
      → Headline (rest_part w others onward lines) end

-- what comes after the walk; its moments count from there
abbrev pub after_walk : {w : WalkInHistory} {end : walk.Turn} → WalkedTo w end → WalkInHistory
after_walk {w} walked = rest_part w walked.window walked.later walked.rest

-- The walk failed so, and is all that the call did. It left all entries.
pub record TellsWalkFailed (w : WalkInHistory) (error : Errno) : Type 0 where
  pub walked : walk.LeadsTo w.way (walk.begins w.way w.path) w.lines (walk.failed error)
  pub true_once : TellsError w error
  pub leaves : AllLeaveEntries w

-- The walk found this object, and is all that the call did.
pub record TellsWalkFound (w : WalkInHistory) (handle : Handle) (names : List (List ℕ)) : Type 0 where
  pub walked : walk.LeadsTo w.way (walk.begins w.way w.path) w.lines (walk.found handle names)
  pub opens : Opens w handle names
