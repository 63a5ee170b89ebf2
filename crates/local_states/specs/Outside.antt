-- What actors change outside of their roots, which a check cannot keep from them: a directory that stood below the
-- root at a check may be moved out before the next step.
use Rattle.std.specs.Prelude.{ℕ, suc, ◌==◌, ◌&&◌, ◌||◌, List, [], ◌∷◌, Bool, true, false, not, Option, Some}
use Rattle.tree_model.specs.declared.answer.Event.{Event}
use Rattle.tree_model.specs.declared.inode.Inode.{Inode}
use Rattle.tree_model.specs.StepWith.{StepWith}
use Rattle.tree_model.specs.declared.step.StepOf.TheVariants as steps
use Rattle.tree_model.specs.History.{after_event}
use Rattle.tree_model.specs.State.{State, is_within}
use Rattle.tree_model.specs.Steps.{held}
pub use Rattle.layered_search.specs.Lists.{plus}
use Rattle.race_core.specs.declared.seat.Seat.{Seat}
use Rattle.race_core.specs.Book.{BookedHistory, is_done}
use Rattle.race_core.specs.Worlds.{WorldView}

-- ---- a step

-- the handles of the directories whose entries a step changes
abbrev pub changed_by : StepWith ℕ → List ℕ
changed_by (steps.MakeDir h n) = h ∷ []
changed_by (steps.MakeFile h n) = h ∷ []
changed_by (steps.MakeLink h n text) = h ∷ []
changed_by (steps.RemoveFile h n) = h ∷ []
changed_by (steps.RemoveDir h n) = h ∷ []
changed_by (steps.Rename h n k m mode) = h ∷ k ∷ []
changed_by step = []

-- a directory is neither the root nor below it
abbrev pub is_outside : List Inode → Option ℕ → Option ℕ → Bool
is_outside nodes (Some root) (Some d) = not (is_within nodes root d)
is_outside nodes root d = false

-- one of the actor's handles is on such a directory
abbrev pub any_outside : State → Option ℕ → ℕ → List ℕ → Bool
any_outside s root a [] = false
any_outside s root a (h ∷ hs) = is_outside s.nodes root (held s a h) || any_outside s root a hs

-- the event is a change that was made, of a directory outside of the root in the tree before it
abbrev pub acts_outside : Option ℕ → State → Event → Bool
acts_outside root s event = is_done event.answer && any_outside s root event.actor (changed_by event.step)

-- ---- a history

-- how many of the events from that tree on are such changes of that actor
abbrev pub outside_after : ℕ → Option ℕ → State → List Event → ℕ
outside_after a root s [] = 0
outside_after a root s (event ∷ events) =
    plus ((event.actor == a) && acts_outside root s event) (outside_after a root (after_event s event) events)

-- of each actor from that number on, whose roots these are
abbrev pub outside_from : BookedHistory → ℕ → List (Option ℕ) → List ℕ
outside_from book a [] = []
outside_from book a (root ∷ roots) = outside_after a root book.opening book.events ∷ outside_from book (suc a) roots

-- ---- a world

-- the directory that each actor's root handle is on in the opening tree
abbrev pub roots_from : State → ℕ → List Seat → List (Option ℕ)
roots_from s a [] = []
roots_from s a (seat ∷ seats) = held s a seat.ledger.root.handle ∷ roots_from s (suc a) seats

-- of those whose changes are told: of all actors, or of none
abbrev pub roots_of : Bool → WorldView → List (Option ℕ)
roots_of false w = []
roots_of true w = roots_from w.book.opening 0 w.seats

-- how many changes each of them has made outside of its root
abbrev pub outside_of : Bool → WorldView → List ℕ
outside_of told w = outside_from w.book 0 (roots_of told w)
