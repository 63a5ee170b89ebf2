-- Entries that are left alone, and when an end is what a path means.
use Rattle.std.specs.Prelude.{◌≡◌, ◌≢◌, ℕ, suc, List, [], ◌∷◌, Bool, true, false, Some, slice_get}
use Rattle.path_text.specs.declared.errno.Errno.{Errno}
use Rattle.path_text.specs.declared.errno.Errno.TheVariants.{NoMemory, TooMany, BookFull}
use Rattle.tree_model.specs.declared.answer.Event.{Event}
use Rattle.tree_model.specs.State.{child}
use Rattle.tree_model.specs.declared.inode.Place.{Place}
use Rattle.step_resolver.specs.Meaning.{Ground, Meant, object, fails}
use Rattle.step_machine.specs.Machine.{HasEnded}
use Rattle.step_resolver.specs.Order.{Turn, under_way, found, failed}
use Rattle.step_resolver.specs.WalkHistory.{WalkInHistory, begin_of, timeline}

-- no event of another in the window changes what stands at that entry
pub record IsLeftAlone (w : WalkInHistory) (entry : Place) : Type 0 where
  pub same : (t : ℕ) (event : Event) → slice_get w.window t ≡ Some event → event.actor ≢ w.actor
      → child ((timeline w).nodes_at (suc t)) entry.parent entry.name
      ≡ child ((timeline w).nodes_at t) entry.parent entry.name

abbrev pub AllLeftAlone : WalkInHistory → List Place → Type 0
AllLeftAlone w [] = Unit {0}
AllLeftAlone w (entry ∷ entries) = IsLeftAlone w entry × AllLeftAlone w entries

-- the ground as the window begins
abbrev pub ground : WalkInHistory → Ground
ground w = record { nodes = (begin_of w).nodes; root = w.root; flags = w.way.flags }

-- an end that isn't want of memory, of room in the book or of handles
abbrev pub is_want : Errno → Bool
is_want NoMemory = true
is_want BookFull = true
is_want TooMany = true
is_want _ = false

abbrev pub is_for_want : Turn → Bool
is_for_want (failed error) = is_want error
is_for_want _ = false

-- an end is what a meaning says
abbrev pub IsMeant : Meant → Turn → Type 0
IsMeant (object x b reads) (found handle names) = handle.node ≡ x
IsMeant (fails error reads) (failed told) = told ≡ error
IsMeant _ _ = ⊥

-- the walk is over
abbrev pub IsEnd : Turn → Type 0
IsEnd turn = HasEnded (under_way turn)
