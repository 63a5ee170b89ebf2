-- What a walk's end is where no other actor changes an entry that its path reads: the statements of the laws.
-- path_resolution(7); openat2(2).
use Rattle.std.specs.Prelude.{◌≡◌, ◌≢◌, ◌⊎◌, ℕ, suc, List, [], ◌∷◌, true, false, Some, slice_get}
use Rattle.path_text.specs.declared.errno.Errno.TheVariants.{Raced}
use Rattle.tree_model.specs.declared.answer.Event.{Event}
use Rattle.tree_model.specs.State.{child, Stands}
use Rattle.tree_model.specs.declared.inode.Place.{Place}
use Rattle.step_resolver.specs.Asked.{follows, is_deepest}
use Rattle.step_resolver.specs.Meaning.{reads_of, reading_means}
use Rattle.step_resolver.specs.Order.{Turn, more, found, partial, failed, begins, LeadsTo}
use Rattle.step_resolver.specs.WalkHistory.{WalkInHistory, IsWalkInHistory, begin_of, end_of, timeline}
use Rattle.step_resolver.specs.Footprint.{ground, IsEnd, is_for_want, IsMeant}
use Rattle.step_resolver.specs.Deepest.{reading_deepest, IsMeantDeep}
use Rattle.step_resolver.specs.Headline.{Means, MeansDeepest}

-- Where no event of another in the window changes an entry that the path reads in the tree as the window begins, the
-- end is what the path means in that tree, whatever else is changed.
abbrev pub WalksMean : Type 0
WalksMean = (w : WalkInHistory) (end : Turn) → IsWalkInHistory w → LeadsTo w.way (begins w.way w.path) w.lines end
    → Means w end × MeansDeepest w end

-- no event of another stands in the window
abbrev pub IsQuiet : WalkInHistory → Type 0
IsQuiet w = (t : ℕ) (event : Event) → slice_get w.window t ≡ Some event → event.actor ≡ w.actor

-- what is held at the end stands at the names that are told
abbrev pub StandsThere : WalkInHistory → Turn → Type 0
StandsThere w (more walk) = Unit {0}
StandsThere w (found handle names) = Stands (begin_of w).nodes w.root handle.node names
StandsThere w (partial handle names rest) = Stands (begin_of w).nodes w.root handle.node names
StandsThere w (failed error) = Unit {0}

-- Then no node is changed, the end is what the path means in the tree as it stood, and its object stands at the
-- names told.
pub record IsQuietEnd (w : WalkInHistory) (end : Turn) : Type 0 where
  pub nodes : (end_of w).nodes ≡ (begin_of w).nodes
  pub names : StandsThere w end
  pub means : is_deepest w.way.goal ≡ false → IsMeant (reading_means (ground w) w.path (follows w.way.goal)) end
  pub deepest : is_deepest w.way.goal ≡ true → IsMeantDeep (reading_deepest (ground w) w.path) end

abbrev pub QuietWalksMean : Type 0
QuietWalksMean = (w : WalkInHistory) (end : Turn) → IsWalkInHistory w
    → LeadsTo w.way (begins w.way w.path) w.lines end → IsEnd end
    → IsQuiet w → is_for_want end ≡ false → IsQuietEnd w end

-- an event of another in the window changes what stands at that entry
pub record IsChanged (w : WalkInHistory) (entry : Place) : Type 0 where
  pub when : ℕ
  pub event : Event
  pub is_event : slice_get w.window when ≡ Some event
  pub by_other : event.actor ≢ w.actor
  pub changed : child ((timeline w).nodes_at (suc when)) entry.parent entry.name
      ≢ child ((timeline w).nodes_at when) entry.parent entry.name

abbrev pub SomeIsChanged : WalkInHistory → List Place → Type 0
SomeIsChanged w [] = ⊥
SomeIsChanged w (entry ∷ entries) = IsChanged w entry ⊎ SomeIsChanged w entries

-- so EAGAIN tells of an entry that the path reads in the tree as the window begins, and that another changed
abbrev pub RacedTellsOfChange : Type 0
RacedTellsOfChange = (w : WalkInHistory) → IsWalkInHistory w
    → LeadsTo w.way (begins w.way w.path) w.lines (failed Raced)
    → SomeIsChanged w (reads_of (reading_means (ground w) w.path (follows w.way.goal)))
