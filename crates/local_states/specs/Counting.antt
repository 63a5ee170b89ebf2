-- How what actors change outside of their roots is counted, a turn at a time.
use Rattle.std.specs.Prelude.{◌≡◌, ℕ, suc, List, Bool, true, false, Option, slice_set, slice_index_or}
use Rattle.tree_model.specs.declared.inode.Inode.{Inode}
use Rattle.tree_model.specs.StepWith.{StepWith}
use Rattle.race_core.specs.Book.{BookedHistory, tree_now, booked}
use Rattle.race_core.specs.Worlds.{WorldView}
use Rattle.local_states.specs.Outside.{outside_from, roots_of}

-- whether changes are told; the directories that are the roots of those whose are, how many changes each of them has
-- made outside of its own, and, where there is one, the nodes as they are
pub record TallyView : Type 0 where
  pub told : Bool
  pub roots : List (Option ℕ)
  pub counts : List ℕ
  pub nodes : List Inode

-- all events of the book are counted
pub record IsCounted (book : BookedHistory) (tally : TallyView) : Type 0 where
  pub counts_are : tally.counts ≡ outside_from book 0 tally.roots
  pub nodes_are : tally.told ≡ true → tally.nodes ≡ (tree_now book).nodes

-- and the roots are those of the world's actors whose changes are told
pub record IsTally (w : WorldView) (tally : TallyView) : Type 0 where
  pub roots_are : tally.roots ≡ roots_of tally.told w
  pub counted : IsCounted w.book tally

-- one more at that place, if it is so
abbrev pub bumped : Bool → ℕ → List ℕ → List ℕ
bumped false at counts = counts
bumped true at counts = slice_set counts at (suc (slice_index_or counts at 0))

-- the book has one event more
pub record IsLatest (before after : BookedHistory) : Type 0 where
  pub actor : ℕ
  pub step : StepWith ℕ
  pub is : after ≡ booked before actor step
