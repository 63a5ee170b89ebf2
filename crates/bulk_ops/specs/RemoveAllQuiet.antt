-- What a RemoveAll call means while no other actor takes a step: from the nodes before it to the nodes after it,
-- without a step. unlink(2), rmdir(2); openat2(2).
use Rattle.std.specs.Prelude.{◌≡◌, ◌⊎◌, ℕ, suc, List, [], ◌∷◌, Bool, true, false, if◌then◌else◌, Option, Some, None}
use Rattle.path_text.specs.declared.errno.Errno.{Errno}
use Rattle.path_text.specs.declared.errno.Errno.TheVariants.{NotDir, Busy}
use Rattle.tree_model.specs.declared.inode.Inode.{Inode}
use Rattle.tree_model.specs.declared.inode.Place.{Place}
use Rattle.tree_model.specs.State.{child, is_dir, is_within, at_place}
use Rattle.step_resolver.specs.Asked.{is_deepest}
use Rattle.step_resolver.specs.Headline.{whole_meaning}
use Rattle.step_resolver.specs.Meaning.{object, fails}
use Rattle.step_resolver.specs.Footprint.{is_want}
use Rattle.step_resolver.specs.FootprintLaws.{IsQuiet}
use Rattle.step_resolver.specs.WalkHistory.{WalkInHistory, IsWalkInHistory, begin_of, end_of}
use Rattle.bulk_ops.specs.RemoveAllOrder.{Turn, more, removed, failed, begins, LeadsTo}
use Rattle.bulk_ops.specs.RemoveAllTells.{one_more_if}

-- ---- the meaning

-- x is that node, or stands below it; none is where there is no such node
abbrev pub is_at_or_below : List Inode → Option ℕ → ℕ → Bool
is_at_or_below nodes None x = false
is_at_or_below nodes (Some r) x = is_within nodes r x

-- of nodes whose numbers count up from x, those that go stand nowhere any more, and the others stay as they are
abbrev pub without_from : (ℕ → Bool) → ℕ → List Inode → List Inode
without_from goes x [] = []
without_from goes x (inode ∷ nodes) = (if goes x then at_place None inode else inode) ∷ without_from goes (suc x) nodes

-- how many of them go
abbrev pub how_many_from : (ℕ → Bool) → ℕ → List Inode → ℕ
how_many_from goes x [] = 0
how_many_from goes x (inode ∷ nodes) = one_more_if (goes x) (how_many_from goes (suc x) nodes)

-- the nodes, once the target in that directory and all that stand below it are removed
abbrev pub cleared : List Inode → ℕ → List ℕ → List Inode
cleared nodes dir target = without_from (is_at_or_below nodes (child nodes dir target)) 0 nodes

-- how many rows that takes away: each of these nodes stands at one
abbrev pub cleared_rows : List Inode → ℕ → List ℕ → ℕ
cleared_rows nodes dir target = how_many_from (is_at_or_below nodes (child nodes dir target)) 0 nodes

-- ---- what a quiet call's end is

-- In the tree as the window begins, the directory part of the path means this object.
pub record IsFoundAt (w : WalkInHistory) (dir : ℕ) : Type 0 where
  pub links : ℕ
  pub reads : List Place
  pub means : whole_meaning w ≡ object dir links reads

-- It is a directory; the target in it went with every row below it, nothing else was changed, and the count is the
-- number of these rows.
pub record QuietRemoved (w : WalkInHistory) (target : List ℕ) (count : ℕ) : Type 0 where
  pub dir : ℕ
  pub found : IsFoundAt w dir
  pub directory : is_dir (begin_of w).nodes dir ≡ true
  pub nodes : (end_of w).nodes ≡ cleared (begin_of w).nodes dir target
  pub count_is : count ≡ cleared_rows (begin_of w).nodes dir target

-- the directory part fails so
pub record MeansFailure (w : WalkInHistory) (error : Errno) : Type 0 where
  pub reads : List Place
  pub means : whole_meaning w ≡ fails error reads

-- ENOTDIR: it means what is no directory
pub record MeansNoDirectory (w : WalkInHistory) (error : Errno) : Type 0 where
  pub is_not_dir : error ≡ NotDir
  pub dir : ℕ
  pub found : IsFoundAt w dir
  pub no_dir : is_dir (begin_of w).nodes dir ≡ false

-- Nothing was changed, and that is why.
pub record QuietFailed (w : WalkInHistory) (error : Errno) : Type 0 where
  pub nodes : (end_of w).nodes ≡ (begin_of w).nodes
  pub why : MeansFailure w error ⊎ MeansNoDirectory w error

-- want of memory, of room in the book, of handles or of steps
abbrev pub is_short : Errno → Bool
is_short Busy = true
is_short error = is_want error

abbrev pub IsQuietEnd : WalkInHistory → List ℕ → Turn → Type 0
IsQuietEnd w target (more call) = Unit {0}
IsQuietEnd w target (removed count) = QuietRemoved w target count
IsQuietEnd w target (failed error) = is_short error ≡ false → QuietFailed w error

-- Where no other actor's event stands in the window, a call's end is that. As for a walk, the actor's own events in
-- the window are those of the call, and the root's handle is open, its own, and on a directory.
abbrev pub QuietRemoveAll : Type 0
QuietRemoveAll = (w : WalkInHistory) (target : List ℕ) (end : Turn) → IsWalkInHistory w → is_deepest w.way.goal ≡ false
    → LeadsTo (begins w.way target w.path) w.lines end → IsQuiet w → IsQuietEnd w target end
