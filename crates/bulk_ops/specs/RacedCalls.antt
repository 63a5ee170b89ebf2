-- What an EAGAIN of a bulk call says of others: the statements of the laws. mkdir(2), unlink(2), rmdir(2); openat2(2).
use Rattle.std.specs.Prelude.{◌≡◌, ℕ, ◌≤◌, List, false}
use Rattle.path_text.specs.declared.errno.Errno.TheVariants.{Raced}
use Rattle.tree_model.specs.State.{is_gone}
use Rattle.step_resolver.specs.Asked.{is_deepest}
use Rattle.step_resolver.specs.Changes.{changes_by_others}
use Rattle.step_resolver.specs.WalkHistory.{WalkInHistory, IsWalkInHistory, begin_of}
use Rattle.bulk_ops.specs.MakeAllOrder as make
use Rattle.bulk_ops.specs.RemoveAllOrder as remove

-- Where the root's directory stands as the window begins, a MkdirAll that failed so met a change of another in its
-- window: a step that made, removed or renamed an entry. (Below a root that is gone nothing can be made, whoever acts.)
abbrev pub RacedMakesNeedAChange : Type 0
RacedMakesNeedAChange = (w : WalkInHistory) → IsWalkInHistory w → is_gone (begin_of w).nodes w.root ≡ false
    → make.LeadsTo w.way (make.begins w.way w.path) w.lines (make.failed Raced)
    → 1 ≤ changes_by_others w.actor w.window

-- so did a RemoveAll
abbrev pub RacedRemovalsNeedAChange : Type 0
RacedRemovalsNeedAChange = (w : WalkInHistory) (target : List ℕ) → IsWalkInHistory w → is_deepest w.way.goal ≡ false
    → remove.LeadsTo (remove.begins w.way target w.path) w.lines (remove.failed Raced)
    → 1 ≤ changes_by_others w.actor w.window
