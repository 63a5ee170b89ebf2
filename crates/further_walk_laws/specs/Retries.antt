-- How often a walk can be made in vain: the statement of the law. openat2(2), EAGAIN.
use Rattle.std.specs.Prelude.{◌≡◌, ℕ, suc, ◌+◌, ◌≤◌, List, [], ◌∷◌, ◌++◌, length}
use Rattle.path_text.specs.declared.errno.Errno.TheVariants.{Raced}
use Rattle.tree_model.specs.declared.answer.Event.{Event}
use Rattle.step_resolver.specs.Changes.{changes_by_others}
use Rattle.step_resolver.specs.Order.{failed, begins, LeadsTo}
use Rattle.step_resolver.specs.WalkHistory.{WalkInHistory, IsWalkInHistory}

-- ---- tries

-- a walk in a legal history that ended in EAGAIN
pub record IsInVain (w : WalkInHistory) : Type 0 where
  pub walked : IsWalkInHistory w
  pub ends : LeadsTo w.way (begins w.way w.path) w.lines (failed Raced)

-- a later walk of the same actor in the same history, whatever it is after: its window begins after the other's end
pub record IsLaterTry (w v : WalkInHistory) : Type 0 where
  pub opening : v.opening ≡ w.opening
  pub actor : v.actor ≡ w.actor
  pub between : List Event
  pub before : v.before ≡ w.before ++ (w.window ++ between)

-- one try after another, all in vain
abbrev pub AreInVain : WalkInHistory → List WalkInHistory → Type 0
AreInVain w [] = IsInVain w
AreInVain w (v ∷ vs) = IsInVain w × IsLaterTry w v × AreInVain v vs

-- the changes by others in the windows of the tries alone
abbrev pub changes_in_windows : WalkInHistory → List WalkInHistory → ℕ
changes_in_windows w [] = changes_by_others w.actor w.window
changes_in_windows w (v ∷ vs) = changes_by_others w.actor w.window + changes_in_windows v vs

-- all events from the first try's beginning to the last one's end
abbrev pub meanwhile : (w : WalkInHistory) (ws : List WalkInHistory) → AreInVain w ws → List Event
meanwhile w [] vain = w.window
meanwhile w (v ∷ vs) vain = w.window ++ (vain.1.between ++ meanwhile v vs vain.2)

-- ---- the law

-- So many tries in vain need as many changes by others, within their own windows. With fewer changes meanwhile one of
-- them doesn't end in EAGAIN.
pub record NeedChanges (w : WalkInHistory) (ws : List WalkInHistory) (vain : AreInVain w ws) : Type 0 where
  pub in_windows : suc (length ws) ≤ changes_in_windows w ws
  pub among_all : changes_in_windows w ws ≤ changes_by_others w.actor (meanwhile w ws vain)

abbrev pub RetriesNeedChanges : Type 0
RetriesNeedChanges = (w : WalkInHistory) (ws : List WalkInHistory) (vain : AreInVain w ws) → NeedChanges w ws vain
