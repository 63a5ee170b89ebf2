-- What was so at a walk's own events, and which handles it leaves open.
use Rattle.std.specs.Prelude.{◌≡◌, ◌≢◌, ℕ, suc, List, true, Some, None}
use Rattle.tree_model.specs.declared.inode.Object.{Object}
use Rattle.tree_model.specs.State.{Stands, child, is_directory}
use Rattle.tree_model.specs.Steps.{held, kind_of}
use Rattle.step_resolver.specs.Trail.{Spot, IsOwnFrom}
use Rattle.step_resolver.specs.Order.{Handle}
use Rattle.step_resolver.specs.WalkHistory.{WalkInHistory, begin_of, end_of, timeline}

abbrev pub IsDirectory : WalkInHistory → ℕ → Type 0
IsDirectory w x = is_directory ((timeline w).object_of x) ≡ true

-- at the walk's own event v, after all that led to the spot, it stood under the root at the names passed
pub record StoodAt (w : WalkInHistory) (to : Spot) (v : ℕ) : Type 0 where
  pub at : IsOwnFrom (timeline w) to.moment v
  pub stands : Stands ((timeline w).nodes_at v) w.root to.node to.names

-- at that event it didn't
pub record DidNotStandAt (w : WalkInHistory) (to : Spot) (m v : ℕ) : Type 0 where
  pub at : IsOwnFrom (timeline w) m v
  pub astray : Stands ((timeline w).nodes_at v) w.root to.node to.names → ⊥

-- at the walk's own event v the spot, a directory, had no entry of that name
pub record IsMissingAt (w : WalkInHistory) (to : Spot) (n : List ℕ) (v : ℕ) : Type 0 where
  pub dir : IsDirectory w to.node
  pub at : IsOwnFrom (timeline w) to.moment v
  pub missing : child ((timeline w).nodes_at v) to.node n ≡ None

-- that event leaves the nodes, and with them all entries
abbrev pub LeavesEntries : WalkInHistory → ℕ → Type 0
LeavesEntries w t = (timeline w).nodes_at (suc t) ≡ (timeline w).nodes_at t

-- each of the walk's own events does
abbrev pub AllLeaveEntries : WalkInHistory → Type 0
AllLeaveEntries w = (t : ℕ) → (timeline w).is_own t ≡ true → LeavesEntries w t

-- the actor's open handles are those from before
abbrev pub HandlesStay : WalkInHistory → Type 0
HandlesStay w = (h : ℕ) → held (end_of w) w.actor h ≡ held (begin_of w) w.actor h

-- a handle is open and names its node, of that kind; beside it the actor's open handles are those from before
pub record IsNewHandle (w : WalkInHistory) (handle : Handle) : Type 0 where
  pub is_open : held (end_of w) w.actor handle.number ≡ Some handle.node
  pub fresh : held (begin_of w) w.actor handle.number ≡ None
  pub others : (h : ℕ) → h ≢ handle.number → held (end_of w) w.actor h ≡ held (begin_of w) w.actor h
  pub what : Object
  pub is_what : (timeline w).object_of handle.node ≡ Some what
  pub kind : kind_of what ≡ handle.kind
