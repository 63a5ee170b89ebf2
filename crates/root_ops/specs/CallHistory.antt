-- A call in a history, and the handles that its end leaves open.
use Rattle.std.specs.Prelude.{◌≡◌, ◌≢◌, ◌⊎◌, ℕ, List, [], Bool, true, false, Some, None}
use Rattle.path_text.specs.declared.errno.Errno.{Errno}
use Rattle.path_text.specs.declared.errno.Errno.TheVariants.{NoMemory}
use Rattle.path_text.specs.Text.{text_fault}
use Rattle.tree_model.specs.declared.answer.Event.{Event}
use Rattle.tree_model.specs.State.{State, is_dir}
use Rattle.tree_model.specs.Steps.{held}
use Rattle.tree_model.specs.Trees.{IsState}
use Rattle.tree_model.specs.History.{IsLegal, after_events}
use Rattle.step_resolver.specs.Order.{Handle, Line, events_of}
use Rattle.step_resolver.specs.WalkHistory.{own_events}
use Rattle.root_ops.specs.declared.below.Below.{Below}
use Rattle.root_ops.specs.declared.op.Op.{Op}
use Rattle.root_ops.specs.declared.op.Op.TheVariants.{Resolve, ResolveNoFollow, ReadLink, CreateFile, CreateDir, CreateLink, RemoveFile, RemoveDir, Rename, MkdirAll, RemoveAll, Single, Release}
use Rattle.root_ops.specs.Order.{Reply, opened, link_text, done, count, stepped, kept, fault, ends, starts, LeadsTo}

-- A call in a history: the tree at the history's opening, the events before the call, those of its window, where it
-- walks and the node of its root, whether its first turn had memory, what it was asked, and what it was told.
pub record CallInHistory : Type 0 where
  pub opening : State
  pub before : List Event
  pub window : List Event
  pub below : Below
  pub root : ℕ
  pub room : Bool
  pub op : Op
  pub lines : List Line

abbrev pub actor_of : CallInHistory → ℕ
actor_of c = c.below.root.owner.actor

-- the tree as the window begins, and as it ends
abbrev pub begin_of : CallInHistory → State
begin_of c = after_events c.opening c.before

abbrev pub end_of : CallInHistory → State
end_of c = after_events (begin_of c) c.window

-- The opening is a tree, the history is legal, the actor's own events in the window are those of the call, and the
-- root's handle is open, its own, and names a directory.
pub record IsCallInHistory (c : CallInHistory) : Type 0 where
  pub tree : IsState c.opening
  pub legal_before : IsLegal c.opening c.before
  pub legal : IsLegal (begin_of c) c.window
  pub own : own_events (actor_of c) c.window ≡ events_of (actor_of c) c.lines
  pub root : held (begin_of c) (actor_of c) c.below.root.handle ≡ Some c.root
  pub root_is_dir : is_dir (begin_of c).nodes c.root ≡ true

-- the call's lines lead from its first turn to this reply
abbrev pub RepliesWith : CallInHistory → Reply → Type 0
RepliesWith c reply = LeadsTo c.below (starts c.below c.room c.op) c.lines (ends reply)

-- ---- a call that ends by its first turn

-- a text that is no path ends a call at once
abbrev pub IsPath : List ℕ → Type 0
IsPath text = text_fault text ≡ None

-- the text has that fault, or the first turn found no memory; no step was made
pub record EndsAtOnce (c : CallInHistory) (text : List ℕ) (error : Errno) : Type 0 where
  pub why : (text_fault text ≡ Some error) ⊎ ((c.room ≡ false) × (error ≡ NoMemory))
  pub no_step : c.lines ≡ []

-- ---- handles

-- the actor's open handles are those from before
abbrev pub HandlesStay : CallInHistory → Type 0
HandlesStay c = (h : ℕ) → held (end_of c) (actor_of c) h ≡ held (begin_of c) (actor_of c) h

-- and one more, which is open on the node that was told
pub record OneMore (c : CallInHistory) (handle : Handle) : Type 0 where
  pub is_open : held (end_of c) (actor_of c) handle.number ≡ Some handle.node
  pub fresh : held (begin_of c) (actor_of c) handle.number ≡ None
  pub others : (h : ℕ) → h ≢ handle.number → held (end_of c) (actor_of c) h ≡ held (begin_of c) (actor_of c) h

-- all but this one, which is closed
pub record OneLess (c : CallInHistory) (handle : ℕ) : Type 0 where
  pub closed : held (end_of c) (actor_of c) handle ≡ None
  pub others : (h : ℕ) → h ≢ handle → held (end_of c) (actor_of c) h ≡ held (begin_of c) (actor_of c) h

-- after Done a Release has taken its handle away, and any other operation none
abbrev pub AfterDone : CallInHistory → Op → Type 0
AfterDone c (Resolve path) = HandlesStay c
AfterDone c (ResolveNoFollow path) = HandlesStay c
AfterDone c (ReadLink path) = HandlesStay c
AfterDone c (CreateFile path) = HandlesStay c
AfterDone c (CreateDir path) = HandlesStay c
AfterDone c (CreateLink path text) = HandlesStay c
AfterDone c (RemoveFile path) = HandlesStay c
AfterDone c (RemoveDir path) = HandlesStay c
AfterDone c (Rename old new mode) = HandlesStay c
AfterDone c (MkdirAll path) = HandlesStay c
AfterDone c (RemoveAll path) = HandlesStay c
AfterDone c (Single step) = HandlesStay c
AfterDone c (Release standing) = OneLess c standing.handle

abbrev pub HandlesAfter : CallInHistory → Reply → Type 0
HandlesAfter c (opened handle names) = OneMore c handle
HandlesAfter c (link_text text) = HandlesStay c
HandlesAfter c done = AfterDone c c.op
HandlesAfter c (count n) = HandlesStay c
HandlesAfter c (stepped answer) = HandlesStay c
HandlesAfter c (kept standing) = HandlesStay c
HandlesAfter c (fault error) = HandlesStay c

-- After a fault the actor's open handles are those from before the call; after Opened these and one more, which is
-- open on the node that was told; a Release that is done takes its own away; and no other reply changes any. So it
-- is in every legal history.
abbrev pub CallsTell : Type 0
CallsTell = (c : CallInHistory) (reply : Reply) → IsCallInHistory c → RepliesWith c reply → HandlesAfter c reply
