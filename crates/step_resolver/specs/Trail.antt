-- How parts are passed while the tree changes: each part as the tree stood at a moment, the moments rising.
-- path_resolution(7); openat2(2), RESOLVE_IN_ROOT, RESOLVE_BENEATH, RESOLVE_NO_SYMLINKS.
use Rattle.std.specs.Prelude.{◌≡◌, ℕ, suc, ◌≤◌, ◌==◌, List, [], ◌∷◌, Bool, true, false, not, if◌then◌else◌, Option, Some, None, slice_get}
use Rattle.path_text.specs.declared.flags.Flags.{Flags}
use Rattle.path_text.specs.Text.{parts_of, begins_with_slash}
use Rattle.tree_model.specs.declared.answer.Event.{Event}
use Rattle.tree_model.specs.declared.inode.Inode.{Inode}
use Rattle.tree_model.specs.declared.inode.Object.{Object}
use Rattle.tree_model.specs.declared.inode.Object.TheVariants.{Dir, File, Link}
use Rattle.tree_model.specs.State.{State, Stands, object_at, child, parent, is_directory}
use Rattle.tree_model.specs.History.{after_events, tree_at}
use Rattle.walk_plan.specs.Plan.{leads_out}
use Rattle.step_resolver.specs.Asked.{AskedPart, Cur, Up, Named, followed}
use Rattle.step_resolver.specs.Meaning.{is_too_long, from_of}

-- What happens to a tree, as one actor's call sees it: the nodes at each moment, which events are its own, and what
-- each node is (it stays that for good); and where the call resolves its path. Event t reads the nodes of moment t.
pub record Timeline : Type 0 where
  pub nodes_at : ℕ → List Inode
  pub is_own : ℕ → Bool
  pub object_of : ℕ → Option Object
  pub root : ℕ
  pub flags : Flags

-- where a walk is: the node, the names passed from the root on (the innermost first), the links left, and the moment
pub record Spot : Type 0 where
  pub node : ℕ
  pub names : List (List ℕ)
  pub links : ℕ
  pub moment : ℕ

-- the same spot at another moment
abbrev pub later : ℕ → Spot → Spot
later m s = record { node = s.node; names = s.names; links = s.links; moment = m }

-- at the root, with these links left
abbrev pub at_root : Timeline → ℕ → ℕ → Spot
at_root timeline b m = record { node = timeline.root; names = []; links = b; moment = m }

-- the child of that name
abbrev pub down_to : Spot → ℕ → List ℕ → ℕ → Spot
down_to s c n m = record { node = c; names = n ∷ s.names; links = s.links; moment = m }

-- where a link's text begins: at the root where it is absolute, else in the directory that holds the link
abbrev pub from_text : Timeline → Spot → List ℕ → ℕ → ℕ → Spot
from_text timeline s text b m = record {
  node = from_of timeline.root s.node text;
  names = if begins_with_slash text then [] else s.names;
  links = b;
  moment = m;
}

-- what is entered by a name: a link only where it isn't followed
abbrev pub is_entered : Bool → Option Object → Bool
is_entered follow None = false
is_entered follow (Some Dir) = true
is_entered follow (Some File) = true
is_entered follow (Some (Link text)) = not follow

-- an event of the call's own, at or after m
pub record IsOwnFrom (timeline : Timeline) (m t : ℕ) : Type 0 where
  pub own : timeline.is_own t ≡ true
  pub later : m ≤ t

-- at the call's own event t the entry of that name in the spot, a directory, is c
pub record IsChildAt (timeline : Timeline) (s : Spot) (n : List ℕ) (t c : ℕ) : Type 0 where
  pub dir : is_directory (timeline.object_of s.node) ≡ true
  pub short : is_too_long n ≡ false
  pub at : IsOwnFrom timeline s.moment t
  pub child : child (timeline.nodes_at t) s.node n ≡ Some c

-- at the call's own event t that entry is a link to be followed, with links left for its text
pub record IsLinkAt (timeline : Timeline) (s : Spot) (n : List ℕ) (t : ℕ) (text : List ℕ) (b : ℕ) : Type 0 where
  pub link : ℕ
  pub child : IsChildAt timeline s n t link
  pub is_link : timeline.object_of link ≡ Some (Link text)
  pub links : s.links ≡ suc b
  pub allowed : timeline.flags.no_links ≡ false
  pub within : leads_out (begins_with_slash text) timeline.flags ≡ false

-- up from the spot, a directory with names passed: e was its parent at the call's own event t, and at a later one,
-- u, it stood under the root at the names less the last
pub record IsUpAt (timeline : Timeline) (s : Spot) (t u e : ℕ) (names : List (List ℕ)) : Type 0 where
  pub dir : is_directory (timeline.object_of s.node) ≡ true
  pub name : List ℕ
  pub passed : s.names ≡ name ∷ names
  pub at : IsOwnFrom timeline s.moment t
  pub parent : parent (timeline.nodes_at t) s.node ≡ Some e
  pub checked : IsOwnFrom timeline (suc t) u
  pub stands : Stands (timeline.nodes_at u) timeline.root e names

-- the root itself, where `..` stays
pub record IsTop (timeline : Timeline) (s : Spot) : Type 0 where
  pub dir : is_directory (timeline.object_of s.node) ≡ true
  pub root : s.node ≡ timeline.root
  pub names : s.names ≡ []
  pub absorbed : timeline.flags.beneath ≡ false

-- Parts are passed from one spot to another, at rising moments that are the call's own events. With no next part all
-- of them are passed (a trail); with one, only those before it are (a stop), which may lie within a link's text.
-- Links count at all depths, since each takes one of those left.
pub data Trail (timeline : Timeline) : List AskedPart → Spot → Spot → Option AskedPart → Type 0 where
  all : {s : Spot} (m : ℕ) → s.moment ≤ m → Trail timeline [] s (later m s) None
  stay : {ps : List AskedPart} {s z : Spot} {next : Option AskedPart} → is_directory (timeline.object_of s.node) ≡ true
      → Trail timeline ps s z next → Trail timeline (Cur ∷ ps) s z next
  top : {ps : List AskedPart} {s z : Spot} {next : Option AskedPart} → IsTop timeline s
      → Trail timeline ps s z next → Trail timeline (Up ∷ ps) s z next
  climb : {ps : List AskedPart} {s z : Spot} {next : Option AskedPart} (t u e : ℕ) (names : List (List ℕ))
      → IsUpAt timeline s t u e names
      → Trail timeline ps (record { node = e; names = names; links = s.links; moment = suc u }) z next
      → Trail timeline (Up ∷ ps) s z next
  down : {follow : Bool} {n : List ℕ} {ps : List AskedPart} {s z : Spot} {next : Option AskedPart} (t c : ℕ)
      → IsChildAt timeline s n t c → is_entered follow (timeline.object_of c) ≡ true
      → Trail timeline ps (down_to s c n (suc t)) z next → Trail timeline (Named follow n ∷ ps) s z next
  through : {n : List ℕ} {ps : List AskedPart} {s z : Spot} {next : Option AskedPart} (t : ℕ)
      (text : List ℕ) (b : ℕ) (mid : Spot)
      → IsLinkAt timeline s n t text b
      → Trail timeline (followed (parts_of text)) (from_text timeline s text b (suc t)) mid None
      → Trail timeline ps mid z next → Trail timeline (Named true n ∷ ps) s z next
  -- stops
  before : {p : AskedPart} {ps : List AskedPart} {s : Spot} (m : ℕ) → s.moment ≤ m
      → Trail timeline (p ∷ ps) s (later m s) (Some p)
  into : {n : List ℕ} {p : AskedPart} {ps : List AskedPart} {s z : Spot} (t : ℕ) (text : List ℕ) (b : ℕ)
      → IsLinkAt timeline s n t text b
      → Trail timeline (followed (parts_of text)) (from_text timeline s text b (suc t)) z (Some p)
      → Trail timeline (Named true n ∷ ps) s z (Some p)

-- ---- the stories that histories make

abbrev pub is_by : ℕ → Option Event → Bool
is_by a None = false
is_by a (Some event) = event.actor == a

-- what happens to the tree in a window of events, as a call of this actor sees it whose own these are; moments count
-- from the window's beginning
abbrev pub timeline_of : State → List Event → ℕ → ℕ → Flags → Timeline
timeline_of s window a r flags = record {
  nodes_at = λ m. (tree_at s window m).nodes;
  is_own = λ t. is_by a (slice_get window t);
  object_of = λ x. object_at (after_events s window).nodes x;
  root = r;
  flags = flags;
}

-- where nothing changes, and each moment may be used
abbrev pub quiet : List Inode → ℕ → Flags → Timeline
quiet nodes r flags = record {
  nodes_at = λ m. nodes;
  is_own = λ t. true;
  object_of = λ x. object_at nodes x;
  root = r;
  flags = flags;
}
