-- What each failure of a walk tells of the tree, while others change it. path_resolution(7); openat2(2).
use Rattle.std.specs.Prelude.{◌≡◌, ℕ, suc, ◌≤◌, ◌⊎◌, List, [], ◌∷◌, Bool, true, false, Some, None, slice_get}
use Rattle.path_text.specs.declared.errno.Errno.{Errno}
use Rattle.path_text.specs.declared.errno.Errno.TheVariants.{NotFound, BadHandle, Raced, NoMemory, Busy, Exists, CrossRoot, NotDir, IsDir, Invalid, TooMany, BookFull, TooLong, NotEmpty, Loop}
use Rattle.path_text.specs.Text.{begins_with_slash}
use Rattle.tree_model.specs.declared.answer.Answer.TheVariants.{Refused}
use Rattle.tree_model.specs.declared.inode.Object.{Object}
use Rattle.tree_model.specs.declared.inode.Object.TheVariants.{Link}
use Rattle.tree_model.specs.StepWith.{StepWith}
use Rattle.tree_model.specs.State.{Stands, child, parent, is_directory}
use Rattle.tree_model.specs.Steps.{held_count, is_full, outcome}
use Rattle.step_resolver.specs.Asked.{AskedPart, Up, Named, is_deepest}
use Rattle.step_resolver.specs.Meaning.{is_too_long}
use Rattle.step_resolver.specs.Trail.{Spot, Trail, IsOwnFrom}
use Rattle.step_resolver.specs.Order.{Line, answered, no_room, not_made}
use Rattle.step_resolver.specs.WalkHistory.{WalkInHistory, begin_of, state_at, timeline, parts_of_walk, start, IsTrailTo}
pub use Rattle.step_resolver.specs.Moments.{IsDirectory, DidNotStandAt, IsMissingAt, HandlesStay}
pub use Rattle.step_resolver.specs.Deepest.{IsWithinLink, TellsRacedDeepest}

-- ---- where a walk stops

-- the parts before this one were passed
abbrev pub IsStopAt : WalkInHistory → Spot → AskedPart → Type 0
IsStopAt w to next = Trail (timeline w) (parts_of_walk w) (start w) to (Some next)

-- at the walk's own event v that entry, of a directory, was a link with that text
pub record IsLinkThere (w : WalkInHistory) (to : Spot) (n text : List ℕ) (v : ℕ) : Type 0 where
  pub dir : IsDirectory w to.node
  pub short : is_too_long n ≡ false
  pub at : IsOwnFrom (timeline w) to.moment v
  pub link : ℕ
  pub child : child ((timeline w).nodes_at v) to.node n ≡ Some link
  pub is_link : (timeline w).object_of link ≡ Some (Link text)

-- ---- each error

-- ENOENT: a name was missing; for the deepest directory one of a link's text.
pub record TellsNotFound (w : WalkInHistory) : Type 0 where
  pub to : Spot
  pub follow : Bool
  pub name : List ℕ
  pub stop : IsStopAt w to (Named follow name)
  pub within : is_deepest w.way.goal ≡ true → IsWithinLink w to (Named follow name)
  pub short : is_too_long name ≡ false
  pub when : ℕ
  pub missing : IsMissingAt w to name when

-- ENOTDIR: what had been reached before a part was no directory.
pub record TellsNotDir (w : WalkInHistory) : Type 0 where
  pub to : Spot
  pub next : AskedPart
  pub stop : IsStopAt w to next
  pub what : Object
  pub is_what : (timeline w).object_of to.node ≡ Some what
  pub no_dir : is_directory (Some what) ≡ false

-- ENAMETOOLONG: the next part of a directory was a name that is too long.
pub record TellsTooLong (w : WalkInHistory) : Type 0 where
  pub to : Spot
  pub follow : Bool
  pub name : List ℕ
  pub stop : IsStopAt w to (Named follow name)
  pub dir : IsDirectory w to.node
  pub long : is_too_long name ≡ true

-- ELOOP: no link was left, or none may be followed, and the next name was a link to be followed.
pub record TellsLoop (w : WalkInHistory) : Type 0 where
  pub to : Spot
  pub name : List ℕ
  pub stop : IsStopAt w to (Named true name)
  pub used_up : (to.links ≡ 0) ⊎ (w.way.flags.no_links ≡ true)
  pub text : List ℕ
  pub when : ℕ
  pub link : IsLinkThere w to name text when

-- EXDEV, under `beneath`: the path was absolute, and no step was made; or the next part was `..` with no names
-- passed; or it was a link to be followed whose text is absolute.
pub record TellsUpFromRoot (w : WalkInHistory) : Type 0 where
  pub to : Spot
  pub stop : IsStopAt w to Up
  pub node : to.node ≡ w.root
  pub names : to.names ≡ []

pub record TellsAbsoluteLink (w : WalkInHistory) : Type 0 where
  pub to : Spot
  pub name : List ℕ
  pub stop : IsStopAt w to (Named true name)
  pub left : ℕ
  pub links : to.links ≡ suc left
  pub allowed : w.way.flags.no_links ≡ false
  pub text : List ℕ
  pub absolute : begins_with_slash text ≡ true
  pub when : ℕ
  pub link : IsLinkThere w to name text when

pub record TellsCrossRoot (w : WalkInHistory) : Type 0 where
  pub beneath : w.way.flags.beneath ≡ true
  pub why : ((w.path.absolute ≡ true) × (w.lines ≡ [])) ⊎ (TellsUpFromRoot w ⊎ TellsAbsoluteLink w)

-- EAGAIN: at a `..` the place was gone, or its parent didn't stand at the names less the last
pub record TellsRacedUp (w : WalkInHistory) : Type 0 where
  pub to : Spot
  pub stop : IsStopAt w to Up
  pub name : List ℕ
  pub names : List (List ℕ)
  pub passed : to.names ≡ name ∷ names
  pub when : ℕ
  pub at : IsOwnFrom (timeline w) to.moment when
  pub why : (parent ((timeline w).nodes_at when) to.node ≡ None)
      ⊎ ((e : ℕ) × ((parent ((timeline w).nodes_at when) to.node ≡ Some e)
      × ((u : ℕ) × (IsOwnFrom (timeline w) (suc when) u × (Stands ((timeline w).nodes_at u) w.root e names → ⊥)))))

-- or all parts were passed, and what was reached didn't stand at the names passed
pub record TellsRacedEnd (w : WalkInHistory) : Type 0 where
  pub to : Spot
  pub trail : IsTrailTo w (parts_of_walk w) to
  pub when : ℕ
  pub astray : DidNotStandAt w to to.moment when

-- a step that was made and refused for want of handles
abbrev pub IsRefusal : StepWith ℕ → Line → Type 0
IsRefusal step (answered made answer) = (made ≡ step) × (answer ≡ Refused TooMany)
IsRefusal step (no_room made answer) = (made ≡ step) × (answer ≡ Refused TooMany)
IsRefusal step (not_made cause) = ⊥

abbrev pub MetRefusal : StepWith ℕ → List Line → Type 0
MetRefusal step [] = ⊥
MetRefusal step (line ∷ lines) = IsRefusal step line ⊎ MetRefusal step lines

-- EMFILE: a step of the walk was refused so, by the step table too. The actor, which then held one handle more than
-- before at most, could open no more, or the numbers were used up.
pub record TellsTooMany (w : WalkInHistory) : Type 0 where
  pub step : StepWith ℕ
  pub line : MetRefusal step w.lines
  pub when : ℕ
  pub event : slice_get w.window when ≡ Some (record { actor = w.actor; step = step; answer = Refused TooMany })
  pub told : (outcome (state_at w when) w.actor step).answer ≡ Refused TooMany
  pub full : is_full (state_at w when) w.actor ≡ true
  pub few : held_count (state_at w when) w.actor ≤ suc (held_count (begin_of w) w.actor)

-- ENOMEM and ENOSPC: a step wasn't made for that want, or what its answer brings found no memory.
abbrev pub IsWantOf : Errno → Line → Type 0
IsWantOf error (answered step answer) = ⊥
IsWantOf error (no_room step answer) = error ≡ NoMemory
IsWantOf error (not_made cause) = error ≡ cause

abbrev pub TellsWant : Errno → List Line → Type 0
TellsWant error [] = ⊥
TellsWant error (line ∷ lines) = IsWantOf error line ⊎ TellsWant error lines

-- what each error tells; those that aren't named never come, and neither does EBADF, since the root's handle is open
abbrev pub TellsError : WalkInHistory → Errno → Type 0
TellsError w NotFound = TellsNotFound w
TellsError w NotDir = TellsNotDir w
TellsError w TooLong = TellsTooLong w
TellsError w Loop = TellsLoop w
TellsError w CrossRoot = TellsCrossRoot w
TellsError w Raced = TellsRacedUp w ⊎ (TellsRacedEnd w ⊎ TellsRacedDeepest w)
TellsError w TooMany = TellsTooMany w
TellsError w NoMemory = TellsWant NoMemory w.lines
TellsError w BookFull = TellsWant BookFull w.lines
TellsError w BadHandle = ⊥
TellsError w Busy = ⊥
TellsError w Exists = ⊥
TellsError w IsDir = ⊥
TellsError w Invalid = ⊥
TellsError w NotEmpty = ⊥
