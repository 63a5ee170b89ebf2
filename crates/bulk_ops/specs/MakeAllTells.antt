-- What a call to MkdirAll did and what its end tells, in every legal history. mkdir(2), path_resolution(7),
-- openat2(2).
use Rattle.std.specs.Prelude.{◌≡◌, ℕ, suc, ◌<◌, ◌≤◌, ◌⊎◌, List, [], ◌∷◌, ◌++◌, true, false, length, reverse, Some, None, Ok}
use Rattle.path_text.specs.declared.errno.Errno.{Errno}
use Rattle.path_text.specs.declared.errno.Errno.TheVariants.{NotFound, Raced, Exists, NotDir, TooMany}
use Rattle.tree_model.specs.declared.answer.Answer.{Answer}
use Rattle.tree_model.specs.declared.answer.Answer.TheVariants.{Done, Refused}
use Rattle.tree_model.specs.declared.inode.Object.TheVariants.{Dir}
use Rattle.tree_model.specs.StepWith.{StepWith}
use Rattle.tree_model.specs.declared.step.StepOf.TheVariants.{Open, MakeDir}
use Rattle.tree_model.specs.State.{Stands, child, is_directory, is_gone}
use Rattle.tree_model.specs.Entries.{makes}
use Rattle.tree_model.specs.declared.tree.TheConstants.{NUMBERS_MAX}
use Rattle.tree_model.specs.Steps.{outcome, held_count, is_full}
use Rattle.step_resolver.specs.Asked.{AskedPart}
use Rattle.step_resolver.specs.Trail.{Timeline, Spot, down_to, IsOwnFrom, IsChildAt}
use Rattle.step_resolver.specs.Order.{Handle, IsWant, is_dir_kind}
use Rattle.step_resolver.specs.Order as walk
use Rattle.step_resolver.specs.WalkHistory.{WalkInHistory, IsWalkInHistory, begin_of, state_at, timeline}
use Rattle.step_resolver.specs.Failures.{HandlesStay, TellsWant}
use Rattle.step_resolver.specs.Headline.{StoodAt, IsNewHandle}
use Rattle.bulk_ops.specs.MakeAllOrder.{MakeTurn, more, made, failed, begins, rest_fault, rest_names, LeadsTo}
use Rattle.bulk_ops.specs.WalkFirst.{event_at, LeavesEntries, WalkedTo, TellsWalkFailed, TellsWalkFound}

-- From one directory to another by names alone, each opened at an own moment, the moments rising, and never through a
-- link. Names the innermost first.
pub data OpenedDown (timeline : Timeline) (from : Spot) : List (List ℕ) → Spot → Type 0 where
  stays : OpenedDown timeline from [] from
  into : {names : List (List ℕ)} {d : Spot} (n : List ℕ) (t c : ℕ) → OpenedDown timeline from names d
      → IsChildAt timeline d n t c
      → is_directory (timeline.object_of c) ≡ true → OpenedDown timeline from (n ∷ names) (down_to d c n (suc t))

-- ---- where the call begins to make

-- The call's walk came to the deepest directory that was there, and to this rest of the path, whose first name it
-- lacked; afterwards it stood under the root at the names passed, as the walk's headline says.
pub record DeepestAt (w : WalkInHistory) : Type 0 where
  pub handle : Handle
  pub names : List (List ℕ)
  pub rest : List AskedPart
  pub walked : WalkedTo w (walk.partial handle names rest)

-- from there on it goes down, once the walk is over
abbrev pub start_of : {w : WalkInHistory} → DeepestAt w → Spot
start_of p = record { node = p.handle.node; names = p.names; links = 0; moment = length p.walked.window }

-- some names of the rest were passed, and the next one is due in the directory that they led to
pub record AtName (w : WalkInHistory) (p : DeepestAt w) (dir : Spot) (name : List ℕ) (t : ℕ) : Type 0 where
  pub passed : List (List ℕ)
  pub left : List (List ℕ)
  pub names : rest_names p.rest ≡ reverse passed ++ name ∷ left
  pub down : OpenedDown (timeline w) (start_of p) passed dir
  pub at : IsOwnFrom (timeline w) dir.moment t

-- ---- what it made

-- event t made the directory at the next name, and nothing else
pub record MakesName (w : WalkInHistory) (p : DeepestAt w) (t : ℕ) : Type 0 where
  pub dir : Spot
  pub name : List ℕ
  pub at_name : AtName w p dir name t
  pub makes : makes ((timeline w).nodes_at t) dir.node name Dir ≡ Ok ((timeline w).nodes_at (suc t))

-- how far the call came: it hasn't begun to make, or it has, from there on
pub data Reach (w : WalkInHistory) : Type 0 where
  not_begun : Reach w
  begun : DeepestAt w → Reach w

-- what an own event may have done
abbrev pub MayDo : (w : WalkInHistory) → Reach w → ℕ → Type 0
MayDo w not_begun t = LeavesEntries w t
MayDo w (begun p) t = LeavesEntries w t ⊎ MakesName w p t

abbrev pub Did : (w : WalkInHistory) → Reach w → Type 0
Did w reach = (t : ℕ) → (timeline w).is_own t ≡ true → MayDo w reach t

-- ---- its ends

-- The last directory was reached by all names of the rest, and afterwards, at the last own event, it stood under the
-- root at the names of the deepest directory followed by those. It is open.
pub record MadeLast (w : WalkInHistory) (p : DeepestAt w) (handle : Handle) (names : List (List ℕ)) : Type 0 where
  pub whole : rest_fault p.rest ≡ None
  pub passed : List (List ℕ)
  pub all : rest_names p.rest ≡ reverse passed
  pub to : Spot
  pub down : OpenedDown (timeline w) (start_of p) passed to
  pub node : to.node ≡ handle.node
  pub at_names : names ≡ passed ++ p.names
  pub same_names : to.names ≡ names
  pub when : ℕ
  pub stood : StoodAt w to when
  pub last : (t : ℕ) → (timeline w).is_own t ≡ true → t ≤ when
  pub dir : is_dir_kind handle.kind ≡ true
  pub new : IsNewHandle w handle

-- or the whole path led to a directory that was there
pub record MadeNothing (w : WalkInHistory) (handle : Handle) (names : List (List ℕ)) : Type 0 where
  pub found : TellsWalkFound w handle names
  pub dir : is_dir_kind handle.kind ≡ true

abbrev pub MadeEnd : (w : WalkInHistory) → Reach w → Handle → List (List ℕ) → Type 0
MadeEnd w not_begun handle names = MadeNothing w handle names
MadeEnd w (begun p) handle names = MadeLast w p handle names

-- why nothing was made: the walk's own failure; it found what is no directory; or what the rest has in it
pub data UnbegunCause (w : WalkInHistory) : Errno → Type 0 where
  of_walk : {error : Errno} → TellsWalkFailed w error → UnbegunCause w error
  no_directory : (handle : Handle) (names : List (List ℕ)) → WalkedTo w (walk.found handle names)
      → is_dir_kind handle.kind ≡ false → UnbegunCause w NotDir
  of_rest : {error : Errno} (p : DeepestAt w) → rest_fault p.rest ≡ Some error → UnbegunCause w error

-- A limit was reached at moment t: the actor, which then held one handle more than before at most, could open no
-- more, or the numbers of handles were used up; or those of nodes were.
abbrev pub IsAtLimit : WalkInHistory → ℕ → Type 0
IsAtLimit w t = ((is_full (state_at w t) w.actor ≡ true)
    × (held_count (state_at w t) w.actor ≤ suc (held_count (begin_of w) w.actor)))
    ⊎ (NUMBERS_MAX ≤ length ((timeline w).nodes_at t))

-- The own event t was MakeDir of that name in directory d through this handle. It made the entry, or it was answered
-- that there is one: as the event is over, there is.
pub record IsThere (w : WalkInHistory) (d h : ℕ) (name : List ℕ) (t : ℕ) : Type 0 where
  pub answer : Answer
  pub event : event_at w t (MakeDir h name) answer
  pub told : (answer ≡ Done) ⊎ (answer ≡ Refused Exists)
  pub entry : ℕ
  pub child : child ((timeline w).nodes_at (suc t)) d name ≡ Some entry

-- The next name was there after the own event `first`, and at the own event `when`, which was to open it, it was
-- missing. The actor did nothing in between.
pub record IsTakenAway (w : WalkInHistory) (p : DeepestAt w) : Type 0 where
  pub dir : Spot
  pub name : List ℕ
  pub handle : ℕ
  pub first : ℕ
  pub at_name : AtName w p dir name first
  pub there : IsThere w dir.node handle name first
  pub when : ℕ
  pub later : first < when
  pub between : (t : ℕ) → first < t → t < when → (timeline w).is_own t ≡ false
  pub refused : event_at w when (Open handle name) (Refused NotFound)
  pub missing : child ((timeline w).nodes_at when) dir.node name ≡ None

-- why making ended: a want; the step table refused a step for its limits; the directory in which a name was to be
-- made was gone; the name was there, and then it was missing; or something else stood there; or the last directory
-- stood elsewhere
pub data MakingCause (w : WalkInHistory) (p : DeepestAt w) : Errno → Type 0 where
  for_want : {error : Errno} → IsWant error → TellsWant error w.lines → MakingCause w p error
  full : (t : ℕ) (step : StepWith ℕ) → event_at w t step (Refused TooMany)
      → (outcome (state_at w t) w.actor step).answer ≡ Refused TooMany → IsAtLimit w t → MakingCause w p TooMany
  gone : (dir : Spot) (name : List ℕ) (h t : ℕ) → AtName w p dir name t
      → event_at w t (MakeDir h name) (Refused NotFound)
      → is_gone ((timeline w).nodes_at t) dir.node ≡ true → MakingCause w p Raced
  missing : IsTakenAway w p → MakingCause w p Raced
  not_directory : (dir : Spot) (name : List ℕ) (t c : ℕ) → AtName w p dir name t
      → child ((timeline w).nodes_at t) dir.node name ≡ Some c
      → is_directory ((timeline w).object_of c) ≡ false → MakingCause w p NotDir
  astray : (passed : List (List ℕ)) (to : Spot) (t : ℕ) → rest_names p.rest ≡ reverse passed
      → OpenedDown (timeline w) (start_of p) passed to
      → IsOwnFrom (timeline w) to.moment t → (Stands ((timeline w).nodes_at t) w.root to.node to.names → ⊥)
      → MakingCause w p Raced

abbrev pub Cause : (w : WalkInHistory) → Reach w → Errno → Type 0
Cause w not_begun error = UnbegunCause w error
Cause w (begun p) error = (rest_fault p.rest ≡ None) × MakingCause w p error

pub record TellsMade (w : WalkInHistory) (handle : Handle) (names : List (List ℕ)) : Type 0 where
  pub reach : Reach w
  pub did : Did w reach
  pub ends : MadeEnd w reach handle names

pub record TellsMakingFailed (w : WalkInHistory) (error : Errno) : Type 0 where
  pub reach : Reach w
  pub did : Did w reach
  pub cause : Cause w reach error
  pub handles : HandlesStay w

-- what an end tells; a call that goes on tells nothing yet
abbrev pub MakeTells : WalkInHistory → MakeTurn → Type 0
MakeTells w (more call) = Unit {0}
MakeTells w (made handle names) = TellsMade w handle names
MakeTells w (failed error) = TellsMakingFailed w error

-- Each call in each legal history ends so: where the lines that it was told lead it to this end.
abbrev pub MakesTell : Type 0
MakesTell = (w : WalkInHistory) (end : MakeTurn) → IsWalkInHistory w → LeadsTo w.way (begins w.way w.path) w.lines end
    → MakeTells w end
