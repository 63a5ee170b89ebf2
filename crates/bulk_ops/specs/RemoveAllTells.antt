-- What the end of a RemoveAll call tells, for every interleaving of actors' single steps. unlink(2), rmdir(2);
-- openat2(2).
use Rattle.std.specs.Prelude.{◌≡◌, ℕ, suc, ◌≤◌, ◌⊎◌, List, [], ◌∷◌, Bool, true, false, drop, length, Some, None}
use Rattle.path_text.specs.declared.errno.Errno.{Errno}
use Rattle.path_text.specs.declared.errno.Errno.TheVariants.{NotFound, BadHandle, Raced, NoMemory, Busy, Exists, CrossRoot, NotDir, IsDir, Invalid, TooMany, BookFull, TooLong, NotEmpty, Loop}
use Rattle.tree_model.specs.declared.answer.Answer.{Answer}
use Rattle.tree_model.specs.declared.answer.Answer.TheVariants.{Done, Refused}
use Rattle.tree_model.specs.StepWith.{StepWith}
use Rattle.tree_model.specs.declared.step.StepOf.TheVariants.{Open, Close, RemoveFile, RemoveDir}
use Rattle.tree_model.specs.State.{child, is_directory, put_at}
use Rattle.tree_model.specs.Steps.{held, is_full}
use Rattle.step_resolver.specs.Trail.{Timeline, IsOwnFrom}
use Rattle.step_resolver.specs.Order.{Handle, Line, answered, no_room, not_made}
use Rattle.step_resolver.specs.Order as walk
use Rattle.step_resolver.specs.WalkHistory.{WalkInHistory, IsWalkInHistory, state_at, timeline}
use Rattle.step_resolver.specs.Failures.{HandlesStay, TellsWant}
use Rattle.step_resolver.specs.Asked.{is_deepest}
use Rattle.bulk_ops.specs.declared.remove_all.clearing.TheConstants.{CLEARING_STEPS_MAX}
use Rattle.bulk_ops.specs.RemoveAllOrder.{Turn, more, removed, failed, begins, LeadsTo}
pub use Rattle.bulk_ops.specs.WalkFirst.{event_at, LeavesEntries, AllLeaveEntries, walk_part, rest_part, WalkedTo, after_walk, TellsWalkFailed}

-- ---- the directories that are reached

-- From a directory down to one by names alone, the innermost first: each is a directory that stood at its name at an
-- own moment, and not a link; the moments rise, the last is before m.
pub data Down (timeline : Timeline) (from : ℕ) : List (List ℕ) → ℕ → ℕ → Type 0 where
  here : (m : ℕ) → Down timeline from [] from m
  under : {names : List (List ℕ)} {d since : ℕ} (name : List ℕ) (t c m : ℕ) → Down timeline from names d since
      → IsOwnFrom timeline since t
      → child (timeline.nodes_at t) d name ≡ Some c → is_directory (timeline.object_of c) ≡ true → suc t ≤ m
      → Down timeline from (name ∷ names) c m

-- the outermost of a name and those above it
abbrev pub outermost : List ℕ → List (List ℕ) → List ℕ
outermost name [] = name
outermost name (above ∷ names) = outermost above names

-- ---- what is taken away

-- the step takes an entry away, where it is answered Done
abbrev pub is_removal : StepWith ℕ → Answer → Bool
is_removal (RemoveFile h n) Done = true
is_removal (RemoveDir h n) Done = true
is_removal _ _ = false

abbrev pub one_more_if : Bool → ℕ → ℕ
one_more_if true n = suc n
one_more_if false n = n

-- how many removals were answered Done
abbrev pub removals : List Line → ℕ
removals [] = 0
removals (answered step answer ∷ lines) = one_more_if (is_removal step answer) (removals lines)
removals (no_room step answer ∷ lines) = one_more_if (is_removal step answer) (removals lines)
removals (not_made error ∷ lines) = removals lines

-- the own event t takes one entry away: the target in that directory, or one of a directory that was reached from
-- the target by names alone
pub record TakesAway (w : WalkInHistory) (dir : ℕ) (target : List ℕ) (t : ℕ) : Type 0 where
  pub names : List (List ℕ)
  pub inner : ℕ
  pub since : ℕ
  pub way : Down (timeline w) dir names inner since
  pub at : IsOwnFrom (timeline w) since t
  pub name : List ℕ
  pub below : outermost name names ≡ target
  pub step : StepWith ℕ
  pub event : event_at w t step Done
  pub is_removal : is_removal step Done ≡ true
  pub entry : ℕ
  pub child : child ((timeline w).nodes_at t) inner name ≡ Some entry
  pub gone : (timeline w).nodes_at (suc t) ≡ put_at ((timeline w).nodes_at t) entry None

-- each own event leaves all entries, or takes one away so
abbrev pub OnlyTakesAway : WalkInHistory → ℕ → List ℕ → Type 0
OnlyTakesAway w dir target = (t : ℕ) → (timeline w).is_own t ≡ true → LeavesEntries w t ⊎ TakesAway w dir target t

-- ---- the target

-- a step on the name through a handle
abbrev pub IsOn : ℕ → List ℕ → StepWith ℕ → Type 0
IsOn h n step = (step ≡ RemoveFile h n) ⊎ ((step ≡ Open h n) ⊎ (step ≡ RemoveDir h n))

-- the own event t closes a handle
abbrev pub ClosesAt : WalkInHistory → ℕ → Type 0
ClosesAt w t = (h : ℕ) × ((answer : Answer) × event_at w t (Close h) answer)

-- The last own event but for closings was on the target through a handle of the directory; it took the target away,
-- or it found none.
pub record IsLastOnTarget (w : WalkInHistory) (dir : ℕ) (target : List ℕ) : Type 0 where
  pub when : ℕ
  pub own : (timeline w).is_own when ≡ true
  pub handle : ℕ
  pub is_open : held (state_at w when) w.actor handle ≡ Some dir
  pub step : StepWith ℕ
  pub answer : Answer
  pub event : event_at w when step answer
  pub on : IsOn handle target step
  pub ended : (child ((timeline w).nodes_at when) dir target ≡ None)
      ⊎ ((entry : ℕ) × ((child ((timeline w).nodes_at when) dir target ≡ Some entry)
      × ((timeline w).nodes_at (suc when) ≡ put_at ((timeline w).nodes_at when) entry None)))
  pub last : (t : ℕ) → suc when ≤ t → (timeline w).is_own t ≡ true → ClosesAt w t

-- ---- faults of clearing

abbrev pub IsClose : Line → Type 0
IsClose (answered step answer) = (h : ℕ) × (step ≡ Close h)
IsClose (no_room step answer) = (h : ℕ) × (step ≡ Close h)
IsClose (not_made error) = ⊥

abbrev pub AllClose : List Line → Type 0
AllClose [] = Unit {0}
AllClose (line ∷ lines) = IsClose line × AllClose lines

-- EBUSY: so many steps of clearing, and then closings alone
pub record TellsBusy (lines : List Line) : Type 0 where
  pub enough : CLEARING_STEPS_MAX ≤ length lines
  pub closings : AllClose (drop CLEARING_STEPS_MAX lines)

-- EMFILE: an own step was refused so, and the actor could open no more, or the numbers were used up
pub record TellsFull (w : WalkInHistory) : Type 0 where
  pub when : ℕ
  pub step : StepWith ℕ
  pub event : event_at w when step (Refused TooMany)
  pub full : is_full (state_at w when) w.actor ≡ true

-- what each error tells, of a target in that directory; those that aren't named never come in clearing
abbrev pub TellsFault : WalkInHistory → ℕ → Errno → Type 0
TellsFault w dir NotDir = is_directory ((timeline w).object_of dir) ≡ false
TellsFault w dir TooMany = TellsFull w
TellsFault w dir Busy = TellsBusy w.lines
TellsFault w dir NoMemory = TellsWant NoMemory w.lines
TellsFault w dir BookFull = TellsWant BookFull w.lines
TellsFault w dir NotFound = ⊥
TellsFault w dir BadHandle = ⊥
TellsFault w dir Raced = ⊥
TellsFault w dir Exists = ⊥
TellsFault w dir CrossRoot = ⊥
TellsFault w dir IsDir = ⊥
TellsFault w dir Invalid = ⊥
TellsFault w dir TooLong = ⊥
TellsFault w dir NotEmpty = ⊥
TellsFault w dir Loop = ⊥

-- ---- the parts of a call

-- The walk found an object, by this handle; and the call cleared in what came after it.
pub record Parts (w : WalkInHistory) : Type 0 where
  pub handle : Handle
  pub names : List (List ℕ)
  pub walked : WalkedTo w (walk.found handle names)

abbrev pub clearing_part : (w : WalkInHistory) → Parts w → WalkInHistory
clearing_part w parts = after_walk parts.walked

-- ---- the whole

-- after so many steps of clearing all that is held is closed, and nothing else is done
abbrev pub IsBounded : List Line → Type 0
IsBounded lines = AllClose (drop CLEARING_STEPS_MAX lines)

-- So many entries were removed, and the target at last.
pub record TellsRemoved (w : WalkInHistory) (target : List ℕ) (count : ℕ) : Type 0 where
  pub parts : Parts w
  pub entries : OnlyTakesAway (clearing_part w parts) parts.handle.node target
  pub bounded : IsBounded (clearing_part w parts).lines
  pub counted : count ≡ removals w.lines
  pub last : IsLastOnTarget (clearing_part w parts) parts.handle.node target
  pub handles : HandlesStay w

-- The fault is the clearing's.
pub record TellsGivenUp (w : WalkInHistory) (target : List ℕ) (error : Errno) : Type 0 where
  pub parts : Parts w
  pub entries : OnlyTakesAway (clearing_part w parts) parts.handle.node target
  pub bounded : IsBounded (clearing_part w parts).lines
  pub fault : TellsFault (clearing_part w parts) parts.handle.node error

pub record TellsRemovalFailed (w : WalkInHistory) (target : List ℕ) (error : Errno) : Type 0 where
  pub why : TellsWalkFailed w error ⊎ TellsGivenUp w target error
  pub handles : HandlesStay w

-- what an end tells; a call that goes on tells nothing yet
abbrev pub Tells : WalkInHistory → List ℕ → Turn → Type 0
Tells w target (more call) = Unit {0}
Tells w target (removed count) = TellsRemoved w target count
Tells w target (failed error) = TellsRemovalFailed w target error

-- Each call in each legal history ends so: where the lines that it was told lead it to this end. As for a walk, the
-- actor's own events in the window are those of the call, and the root's handle is open, its own, and on a
-- directory.
abbrev pub RemoveAllTells : Type 0
RemoveAllTells = (w : WalkInHistory) (target : List ℕ) (end : Turn) → IsWalkInHistory w → is_deepest w.way.goal ≡ false
    → LeadsTo (begins w.way target w.path) w.lines end → Tells w target end
