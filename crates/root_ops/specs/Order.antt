-- The order of a call's steps: which step is due, and what its answer makes of the call. A call on an entry walks to
-- its directory, the last link followed, and makes one step on the last name there; what it opened it closes again,
-- just opened first. So a change is made by a handle on the directory that was found, as mkdirat(2), unlinkat(2) and
-- renameat2(2) take one, and no path is looked up twice. The steps of a bulk call are those of bulk_ops's own
-- orders, `MakeAllOrder` and `RemoveAllOrder`.
use Rattle.std.specs.Prelude.{◌≡◌, ℕ, suc, ◌+◌, ◌==◌, ◌&&◌, ◌||◌, List, [], ◌∷◌, Bool, true, false, if◌then◌else◌, length, Option, Some, None, Result, Ok, Err}
use Rattle.path_text.specs.declared.errno.Errno.{Errno}
use Rattle.path_text.specs.declared.errno.Errno.TheVariants.{NotFound, NotDir, Invalid, NoMemory, BadHandle}
use Rattle.path_text.specs.declared.path.Rule.{Rule}
use Rattle.path_text.specs.declared.path.Rule.TheVariants.{Drop, Refuse}
use Rattle.path_text.specs.declared.path.Split.{Split}
use Rattle.path_text.specs.Reading.{Reading}
use Rattle.path_text.specs.Text.{text_fault, reading_of}
use Rattle.path_text.specs.Split.{split_of}
use Rattle.tree_model.specs.declared.answer.Answer.{Answer}
use Rattle.tree_model.specs.declared.answer.Answer.TheVariants.{Opened, Refused}
use Rattle.tree_model.specs.declared.answer.Answer.TheVariants as answers
use Rattle.tree_model.specs.declared.step.Mode.{Mode}
use Rattle.tree_model.specs.StepWith.{StepWith}
use Rattle.tree_model.specs.declared.step.StepOf.TheVariants as steps
use Rattle.step_machine.specs.Machine.{Machine}
use Rattle.step_machine.specs.Machine as machine
use Rattle.handles.specs.declared.owner.Owner.{Owner}
use Rattle.handles.specs.Objects.{StandingObject}
use Rattle.walk_plan.specs.declared.goal.Goal.{Goal}
use Rattle.walk_plan.specs.declared.goal.Goal.TheVariants.{Follow, NoFollow, Deepest}
use Rattle.step_resolver.specs.Order.{Way, Handle, Walking, Turn, found, partial, failed, is_dir_kind, refusal_of, Line}
use Rattle.step_resolver.specs.Order as walk
use Rattle.step_resolver.specs.View.{way_from}
use Rattle.bulk_ops.specs.MakeAllOrder as make
use Rattle.bulk_ops.specs.RemoveAllOrder as remove
use Rattle.root_ops.specs.declared.aim.Aim.{Aim}
use Rattle.root_ops.specs.declared.aim.Aim.TheVariants.{Opens, Reads, Changes, WalksOn, Renames}
use Rattle.root_ops.specs.declared.aim.Change.{Change}
use Rattle.root_ops.specs.declared.aim.Change.TheVariants as changes
use Rattle.root_ops.specs.declared.aim.Renaming.{Renaming}
use Rattle.root_ops.specs.declared.aim.Wanted.{Wanted}
use Rattle.root_ops.specs.declared.aim.Wanted.TheVariants as wants
use Rattle.root_ops.specs.declared.below.Below.{Below}
use Rattle.root_ops.specs.declared.op.Op.{Op}
use Rattle.root_ops.specs.declared.op.Op.TheVariants.{Resolve, ResolveNoFollow, ReadLink, CreateFile, CreateDir, CreateLink, RemoveFile, RemoveDir, Rename, MkdirAll, RemoveAll, Single, Release}

-- A reply. Of what was opened: the handle, and the names at which it stood, the innermost first.
pub data Reply : Type 0 where
  opened : Handle → List (List ℕ) → Reply
  link_text : List ℕ → Reply
  done : Reply
  count : ℕ → Reply
  stepped : Answer → Reply
  kept : StandingObject → Reply
  fault : Errno → Reply

-- what comes after closings: the reply; or the call's own step, with the handles to be closed after it
pub data After : Type 0 where
  gives : Reply → After
  acts : Wanted → StepWith ℕ → List ℕ → After

-- A call, by the step that is due.
pub data Doing : Type 0 where
  -- that of a walk, and what is done with the object that it finds
  walking : Walking → Aim → Doing
  -- the call's own step, whose answer gives the reply; then these handles are closed
  acting : Wanted → StepWith ℕ → List ℕ → Doing
  -- Open of the entry to be renamed, which is to be a directory: the old directory and the new one are held
  checking : ℕ → ℕ → Renaming → Doing
  -- Close of this handle and then of these
  closing : ℕ → List ℕ → After → Doing
  -- that of a MkdirAll
  making : make.Making → Doing
  -- that of a RemoveAll
  removing : remove.Removing → Doing
  -- Close of what was to be released
  releasing : ℕ → Doing

pub data CallTurn : Type 0 where
  more : Doing → CallTurn
  ends : Reply → CallTurn

-- ---- the call's own steps

abbrev pub change_step : Change → ℕ → List ℕ → StepWith ℕ
change_step changes.MakeFile d n = steps.MakeFile d n
change_step changes.MakeDir d n = steps.MakeDir d n
change_step (changes.MakeLink text) d n = steps.MakeLink d n text
change_step changes.RemoveFile d n = steps.RemoveFile d n
change_step changes.RemoveDir d n = steps.RemoveDir d n

abbrev pub rename_step : Renaming → ℕ → ℕ → StepWith ℕ
rename_step renaming old new = steps.Rename old renaming.old new renaming.new renaming.mode

-- the reply that an answer gives; one that doesn't fit counts as BadHandle
abbrev pub reply_to : Wanted → Answer → Reply
reply_to wants.Done answers.Done = done
reply_to wants.Done answer = fault (refusal_of answer)
reply_to wants.Text (answers.Text bytes) = link_text bytes
reply_to wants.Text answer = fault (refusal_of answer)
reply_to wants.Any (Refused error) = fault error
reply_to wants.Any answer = stepped answer

-- ---- closings

abbrev pub comes : After → CallTurn
comes (gives reply) = ends reply
comes (acts wanted step hs) = more (acting wanted step hs)

abbrev pub closes : List ℕ → After → CallTurn
closes [] after = comes after
closes (h ∷ hs) after = more (closing h hs after)

-- these handles are closed, and then the call fails
abbrev pub gives_up : List ℕ → Errno → CallTurn
gives_up hs error = closes hs (gives (fault error))

-- ---- walks

-- the last link is followed, but where it is the object itself that is asked for
abbrev pub goal_of : Aim → Goal
goal_of (Opens goal) = goal
goal_of Reads = NoFollow
goal_of (Changes change n) = Follow
goal_of (WalksOn path renaming) = Follow
goal_of (Renames old renaming) = Follow

abbrev pub way_of : Below → Aim → Way
way_of below aim = way_from below.root (goal_of aim) below.flags

-- what is held while the walk goes on
abbrev pub held_by : Aim → List ℕ
held_by (Opens goal) = []
held_by Reads = []
held_by (Changes change n) = []
held_by (WalksOn path renaming) = []
held_by (Renames old renaming) = old ∷ []

-- both directories of a rename are held; after a slash the renamed entry is to be a directory
abbrev pub renames : ℕ → ℕ → Renaming → CallTurn
renames old new renaming =
    if renaming.slash then more (checking old new renaming)
    else more (acting wants.Done (rename_step renaming old new) (new ∷ old ∷ []))

-- where the walk to the new directory has come to; the old one is held
abbrev pub walked_on : ℕ → Renaming → Turn → CallTurn
walked_on old renaming (walk.more walking') = more (walking walking' (Renames old renaming))
walked_on old renaming (found handle names) = renames old handle.number renaming
walked_on old renaming (partial handle names rest) = gives_up (handle.number ∷ old ∷ []) NotFound
walked_on old renaming (failed error) = gives_up (old ∷ []) error

-- the object was found
abbrev pub reached : Below → Bool → Handle → List (List ℕ) → Aim → CallTurn
reached below room handle names (Opens goal) = ends (opened handle names)
reached below room handle names Reads = more (acting wants.Text (steps.ReadLink handle.number) (handle.number ∷ []))
reached below room handle names (Changes change n) =
    more (acting wants.Done (change_step change handle.number n) (handle.number ∷ []))
reached below room handle names (WalksOn path renaming) =
    walked_on handle.number renaming (walk.starts (way_from below.root Follow below.flags) room path)
reached below room handle names (Renames old renaming) = renames old handle.number renaming

-- Where a walk has come to. None is after the deepest directory, so that no end is a partial one.
abbrev pub walked : Below → Bool → Aim → Turn → CallTurn
walked below room aim (walk.more walking') = more (walking walking' aim)
walked below room aim (found handle names) = reached below room handle names aim
walked below room aim (partial handle names rest) = gives_up (handle.number ∷ held_by aim) NotFound
walked below room aim (failed error) = gives_up (held_by aim) error

-- ---- bulk calls

-- the way of a MkdirAll's walk, to the deepest directory that is there
abbrev pub make_way : Below → Way
make_way below = way_from below.root Deepest below.flags

-- where a MkdirAll has come to: the last directory is opened
abbrev pub makes : make.MakeTurn → CallTurn
makes (make.more call) = more (making call)
makes (make.made handle names) = ends (opened handle names)
makes (make.failed error) = ends (fault error)

-- where a RemoveAll has come to: what was removed is counted
abbrev pub removing_turn : remove.Turn → CallTurn
removing_turn (remove.more call) = more (removing call)
removing_turn (remove.removed n) = ends (count n)
removing_turn (remove.failed error) = ends (fault error)

-- ---- the beginning

abbrev pub walks : Below → Aim → Reading → CallTurn
walks below aim path = walked below true aim (walk.starts (way_of below aim) true path)

-- a text that is no path ends the call at once
abbrev pub unless_fault : Option Errno → CallTurn → CallTurn
unless_fault (Some error) turn = ends (fault error)
unless_fault None turn = turn

abbrev pub on_path : Below → Aim → List ℕ → CallTurn
on_path below aim text = unless_fault (text_fault text) (walks below aim (reading_of text))

-- so does a path without a last name, or with a slash at its end where that is refused
abbrev pub in_directory : Below → Change → Result Split Errno → CallTurn
in_directory below change (Err error) = ends (fault error)
in_directory below change (Ok split) = walks below (Changes change split.name) split.dir

abbrev pub on_entry : Below → Rule → Change → List ℕ → CallTurn
on_entry below rule change text =
    unless_fault (text_fault text) (in_directory below change (split_of (reading_of text) rule))

abbrev pub make_missing : Below → List ℕ → CallTurn
make_missing below text = unless_fault (text_fault text) (makes (make.begins (make_way below) (reading_of text)))

abbrev pub clear_in : Below → Result Split Errno → CallTurn
clear_in below (Err error) = ends (fault error)
clear_in below (Ok split) = removing_turn (remove.begins (way_from below.root Follow below.flags) split.name split.dir)

abbrev pub clear_entry : Below → List ℕ → CallTurn
clear_entry below text = unless_fault (text_fault text) (clear_in below (split_of (reading_of text) Drop))

abbrev pub renaming_of : Split → Split → Mode → Renaming
renaming_of old new mode = record { old = old.name; new = new.name; mode = mode; slash = old.slash || new.slash }

abbrev pub between : Below → Mode → Split → Result Split Errno → CallTurn
between below mode old (Err error) = ends (fault error)
between below mode old (Ok new) = walks below (WalksOn new.dir (renaming_of old new mode)) old.dir

-- the old path's faults come before those of the new one
abbrev pub from_entry : Below → Mode → List ℕ → Result Split Errno → CallTurn
from_entry below mode new (Err error) = ends (fault error)
from_entry below mode new (Ok old) =
    unless_fault (text_fault new) (between below mode old (split_of (reading_of new) Drop))

-- a step that opens or closes a handle is none for a call
abbrev pub is_single : StepWith ℕ → Bool
is_single (steps.Open h n) = false
is_single (steps.Dup h) = false
is_single (steps.Parent h) = false
is_single (steps.ReadLink h) = true
is_single (steps.NameBelow r h) = true
is_single (steps.List h) = true
is_single (steps.Close h) = false
is_single (steps.MakeDir h n) = true
is_single (steps.MakeFile h n) = true
is_single (steps.MakeLink h n text) = true
is_single (steps.RemoveFile h n) = true
is_single (steps.RemoveDir h n) = true
is_single (steps.Rename h n k m mode) = true

abbrev pub single : StepWith ℕ → CallTurn
single step = if is_single step then more (acting wants.Any step []) else ends (fault Invalid)

abbrev pub same_owner : Owner → Owner → Bool
same_owner a b = (a.tag == b.tag) && (a.actor == b.actor)

-- another owner's handle is kept
abbrev pub releases : Owner → StandingObject → CallTurn
releases owner standing =
    if same_owner standing.owner owner then more (releasing standing.handle) else ends (kept standing)

abbrev pub begins : Below → Op → CallTurn
begins below (Resolve path) = on_path below (Opens Follow) path
begins below (ResolveNoFollow path) = on_path below (Opens NoFollow) path
begins below (ReadLink path) = on_path below Reads path
begins below (CreateFile path) = on_entry below Refuse changes.MakeFile path
begins below (CreateDir path) = on_entry below Drop changes.MakeDir path
begins below (CreateLink path text) = on_entry below Refuse (changes.MakeLink text) path
begins below (RemoveFile path) = on_entry below Refuse changes.RemoveFile path
begins below (RemoveDir path) = on_entry below Drop changes.RemoveDir path
begins below (Rename old new mode) =
    unless_fault (text_fault old) (from_entry below mode new (split_of (reading_of old) Drop))
begins below (MkdirAll path) = make_missing below path
begins below (RemoveAll path) = clear_entry below path
begins below (Single step) = single step
begins below (Release standing) = releases below.root.owner standing

-- the first turn without memory: the first text's fault is told all the same, and else the want
abbrev pub lacks : List ℕ → CallTurn
lacks text = unless_fault (text_fault text) (ends (fault NoMemory))

abbrev pub begins_without : Below → Op → CallTurn
begins_without below (Resolve path) = lacks path
begins_without below (ResolveNoFollow path) = lacks path
begins_without below (ReadLink path) = lacks path
begins_without below (CreateFile path) = lacks path
begins_without below (CreateDir path) = lacks path
begins_without below (CreateLink path text) = lacks path
begins_without below (RemoveFile path) = lacks path
begins_without below (RemoveDir path) = lacks path
begins_without below (Rename old new mode) = lacks old
begins_without below (MkdirAll path) = lacks path
begins_without below (RemoveAll path) = lacks path
begins_without below (Single step) = if is_single step then ends (fault NoMemory) else ends (fault Invalid)
begins_without below (Release standing) = releases below.root.owner standing

-- The first turn; `room` is false where it found no memory. A Release takes none.
abbrev pub starts : Below → Bool → Op → CallTurn
starts below true op = begins below op
starts below false op = begins_without below op

-- ---- answers

-- what is to be renamed was opened to see that it is a directory, and is closed again
abbrev pub checked : ℕ → ℕ → Renaming → ℕ → Bool → CallTurn
checked old new renaming child true =
    closes (child ∷ []) (acts wants.Done (rename_step renaming old new) (new ∷ old ∷ []))
checked old new renaming child false = gives_up (child ∷ new ∷ old ∷ []) NotDir

-- What an answer makes of a call; `room` is false where what it brings found no memory.
abbrev pub take : Below → Bool → Doing → Answer → CallTurn
take below room (walking walking' aim) answer =
    walked below room aim (walk.take (way_of below aim) room walking' answer)
take below room (acting wanted step hs) answer = closes hs (gives (reply_to wanted answer))
take below room (checking old new renaming) (Opened h x kind) = checked old new renaming h (is_dir_kind kind)
take below room (checking old new renaming) answer = gives_up (new ∷ old ∷ []) (refusal_of answer)
take below room (closing h hs after) answer = closes hs after
take below room (making call) answer = makes (make.take (make_way below) room call answer)
take below room (removing call) answer = removing_turn (remove.take room call answer)
take below room (releasing h) answer = ends (reply_to wants.Done answer)

-- the answers after which a call surely goes on: those of a walk that are
abbrev pub passes : Doing → Answer → Bool
passes (walking walking' aim) answer = walk.passes walking' answer
passes (acting wanted step hs) answer = false
passes (checking old new renaming) answer = false
passes (closing h hs after) answer = false
passes (making call) answer = false
passes (removing call) answer = false
passes (releasing h) answer = false

abbrev pub due : Below → Doing → StepWith ℕ
due below (walking walking' aim) = walk.due (way_of below aim) walking'
due below (acting wanted step hs) = step
due below (checking old new renaming) = steps.Open old renaming.old
due below (closing h hs after) = steps.Close h
due below (making call) = make.due (make_way below) call
due below (removing call) = remove.due call
due below (releasing h) = steps.Close h

-- ---- a call's lines

-- Why a step wasn't made: for want of memory or of room in the book, but no Close for that. A book makes no Close of
-- a handle that isn't open, so that the Close of a Release may be refused BadHandle without an event.
abbrev pub IsUnmade : Below → Doing → Errno → Type 0
IsUnmade below (releasing h) error = error ≡ BadHandle
IsUnmade below doing error = walk.IsUnmade (due below doing) error

-- the call that goes on, where it does
abbrev pub under_way : CallTurn → Option Doing
under_way (more doing) = Some doing
under_way (ends reply) = None

-- calls below this root, step by step
abbrev pub calls : Below → Machine CallTurn Doing
calls below =
    record { more = more; under_way = under_way; due = due below; IsUnmade = IsUnmade below; take = take below }

-- These lines, one by one, lead from one turn to another.
abbrev pub LeadsTo : Below → CallTurn → List Line → CallTurn → Type 0
LeadsTo below = machine.LeadsTo (calls below)

-- ---- how many steps are left at most

-- once the walk has come to its end
abbrev pub steps_then : Below → Aim → ℕ
steps_then below (Opens goal) = 1
steps_then below Reads = 2
steps_then below (Changes change n) = 2
steps_then below (WalksOn path renaming) =
    walk.steps_left_at (walk.begins (way_from below.root Follow below.flags) path) + 6
steps_then below (Renames old renaming) = 5

abbrev pub steps_after : After → ℕ
steps_after (gives reply) = 0
steps_after (acts wanted step hs) = suc (length hs)

abbrev pub steps_left : Below → Doing → ℕ
steps_left below (walking walking' aim) = walk.steps_left walking' + steps_then below aim
steps_left below (acting wanted step hs) = suc (length hs)
steps_left below (checking old new renaming) = 5
steps_left below (closing h hs after) = suc (length hs) + steps_after after
steps_left below (making call) = make.steps_left call
steps_left below (removing call) = remove.steps_left call
steps_left below (releasing h) = 1
