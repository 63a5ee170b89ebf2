-- The order of MkdirAll's steps: which step is due, and what its answer makes of the call. It walks to the deepest
-- directory that is there, looks through the rest of the path, and then makes and opens one name at a time, without
-- following links. mkdir(2), openat(2) with O_PATH and O_NOFOLLOW, openat2(2), close(2).
use Rattle.std.specs.Prelude.{ℕ, suc, ◌+◌, ◌*◌, List, [], ◌∷◌, Bool, true, false, if◌then◌else◌, length, reverse, Option, Some, None}
use Rattle.path_text.specs.declared.errno.Errno.{Errno}
use Rattle.path_text.specs.declared.errno.Errno.TheVariants.{NotFound, Raced, NoMemory, Exists, NotDir, TooLong}
use Rattle.path_text.specs.Names.{same_names}
use Rattle.path_text.specs.Reading.{Reading}
use Rattle.tree_model.specs.declared.answer.Answer.{Answer}
use Rattle.tree_model.specs.declared.answer.Answer.TheVariants.{Opened, Names, NotBelow, Done}
use Rattle.tree_model.specs.StepWith.{StepWith}
use Rattle.tree_model.specs.declared.step.StepOf.TheVariants.{Open, NameBelow, Close, MakeDir}
use Rattle.step_machine.specs.Machine.{Machine}
use Rattle.step_machine.specs.Machine as machine
use Rattle.step_resolver.specs.Asked.{AskedPart, Cur, Up, Named}
use Rattle.step_resolver.specs.Meaning.{is_too_long}
use Rattle.step_resolver.specs.Order.{Way, Handle, Walking, Line, IsUnmade, is_dir_kind, refusal_of}
use Rattle.step_resolver.specs.Order as walk

-- A call under way, by the step that is due. Names are those from the root down to what is held, the innermost first.
pub data Making : Type 0 where
  -- a step of the walk to the deepest directory
  walking : Walking → Making
  -- MakeDir of the name in what is held, with the names to come after it
  making : Handle → List (List ℕ) → List ℕ → List (List ℕ) → Making
  -- Open of that name
  opening : Handle → List (List ℕ) → List ℕ → List (List ℕ) → Making
  -- Close of the directory above, what was opened in it being held; with the names to come
  leaving : ℕ → Handle → List (List ℕ) → List (List ℕ) → Making
  -- NameBelow of the last directory
  ending : Handle → List (List ℕ) → Making
  -- Close of this handle and then of these, and then the call fails
  closing : ℕ → List ℕ → Errno → Making

pub data MakeTurn : Type 0 where
  more : Making → MakeTurn
  made : Handle → List (List ℕ) → MakeTurn
  failed : Errno → MakeTurn

-- ---- the rest of the path, from the first missing name on

-- why nothing is made: it goes up, or has a name that is too long, whichever comes first
abbrev pub rest_fault : List AskedPart → Option Errno
rest_fault [] = None
rest_fault (Cur ∷ rest) = rest_fault rest
rest_fault (Up ∷ rest) = Some NotFound
rest_fault (Named follow n ∷ rest) = if is_too_long n then Some TooLong else rest_fault rest

-- its names, in order
abbrev pub rest_names : List AskedPart → List (List ℕ)
rest_names [] = []
rest_names (Cur ∷ rest) = rest_names rest
rest_names (Up ∷ rest) = rest_names rest
rest_names (Named follow n ∷ rest) = n ∷ rest_names rest

-- ---- from one step to the next

-- these handles are closed, and then the call fails
abbrev pub gives_up : List ℕ → Errno → MakeTurn
gives_up [] error = failed error
gives_up (h ∷ hs) error = more (closing h hs error)

-- the next name is made in what is held; after the last one it is asked where that stands
abbrev pub goes_down : Handle → List (List ℕ) → List (List ℕ) → MakeTurn
goes_down held names [] = more (ending held names)
goes_down held names (n ∷ left) = more (making held names n left)

-- the deepest directory is held; `room` is false where the names that are expected found no memory
abbrev pub begins_to_make : Bool → Handle → List (List ℕ) → List AskedPart → Option Errno → MakeTurn
begins_to_make room held names rest (Some fault) = gives_up (held.number ∷ []) fault
begins_to_make true held names rest None = goes_down held names (rest_names rest)
begins_to_make false held names rest None = gives_up (held.number ∷ []) NoMemory

-- what the walk's turn makes of the call: a directory that is there is its end
abbrev pub after_walk : Bool → walk.Turn → MakeTurn
after_walk room (walk.more walker) = more (walking walker)
after_walk room (walk.found handle names) =
    if is_dir_kind handle.kind then made handle names else gives_up (handle.number ∷ []) NotDir
after_walk room (walk.partial handle names rest) = begins_to_make room handle names rest (rest_fault rest)
after_walk room (walk.failed error) = failed error

-- the first turn; `room` is false where the walk found no memory
abbrev pub starts : Way → Bool → Reading → MakeTurn
starts way room path = after_walk room (walk.starts way room path)

abbrev pub begins : Way → Reading → MakeTurn
begins way path = after_walk true (walk.begins way path)

-- ---- answers

-- what is missing now was there a step before: somebody took it away
abbrev pub raced_if_missing : Errno → Errno
raced_if_missing NotFound = Raced
raced_if_missing error = error

-- a name that is there already is entered as one that was made
abbrev pub refused_make : Handle → List (List ℕ) → List ℕ → List (List ℕ) → Errno → MakeTurn
refused_make held names n left Exists = more (opening held names n left)
refused_make held names n left error = gives_up (held.number ∷ []) (raced_if_missing error)

-- what was opened is gone into if it is a directory; a link is none
abbrev pub enters : Handle → List (List ℕ) → List ℕ → List (List ℕ) → Handle → MakeTurn
enters held names n left new =
    if is_dir_kind new.kind then more (leaving held.number new (n ∷ names) left)
    else gives_up (new.number ∷ held.number ∷ []) NotDir

-- the last directory is the reply if it stands at the names that were made
abbrev pub judged : Handle → List (List ℕ) → List (List ℕ) → MakeTurn
judged held names told = if same_names told (reverse names) then made held names else gives_up (held.number ∷ []) Raced

-- What an answer makes of a call; `room` is false where what it brings found no memory.
abbrev pub take : Way → Bool → Making → Answer → MakeTurn
take way room (walking walker) answer = after_walk room (walk.take way room walker answer)
take way room (making held names n left) Done = more (opening held names n left)
take way room (making held names n left) answer = refused_make held names n left (refusal_of answer)
take way room (opening held names n left) (Opened h x kind) =
    enters held names n left (record { number = h; node = x; kind = kind })
take way room (opening held names n left) answer = gives_up (held.number ∷ []) (raced_if_missing (refusal_of answer))
take way room (leaving old new names left) answer = goes_down new names left
take way room (ending held names) (Names told) = judged held names told
take way room (ending held names) NotBelow = gives_up (held.number ∷ []) Raced
take way room (ending held names) answer = gives_up (held.number ∷ []) (refusal_of answer)
take way room (closing h hs error) answer = gives_up hs error

abbrev pub due : Way → Making → StepWith ℕ
due way (walking walker) = walk.due way walker
due way (making held names n left) = MakeDir held.number n
due way (opening held names n left) = Open held.number n
due way (leaving old new names left) = Close old
due way (ending held names) = NameBelow way.root held.number
due way (closing h hs error) = Close h

-- ---- a call's lines

-- the call that goes on, where it does
abbrev pub under_way : MakeTurn → Option Making
under_way (more call) = Some call
under_way (made handle names) = None
under_way (failed error) = None

-- calls on this way, step by step
abbrev pub calls : Way → Machine MakeTurn Making
calls way =
    record { more = more; under_way = under_way; due = due way; IsUnmade = λ c. IsUnmade (due way c); take = take way }

-- These lines, one by one, lead from one turn to another.
abbrev pub LeadsTo : Way → MakeTurn → List Line → MakeTurn → Type 0
LeadsTo way = machine.LeadsTo (calls way)

-- ---- how many steps are left at most

-- the caller's own parts that a walk has still to pass
abbrev pub own_in : walk.Todo → ℕ
own_in (walk.todo inner own b) = length own

abbrev pub own_after : walk.After → ℕ
own_after (walk.gives error) = 0
own_after (walk.onward position rest) = own_in rest
own_after (walk.judges handle names rest) = own_in rest

-- with the part that is looked up, where that is one of them
abbrev pub own_here : Bool → ℕ → ℕ
own_here true own = suc own
own_here false own = own

abbrev pub own_left : Walking → ℕ
own_left (walk.opening position own follow n rest) = own_here own (own_in rest)
own_left (walk.reading position link rest) = own_in rest
own_left (walk.rising handle names rest) = own_in rest
own_left (walk.judging handle names rest) = own_in rest
own_left (walk.duping rest) = length rest
own_left (walk.ending handle names rest) = length rest
own_left (walk.closing h hs after) = own_after after

-- after the walk three for each name, and two more
abbrev pub steps_left : Making → ℕ
steps_left (walking walker) = walk.steps_left walker + (3 * own_left walker + 2)
steps_left (making held names n left) = 5 + 3 * length left
steps_left (opening held names n left) = 4 + 3 * length left
steps_left (leaving old new names left) = 3 + 3 * length left
steps_left (ending held names) = 2
steps_left (closing h hs error) = suc (length hs)
