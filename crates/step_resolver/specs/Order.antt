-- The order of a walk's steps: which step is due, and what its answer makes of the walk.
-- It opens one part at a time without following links (openat2(2) with O_PATH and O_NOFOLLOW), opens first and closes
-- after, and asks for the names of what it holds after each `..` that moves and at the end.
use Rattle.std.specs.Prelude.{ℕ, zero, suc, ◌+◌, ◌*◌, ◌&&◌, List, [], ◌∷◌, ◌++◌, Bool, true, false, if◌then◌else◌, length, reverse, Option, Some, None}
use Rattle.path_text.specs.declared.errno.Errno.{Errno}
use Rattle.path_text.specs.declared.errno.Errno.TheVariants.{NotFound, BadHandle, Raced, NoMemory, CrossRoot, NotDir, TooLong, Loop}
use Rattle.path_text.specs.declared.flags.Flags.{Flags}
use Rattle.path_text.specs.declared.path.TheConstants.{PARTS_MAX}
use Rattle.path_text.specs.Names.{same_names}
use Rattle.path_text.specs.Reading.{Reading}
use Rattle.path_text.specs.Text.{text_fault, parts_of, begins_with_slash}
use Rattle.tree_model.specs.declared.answer.Answer.{Answer}
use Rattle.tree_model.specs.declared.answer.Answer.TheVariants.{Opened, Text, Names, NotBelow, Refused}
use Rattle.tree_model.specs.declared.step.Kind.{Kind}
use Rattle.tree_model.specs.declared.step.Kind.TheVariants as kind
use Rattle.tree_model.specs.StepWith.{StepWith}
use Rattle.tree_model.specs.declared.step.StepOf.TheVariants.{Open, Dup, Parent, ReadLink, NameBelow, Close}
use Rattle.step_machine.specs.Machine.{Machine}
use Rattle.step_machine.specs.Machine as machine
pub use Rattle.step_machine.specs.Told.{Line, answered, no_room, not_made, has_room, answer_of, events_of, IsWant, is_close, IsUnmade}
use Rattle.walk_plan.specs.declared.goal.Goal.{Goal}
use Rattle.walk_plan.specs.Plan.{leads_out}
use Rattle.step_resolver.specs.Asked.{AskedPart, Cur, Up, Named, asked, followed, follows, is_deepest}
use Rattle.step_resolver.specs.Meaning.{LINKS_MAX, is_too_long}

-- what stays the same for a whole walk: the root's handle, what it is after, and its restrictions
pub record Way : Type 0 where
  pub root : ℕ
  pub goal : Goal
  pub flags : Flags

-- a handle that the walk opened, and what it was told of it
pub record Handle : Type 0 where
  pub number : ℕ
  pub node : ℕ
  pub kind : Kind

-- the place: the root itself, without a handle of its own; or what is held, and the names passed, the innermost first
pub data Position : Type 0 where
  root_itself : Position
  holds : Handle → List (List ℕ) → Position

-- the parts to come of links' texts, then those to come of the caller's own; and the links left
pub data Todo : Type 0 where
  todo : List AskedPart → List AskedPart → ℕ → Todo

-- what comes after closings: the refusal; the next part; the check of what was opened above
pub data After : Type 0 where
  gives : Errno → After
  onward : Position → Todo → After
  judges : Handle → List (List ℕ) → Todo → After

-- A walk, by the step that is due.
pub data Walking : Type 0 where
  -- Open of a name: from the place; whether the part is the caller's own; whether a link is followed; the name
  opening : Position → Bool → Bool → List ℕ → Todo → Walking
  -- ReadLink of a link that is followed: the place that it is in, and the links left after it
  reading : Position → Handle → Todo → Walking
  -- Parent of what is held, and the names less the last
  rising : Handle → List (List ℕ) → Todo → Walking
  -- NameBelow of what was opened above
  judging : Handle → List (List ℕ) → Todo → Walking
  -- Dup of the root, to hold it at the end; the rest is the parts from a missing one on
  duping : List AskedPart → Walking
  -- NameBelow of what is held at the end
  ending : Handle → List (List ℕ) → List AskedPart → Walking
  -- Close of this handle and then of these
  closing : ℕ → List ℕ → After → Walking

pub data Turn : Type 0 where
  more : Walking → Turn
  found : Handle → List (List ℕ) → Turn
  partial : Handle → List (List ℕ) → List AskedPart → Turn
  failed : Errno → Turn

-- ---- places

abbrev pub names_of : Position → List (List ℕ)
names_of root_itself = []
names_of (holds handle names) = names

abbrev pub handles_of : Position → List ℕ
handles_of root_itself = []
handles_of (holds handle names) = handle.number ∷ []

-- the handle through which the place is reached
abbrev pub handle_at : Way → Position → ℕ
handle_at way root_itself = way.root
handle_at way (holds handle names) = handle.number

abbrev pub is_dir_kind : Kind → Bool
is_dir_kind kind.Dir = true
is_dir_kind kind.File = false
is_dir_kind kind.Link = false

-- the root is a directory
abbrev pub is_dir_position : Position → Bool
is_dir_position root_itself = true
is_dir_position (holds handle names) = is_dir_kind handle.kind

-- a link that must be followed
abbrev pub is_followed : Bool → Kind → Bool
is_followed true kind.Link = true
is_followed true kind.Dir = false
is_followed true kind.File = false
is_followed false kind = false

-- ---- from one part to the next

-- these handles are closed, and then the walk fails
abbrev pub gives_up : List ℕ → Errno → Turn
gives_up [] error = failed error
gives_up (h ∷ hs) error = more (closing h hs (gives error))

-- the end, or the place in which the first of the rest is missing: something is held for it
abbrev pub at_end : Position → List AskedPart → Turn
at_end root_itself rest = more (duping rest)
at_end (holds handle names) rest = more (ending handle names rest)

-- `..` at the root stays there
abbrev pub at_top : Way → Position → Turn → Turn
at_top way position stays = if way.flags.beneath then gives_up (handles_of position) CrossRoot else stays

-- a part, the place being a directory: the step that is due for it; or what comes after it, where it needs none
abbrev pub in_directory : Way → Position → AskedPart → Bool → Todo → Turn → Turn
in_directory way position Cur own rest passed = passed
in_directory way root_itself Up own rest passed = at_top way root_itself passed
in_directory way (holds handle []) Up own rest passed = at_top way (holds handle []) passed
in_directory way (holds handle (n ∷ names)) Up own rest passed = more (rising handle names rest)
in_directory way position (Named follow n) own rest passed =
    if is_too_long n then gives_up (handles_of position) TooLong else more (opening position own follow n rest)

abbrev pub on_part : Way → Position → AskedPart → Bool → Todo → Turn → Turn
on_part way position p own rest passed =
    if is_dir_position position then in_directory way position p own rest passed
    else gives_up (handles_of position) NotDir

-- the caller's own parts
abbrev pub on_own : Way → Position → List AskedPart → ℕ → Turn
on_own way position [] b = at_end position []
on_own way position (p ∷ own) b = on_part way position p true (todo [] own b) (on_own way position own b)

-- the parts of links' texts come before them
abbrev pub on_parts : Way → Position → List AskedPart → List AskedPart → ℕ → Turn
on_parts way position [] own b = on_own way position own b
on_parts way position (p ∷ inner) own b =
    on_part way position p false (todo inner own b) (on_parts way position inner own b)

abbrev pub goes_on : Way → Position → Todo → Turn
goes_on way position (todo inner own b) = on_parts way position inner own b

abbrev pub begins : Way → Reading → Turn
begins way path =
    if leads_out path.absolute way.flags then failed CrossRoot
    else goes_on way root_itself (todo [] (asked (follows way.goal) path.parts) LINKS_MAX)

-- a walk under way takes room, an end doesn't
abbrev pub for_walk : Bool → Turn → Turn
for_walk true turn = turn
for_walk false (more walk) = failed NoMemory
for_walk false (found handle names) = found handle names
for_walk false (partial handle names rest) = partial handle names rest
for_walk false (failed error) = failed error

-- The first turn; `room` is false where a walk that would go on found no memory.
abbrev pub starts : Way → Bool → Reading → Turn
starts way room path = for_walk room (begins way path)

-- ---- closings

abbrev pub comes : Way → After → Turn
comes way (gives error) = failed error
comes way (onward position rest) = goes_on way position rest
comes way (judges handle names rest) = more (judging handle names rest)

abbrev pub closes : Way → List ℕ → After → Turn
closes way [] after = comes way after
closes way (h ∷ hs) after = more (closing h hs after)

-- ---- answers

-- an answer that doesn't fit the step counts as BadHandle
abbrev pub refusal_of : Answer → Errno
refusal_of (Refused error) = error
refusal_of _ = BadHandle

-- what there was no room for: what was just opened is closed, then what is held
abbrev pub with_room : Bool → List ℕ → Turn → Turn
with_room true hs turn = turn
with_room false hs turn = gives_up hs NoMemory

-- a link that must be followed
abbrev pub follows_link : Way → Position → Handle → Todo → Turn
follows_link way position link (todo inner own zero) = gives_up (link.number ∷ handles_of position) Loop
follows_link way position link (todo inner own (suc b)) =
    if way.flags.no_links then gives_up (link.number ∷ handles_of position) Loop
    else more (reading position link (todo inner own b))

-- what was opened is held, and what was held is closed
abbrev pub enters : Way → Bool → Position → List ℕ → Handle → Todo → Turn
enters way room position n new rest =
    with_room room (new.number ∷ handles_of position)
    (closes way (handles_of position) (onward (holds new (n ∷ names_of position)) rest))

abbrev pub opened : Way → Bool → Position → Bool → List ℕ → Handle → Todo → Turn
opened way room position follow n new rest =
    if is_followed follow new.kind then follows_link way position new rest else enters way room position n new rest

-- a missing name of the caller's own is where the deepest directory ends
abbrev pub refused_open : Way → Position → Bool → Bool → List ℕ → Todo → Errno → Turn
refused_open way position own follow n (todo inner rest b) NotFound =
    if is_deepest way.goal && own then at_end position (Named follow n ∷ rest)
    else gives_up (handles_of position) NotFound
refused_open way position own follow n _ error = gives_up (handles_of position) error

-- the parts of a link's text come before all others; an absolute text begins at the root
abbrev pub from_link : Way → Bool → Position → Handle → Bool → List AskedPart → Todo → Turn
from_link way room position link true parts (todo inner own b) =
    with_room room (link.number ∷ handles_of position)
    (closes way (link.number ∷ handles_of position) (onward root_itself (todo (parts ++ inner) own b)))
from_link way room position link false parts (todo inner own b) =
    with_room room (link.number ∷ handles_of position)
    (closes way (link.number ∷ []) (onward position (todo (parts ++ inner) own b)))

abbrev pub read_text : Way → Bool → Position → Handle → Todo → List ℕ → Option Errno → Turn
read_text way room position link rest text (Some fault) = gives_up (link.number ∷ handles_of position) fault
read_text way room position link rest text None =
    if leads_out (begins_with_slash text) way.flags then gives_up (link.number ∷ handles_of position) CrossRoot
    else from_link way room position link (begins_with_slash text) (followed (parts_of text)) rest

abbrev pub end_of : Handle → List (List ℕ) → List AskedPart → Turn
end_of handle names [] = found handle names
end_of handle names (p ∷ rest) = partial handle names (p ∷ rest)

-- where the names are those passed
abbrev pub judged : Handle → List (List ℕ) → List (List ℕ) → Turn → Turn
judged handle names told stands =
    if same_names told (reverse names) then stands else gives_up (handle.number ∷ []) Raced

abbrev pub refused_rise : Handle → Errno → Turn
refused_rise handle NotFound = gives_up (handle.number ∷ []) Raced
refused_rise handle error = gives_up (handle.number ∷ []) error

-- What an answer makes of a walk; `room` is false where what it brings found no memory.
abbrev pub take : Way → Bool → Walking → Answer → Turn
take way room (opening position own follow n rest) (Opened h x kind) =
    opened way room position follow n (record { number = h; node = x; kind = kind }) rest
take way room (opening position own follow n rest) answer =
    refused_open way position own follow n rest (refusal_of answer)
take way room (reading position link rest) (Text text) = read_text way room position link rest text (text_fault text)
take way room (reading position link rest) answer = gives_up (link.number ∷ handles_of position) (refusal_of answer)
take way room (rising old names rest) (Opened h x kind) =
    closes way (old.number ∷ []) (judges (record { number = h; node = x; kind = kind }) names rest)
take way room (rising old names rest) answer = refused_rise old (refusal_of answer)
take way room (judging new names rest) (Names told) = judged new names told (goes_on way (holds new names) rest)
take way room (judging new names rest) NotBelow = gives_up (new.number ∷ []) Raced
take way room (judging new names rest) answer = gives_up (new.number ∷ []) (refusal_of answer)
take way room (duping rest) (Opened h x kind) = more (ending (record { number = h; node = x; kind = kind }) [] rest)
take way room (duping rest) answer = failed (refusal_of answer)
take way room (ending handle names rest) (Names told) = judged handle names told (end_of handle names rest)
take way room (ending handle names rest) NotBelow = gives_up (handle.number ∷ []) Raced
take way room (ending handle names rest) answer = gives_up (handle.number ∷ []) (refusal_of answer)
take way room (closing h hs after) answer = closes way hs after

-- the answers to an Open and to a Close after which the walk surely goes on, since something is held
abbrev pub passes : Walking → Answer → Bool
passes (opening root_itself own follow n rest) (Opened h x kind) = true
passes (opening root_itself own follow n rest) answer = false
passes (opening (holds handle names) own follow n rest) answer = true
passes (reading position link rest) answer = false
passes (rising handle names rest) answer = false
passes (judging handle names rest) answer = false
passes (duping rest) answer = false
passes (ending handle names rest) answer = false
passes (closing h [] (onward (holds handle names) rest)) answer = true
passes (closing h hs after) answer = false

abbrev pub due : Way → Walking → StepWith ℕ
due way (opening position own follow n rest) = Open (handle_at way position) n
due way (reading position link rest) = ReadLink link.number
due way (rising handle names rest) = Parent handle.number
due way (judging handle names rest) = NameBelow way.root handle.number
due way (duping rest) = Dup way.root
due way (ending handle names rest) = NameBelow way.root handle.number
due way (closing h hs after) = Close h

-- ---- a walk's lines

-- the walk that goes on, where it does
abbrev pub under_way : Turn → Option Walking
under_way (more walk) = Some walk
under_way (found handle names) = None
under_way (partial handle names rest) = None
under_way (failed error) = None

-- walks on this way, step by step
abbrev pub walks : Way → Machine Turn Walking
walks way =
    record { more = more; under_way = under_way; due = due way; IsUnmade = λ w. IsUnmade (due way w); take = take way }

-- These lines, one by one, lead from one turn to another.
abbrev pub LeadsTo : Way → Turn → List Line → Turn → Type 0
LeadsTo way = machine.LeadsTo (walks way)

-- ---- how many steps are left at most

-- for the parts to come, those of links' texts included: four for each
abbrev pub steps_for : Todo → ℕ
steps_for (todo inner own b) = 4 * (length inner + (length own + PARTS_MAX * b))

abbrev pub steps_after : After → ℕ
steps_after (gives error) = 0
steps_after (onward position rest) = 3 + steps_for rest
steps_after (judges handle names rest) = 4 + steps_for rest

abbrev pub steps_left : Walking → ℕ
steps_left (opening position own follow n rest) = 7 + steps_for rest
steps_left (reading position link (todo inner own b)) = 6 + steps_for (todo inner own (suc b))
steps_left (rising handle names rest) = 6 + steps_for rest
steps_left (judging handle names rest) = 4 + steps_for rest
steps_left (duping rest) = 3
steps_left (ending handle names rest) = 2
steps_left (closing h hs after) = suc (length hs) + steps_after after

-- how many steps are to come at most; none at an end
abbrev pub steps_left_at : Turn → ℕ
steps_left_at (more walking) = steps_left walking
steps_left_at (found handle names) = 0
steps_left_at (partial handle names rest) = 0
steps_left_at (failed error) = 0
