-- What a walk or a bulk call under way holds, which are the handles that it has opened and not closed: they are open, and each is
-- held once.
use Rattle.std.specs.Prelude.{ℕ, zero, suc, List, [], ◌∷◌, ◌++◌, Bool, true, false, if◌then◌else◌, reverse, Option, Some, None}
use Rattle.std.proofs.Common.{sym}
use Rattle.path_text.specs.declared.errno.Errno.{Errno}
use Rattle.path_text.specs.declared.errno.Errno.TheVariants.{NotFound, NoMemory, NotDir, TooLong, Exists, IsDir, NotEmpty, Busy, BadHandle, Raced}
use Rattle.path_text.specs.Names.{same_names}
use Rattle.path_text.specs.Reading.{Reading}
use Rattle.path_text.specs.Text.{text_fault, parts_of, begins_with_slash}
use Rattle.tree_model.specs.declared.answer.Answer.{Answer}
use Rattle.tree_model.specs.declared.answer.Answer.TheVariants.{Opened, Text, Names, NotBelow, Listed, Done, Refused}
use Rattle.tree_model.specs.declared.step.Kind.{Kind}
use Rattle.tree_model.specs.declared.step.Kind.TheVariants as kinds
use Rattle.walk_plan.specs.Plan.{leads_out}
use Rattle.step_resolver.specs.Asked.{AskedPart, Cur, Up, Named, asked, followed, follows}
use Rattle.step_resolver.specs.Meaning.{LINKS_MAX, is_too_long}
use Rattle.step_resolver.specs.Order.{Way, Handle, Position, root_itself, holds, Todo, todo, Walking, opening, reading, rising, judging, duping, ending, found, partial, failed, handles_of, is_dir_position, is_dir_kind, is_followed, at_end, in_directory, on_part, on_own, on_parts, goes_on, begins, for_walk, with_room, follows_link, enters, refused_open, from_link, read_text, refused_rise, refusal_of}
use Rattle.step_resolver.specs.Order as walk
use Rattle.step_resolver.proofs.Underway.WalkInvariant.{IsNotIn}
use Rattle.bulk_ops.specs.MakeAllOrder as make
use Rattle.bulk_ops.specs.RemoveAllOrder as remove
use Rattle.bulk_ops.specs.RemoveAllOrder.{Level, Stage, removes_file, opens, lists, shuts, leaves, removes_dir, dirs, before}
use Rattle.bulk_ops.specs.declared.remove_all.clearing.TheConstants.{CLEARING_STEPS_MAX}

-- ---- handles that are held

module _ (Open : ℕ → Type 0) where
  -- these are open, and each stands there once
  abbrev pub AllOpen : List ℕ → Type 0
  AllOpen [] = Unit {0}
  AllOpen (h ∷ hs) = Open h × (IsNotIn h hs × AllOpen hs)

  swapped : (h k : ℕ) (hs : List ℕ) → AllOpen (h ∷ k ∷ hs) → AllOpen (k ∷ h ∷ hs)
  swapped h k hs all = (all.1.1.0, (((λ e. all.1.0.0 (sym e)), all.1.1.1.0), (all.0, (all.1.0.1, all.1.1.1.1))))

-- what was opened is held too
abbrev pub with_opened : Answer → List ℕ → List ℕ
with_opened (Opened h x kind) hs = h ∷ hs
with_opened (Text text) hs = hs
with_opened (Names names) hs = hs
with_opened NotBelow hs = hs
with_opened (Listed names) hs = hs
with_opened Done hs = hs
with_opened (Refused error) hs = hs

-- ---- a walk

abbrev pub with_after : List ℕ → walk.After → List ℕ
with_after hs (walk.gives error) = hs
with_after hs (walk.onward position rest) = hs ++ handles_of position
with_after hs (walk.judges handle names rest) = hs ++ handle.number ∷ []

abbrev pub held_walking : Walking → List ℕ
held_walking (opening position own follow n rest) = handles_of position
held_walking (reading position link rest) = link.number ∷ handles_of position
held_walking (rising handle names rest) = handle.number ∷ []
held_walking (judging handle names rest) = handle.number ∷ []
held_walking (duping rest) = []
held_walking (ending handle names rest) = handle.number ∷ []
held_walking (walk.closing h hs after) = h ∷ with_after hs after

abbrev held_at_turn : walk.Turn → List ℕ
held_at_turn (walk.more w) = held_walking w
held_at_turn (found handle names) = handle.number ∷ []
held_at_turn (partial handle names rest) = handle.number ∷ []
held_at_turn (failed error) = []

-- what a walk holds once its step was answered
abbrev pub then_walking : Walking → Answer → List ℕ
then_walking (opening position own follow n rest) answer = with_opened answer (handles_of position)
then_walking (reading position link rest) answer = with_opened answer (link.number ∷ handles_of position)
then_walking (rising handle names rest) answer = with_opened answer (handle.number ∷ [])
then_walking (judging handle names rest) answer = with_opened answer (handle.number ∷ [])
then_walking (duping rest) answer = with_opened answer []
then_walking (ending handle names rest) answer = with_opened answer (handle.number ∷ [])
then_walking (walk.closing h hs after) answer = with_after hs after

module _ (Open : ℕ → Type 0) (fs : List ℕ) (way : Way) where
  abbrev pub HeldAt : walk.Turn → Type 0
  HeldAt turn = AllOpen Open (held_at_turn turn ++ fs)

  abbrev All : List ℕ → Type 0
  All hs = AllOpen Open (hs ++ fs)

  either : (b : Bool) (t u : walk.Turn) → HeldAt t → HeldAt u → HeldAt (if b then t else u)
  either true t u one other = one
  either false t u one other = other

  given_up : (hs : List ℕ) (error : Errno) → All hs → HeldAt (walk.gives_up hs error)
  given_up [] error all = all
  given_up (h ∷ hs) error all = all

  at_the_end : (position : Position) (rest : List AskedPart) → All (handles_of position) → HeldAt (at_end position rest)
  at_the_end root_itself rest all = all
  at_the_end (holds handle names) rest all = all

  in_a_directory : (position : Position) (p : AskedPart) (own : Bool) (rest : Todo) (passed : walk.Turn) → All (handles_of position) → HeldAt passed
      → HeldAt (in_directory way position p own rest passed)
  in_a_directory position Cur own rest passed all onward = onward
  in_a_directory root_itself Up own rest passed all onward = either way.flags.beneath _ passed all onward
  in_a_directory (holds handle []) Up own rest passed all onward = either way.flags.beneath _ passed all onward
  in_a_directory (holds handle (n ∷ names)) Up own rest passed all onward = all
  in_a_directory position (Named follow n) own rest passed all onward =
      either (is_too_long n) _ (walk.more (opening position own follow n rest)) (given_up (handles_of position) TooLong all) all

  at_a_part : (position : Position) (p : AskedPart) (own : Bool) (rest : Todo) (passed : walk.Turn) → All (handles_of position) → HeldAt passed
      → HeldAt (on_part way position p own rest passed)
  at_a_part position p own rest passed all onward =
      either (is_dir_position position) _ _ (in_a_directory position p own rest passed all onward) (given_up (handles_of position) NotDir all)

  along_own : (position : Position) (own : List AskedPart) (b : ℕ) → All (handles_of position) → HeldAt (on_own way position own b)
  along_own position [] b all = at_the_end position [] all
  along_own position (p ∷ own) b all = at_a_part position p true (todo [] own b) (on_own way position own b) all (along_own position own b all)

  along : (position : Position) (inner own : List AskedPart) (b : ℕ) → All (handles_of position) → HeldAt (on_parts way position inner own b)
  along position [] own b all = along_own position own b all
  along position (p ∷ inner) own b all = at_a_part position p false (todo inner own b) (on_parts way position inner own b) all (along position inner own b all)

  onwards : (position : Position) (rest : Todo) → All (handles_of position) → HeldAt (goes_on way position rest)
  onwards position (todo inner own b) all = along position inner own b all

  closed : (hs : List ℕ) (after : walk.After) → All (with_after hs after) → HeldAt (walk.closes way hs after)
  closed [] (walk.gives error) all = all
  closed [] (walk.onward position rest) all = onwards position rest all
  closed [] (walk.judges handle names rest) all = all
  closed (h ∷ hs) (walk.gives error) all = all
  closed (h ∷ hs) (walk.onward position rest) all = all
  closed (h ∷ hs) (walk.judges handle names rest) all = all

  for_room : (room : Bool) (hs : List ℕ) (turn : walk.Turn) → All hs → HeldAt turn → HeldAt (with_room room hs turn)
  for_room true hs turn all onward = onward
  for_room false hs turn all onward = given_up hs NoMemory all

  at_a_link : (position : Position) (link : Handle) (rest : Todo) → All (link.number ∷ handles_of position) → HeldAt (follows_link way position link rest)
  at_a_link position link (todo inner own zero) all = all
  at_a_link position link (todo inner own (suc b)) all = either way.flags.no_links _ (walk.more (reading position link (todo inner own b))) all all

  entered : (room : Bool) (position : Position) (n : List ℕ) (new : Handle) (rest : Todo) → All (new.number ∷ handles_of position) → HeldAt (enters way room position n new rest)
  entered room root_itself n new rest all = for_room room (new.number ∷ []) _ all (onwards (holds new (n ∷ [])) rest all)
  entered room (holds old names) n new rest all =
      for_room room (new.number ∷ old.number ∷ []) (walk.more (walk.closing old.number [] (walk.onward (holds new (n ∷ names)) rest))) all
      (swapped Open new.number old.number fs all)

  not_opened : (position : Position) (own follow : Bool) (n : List ℕ) (rest : Todo) (error : Errno) → All (handles_of position) → HeldAt (refused_open way position own follow n rest error)
  not_opened position own follow n (todo inner rest b) NotFound all =
      either _ _ _ (at_the_end position (Named follow n ∷ rest) all) (given_up (handles_of position) NotFound all)
  not_opened position own follow n (todo inner rest b) error all = given_up (handles_of position) error all

  from_a_link : (room : Bool) (position : Position) (link : Handle) (absolute : Bool) (parts : List AskedPart) (rest : Todo) → All (link.number ∷ handles_of position)
      → HeldAt (from_link way room position link absolute parts rest)
  from_a_link room root_itself link true parts (todo inner own b) all = for_room room (link.number ∷ []) _ all all
  from_a_link room (holds handle names) link true parts (todo inner own b) all = for_room room (link.number ∷ handle.number ∷ []) _ all all
  from_a_link room position link false parts (todo inner own b) all = for_room room (link.number ∷ handles_of position) _ all all

  read : (room : Bool) (position : Position) (link : Handle) (rest : Todo) (text : List ℕ) (why : Option Errno) → All (link.number ∷ handles_of position)
      → HeldAt (read_text way room position link rest text why)
  read room position link rest text (Some error) all = all
  read room position link rest text None all =
      either (leads_out (begins_with_slash text) way.flags) _ _ all (from_a_link room position link (begins_with_slash text) (followed (parts_of text)) rest all)

  not_risen : (handle : Handle) (error : Errno) → All (handle.number ∷ []) → HeldAt (refused_rise handle error)
  not_risen handle NotFound all = all
  not_risen handle error all = all

  stands_or_not : (b : Bool) (handle : Handle) (stands : walk.Turn) → All (handle.number ∷ []) → HeldAt stands
      → HeldAt (if b then stands else walk.gives_up (handle.number ∷ []) Raced)
  stands_or_not true handle stands all onward = onward
  stands_or_not false handle stands all onward = all

  ended : (handle : Handle) (names : List (List ℕ)) (rest : List AskedPart) → All (handle.number ∷ []) → HeldAt (walk.end_of handle names rest)
  ended handle names [] all = all
  ended handle names (p ∷ rest) all = all

  pub walk_taken : (room : Bool) (w : Walking) (answer : Answer) → All (then_walking w answer) → HeldAt (walk.take way room w answer)
  walk_taken room (opening position own follow n rest) (Opened h x kind) all =
      either (is_followed follow kind) _ _ (at_a_link position _ rest all) (entered room position n _ rest all)
  walk_taken room (opening position own follow n rest) answer all = not_opened position own follow n rest (refusal_of answer) all
  walk_taken room (reading position link rest) (Text text) all = read room position link rest text (text_fault text) all
  walk_taken room (reading position link rest) (Opened h x kind) all = all.1.1
  walk_taken room (reading position link rest) answer all = all
  walk_taken room (rising old names rest) (Opened h x kind) all = swapped Open h old.number fs all
  walk_taken room (rising old names rest) answer all = not_risen old (refusal_of answer) all
  walk_taken room (judging new names rest) (Names told) all = stands_or_not _ new _ all (onwards (holds new names) rest all)
  walk_taken room (judging new names rest) (Opened h x kind) all = all.1.1
  walk_taken room (judging new names rest) answer all = all
  walk_taken room (duping rest) (Opened h x kind) all = all
  walk_taken room (duping rest) answer all = all
  walk_taken room (ending handle names rest) (Names told) all = stands_or_not _ handle _ all (ended handle names rest all)
  walk_taken room (ending handle names rest) (Opened h x kind) all = all.1.1
  walk_taken room (ending handle names rest) answer all = all
  walk_taken room (walk.closing h hs after) answer all = closed hs after all

  pub walk_begun : (path : Reading) → AllOpen Open fs → HeldAt (begins way path)
  walk_begun path all = either (leads_out path.absolute way.flags) _ _ all (onwards root_itself (todo [] (asked (follows way.goal) path.parts) LINKS_MAX) all)

  pub walk_started : (room : Bool) (turn : walk.Turn) → AllOpen Open fs → HeldAt turn → HeldAt (for_walk room turn)
  walk_started true turn none all = all
  walk_started false (walk.more w) none all = none
  walk_started false (found handle names) none all = all
  walk_started false (partial handle names rest) none all = all
  walk_started false (failed error) none all = all

-- ---- a MkdirAll

abbrev pub held_making : make.Making → List ℕ
held_making (make.walking w) = held_walking w ++ []
held_making (make.making held names n left) = held.number ∷ []
held_making (make.opening held names n left) = held.number ∷ []
held_making (make.leaving old new names left) = old ∷ new.number ∷ []
held_making (make.ending held names) = held.number ∷ []
held_making (make.closing h hs error) = h ∷ hs

abbrev held_at_making : make.MakeTurn → List ℕ
held_at_making (make.more m) = held_making m
held_at_making (make.made handle names) = handle.number ∷ []
held_at_making (make.failed error) = []

abbrev pub then_making : make.Making → Answer → List ℕ
then_making (make.walking w) answer = then_walking w answer ++ []
then_making (make.making held names n left) answer = with_opened answer (held.number ∷ [])
then_making (make.opening held names n left) answer = with_opened answer (held.number ∷ [])
then_making (make.leaving old new names left) answer = new.number ∷ []
then_making (make.ending held names) answer = with_opened answer (held.number ∷ [])
then_making (make.closing h hs error) answer = hs

module _ (Open : ℕ → Type 0) (way : Way) where
  abbrev pub HeldMaking : make.MakeTurn → Type 0
  HeldMaking turn = AllOpen Open (held_at_making turn)

  make_given_up : (hs : List ℕ) (error : Errno) → AllOpen Open hs → HeldMaking (make.gives_up hs error)
  make_given_up [] error all = all
  make_given_up (h ∷ hs) error all = all

  make_either : (b : Bool) (t u : make.MakeTurn) → HeldMaking t → HeldMaking u → HeldMaking (if b then t else u)
  make_either true t u one other = one
  make_either false t u one other = other

  goes_deeper : (held : Handle) (names left : List (List ℕ)) → AllOpen Open (held.number ∷ []) → HeldMaking (make.goes_down held names left)
  goes_deeper held names [] all = all
  goes_deeper held names (n ∷ left) all = all

  begun_to_make : (room : Bool) (held : Handle) (names : List (List ℕ)) (rest : List AskedPart) (why : Option Errno) → AllOpen Open (held.number ∷ [])
      → HeldMaking (make.begins_to_make room held names rest why)
  begun_to_make true held names rest (Some error) all = all
  begun_to_make false held names rest (Some error) all = all
  begun_to_make true held names rest None all = goes_deeper held names (make.rest_names rest) all
  begun_to_make false held names rest None all = all

  make_walked : (room : Bool) (turn : walk.Turn) → HeldAt Open [] way turn → HeldMaking (make.after_walk room turn)
  make_walked room (walk.more w) all = all
  make_walked room (found handle names) all = make_either (is_dir_kind handle.kind) (make.made handle names) _ all all
  make_walked room (partial handle names rest) all = begun_to_make room handle names rest (make.rest_fault rest) all
  make_walked room (failed error) all = all

  not_made_dir : (held : Handle) (names : List (List ℕ)) (n : List ℕ) (left : List (List ℕ)) (error : Errno) → AllOpen Open (held.number ∷ [])
      → HeldMaking (make.refused_make held names n left error)
  not_made_dir held names n left Exists all = all
  not_made_dir held names n left error all = all

  pub make_taken : (room : Bool) (m : make.Making) (answer : Answer) → AllOpen Open (then_making m answer) → HeldMaking (make.take way room m answer)
  make_taken room (make.walking w) answer all = make_walked room (walk.take way room w answer) (walk_taken Open [] way room w answer all)
  make_taken room (make.making held names n left) Done all = all
  make_taken room (make.making held names n left) (Opened h x kind) all = not_made_dir held names n left BadHandle all.1.1
  make_taken room (make.making held names n left) answer all = not_made_dir held names n left (refusal_of answer) all
  make_taken room (make.opening held names n left) (Opened h x kind) all =
      make_either (is_dir_kind kind) (make.more (make.leaving held.number _ (n ∷ names) left)) _ (swapped Open h held.number [] all) all
  make_taken room (make.opening held names n left) answer all = all
  make_taken room (make.leaving old new names left) answer all = goes_deeper new names left all
  make_taken room (make.ending held names) (Names told) all =
      make_either (same_names told (reverse names)) (make.made held names) (make.gives_up (held.number ∷ []) Raced) all all
  make_taken room (make.ending held names) (Opened h x kind) all = all.1.1
  make_taken room (make.ending held names) answer all = all
  make_taken room (make.closing h hs error) answer all = make_given_up hs error all

  pub make_begun : (path : Reading) → HeldMaking (make.begins way path)
  make_begun path = make_walked true (begins way path) (walk_begun Open [] way path tt)

-- ---- a RemoveAll

abbrev pub held_removing : remove.Removing → List ℕ
held_removing (remove.walking way target w) = held_walking w ++ []
held_removing (remove.clearing stage level above count left) = before stage (dirs (level ∷ above))
held_removing (remove.closing h hs end) = h ∷ hs

abbrev held_at_removing : remove.Turn → List ℕ
held_at_removing (remove.more r) = held_removing r
held_at_removing (remove.removed n) = []
held_at_removing (remove.failed error) = []

abbrev then_clearing : Stage → List ℕ → Answer → List ℕ
then_clearing removes_file hs answer = with_opened answer hs
then_clearing opens hs answer = with_opened answer hs
then_clearing (lists h) hs answer = with_opened answer (h ∷ hs)
then_clearing (shuts h) hs answer = hs
then_clearing (leaves h) hs answer = hs
then_clearing removes_dir hs answer = with_opened answer hs

abbrev pub then_removing : remove.Removing → Answer → List ℕ
then_removing (remove.walking way target w) answer = then_walking w answer ++ []
then_removing (remove.clearing stage level above count left) answer = then_clearing stage (dirs (level ∷ above)) answer
then_removing (remove.closing h hs end) answer = hs

module _ (Open : ℕ → Type 0) where
  abbrev pub HeldRemoving : remove.Turn → Type 0
  HeldRemoving turn = AllOpen Open (held_at_removing turn)

  removal_closed : (hs : List ℕ) (end : remove.End) → AllOpen Open hs → HeldRemoving (remove.closes hs end)
  removal_closed [] (remove.fails error) all = tt
  removal_closed [] (remove.removes n) all = tt
  removal_closed (h ∷ hs) end all = all

  is_due_then : (stage : Stage) (level : Level) (above : List Level) (count left : ℕ) → AllOpen Open (before stage (dirs (level ∷ above)))
      → HeldRemoving (remove.is_due stage level above count left)
  is_due_then stage level above count zero all = removal_closed (before stage (dirs (level ∷ above))) (remove.fails Busy) all
  is_due_then stage level above count (suc left) all = all

  removal_given_up : (stage : Stage) (level : Level) (above : List Level) (error : Errno) → AllOpen Open (before stage (dirs (level ∷ above)))
      → HeldRemoving (remove.gives_up stage level above error)
  removal_given_up stage level above error all = removal_closed (before stage (dirs (level ∷ above))) (remove.fails error) all

  next_then : (d : ℕ) (others : List (List ℕ)) (above : List Level) (count left : ℕ) → AllOpen Open (d ∷ dirs above) → HeldRemoving (remove.next_entry d others above count left)
  next_then d (m ∷ others) above count left all = is_due_then removes_file (record { dir = d; name = m; others = others }) above count left all
  next_then d [] (level ∷ above) count left all = is_due_then (leaves d) level above count left all
  next_then d [] [] count left all = all

  enters_then : (h : ℕ) (names : List (List ℕ)) (level : Level) (above : List Level) (count left : ℕ) → AllOpen Open (h ∷ dirs (level ∷ above))
      → HeldRemoving (remove.enters h names level above count left)
  enters_then h [] level above count left all = is_due_then (leaves h) level above count left all
  enters_then h (n ∷ others) level above count left all = is_due_then removes_file (record { dir = h; name = n; others = others }) (level ∷ above) count left all

  module _ (level : Level) (above : List Level) (count left : ℕ) where
    abbrev Levels : Type 0
    Levels = AllOpen Open (dirs (level ∷ above))

    finished_then : (n : ℕ) → Levels → HeldRemoving (remove.finished level above n left)
    finished_then n all = next_then level.dir level.others above n left all

    file_then : (answer : Answer) → AllOpen Open (with_opened answer (dirs (level ∷ above))) → HeldRemoving (remove.file_removed level above count left answer)
    file_then Done all = finished_then (suc count) all
    file_then (Refused NotFound) all = finished_then count all
    file_then (Refused IsDir) all = is_due_then opens level above count left all
    file_then (Opened h x kind) all = removal_given_up removes_file level above BadHandle all.1.1
    file_then answer all = removal_given_up removes_file level above (refusal_of answer) all

    kind_then : (h : ℕ) (kind : Kind) → AllOpen Open (h ∷ dirs (level ∷ above)) → HeldRemoving (remove.is_opened level above count left h kind)
    kind_then h kinds.Dir all = is_due_then (lists h) level above count left all
    kind_then h kinds.File all = is_due_then (shuts h) level above count left all
    kind_then h kinds.Link all = is_due_then (shuts h) level above count left all

    opened_then : (answer : Answer) → AllOpen Open (with_opened answer (dirs (level ∷ above))) → HeldRemoving (remove.opened level above count left answer)
    opened_then (Opened h x kind) all = kind_then h kind all
    opened_then (Refused NotFound) all = finished_then count all
    opened_then answer all = removal_given_up opens level above (refusal_of answer) all

    listed_then : (room : Bool) (h : ℕ) (answer : Answer) → AllOpen Open (with_opened answer (h ∷ dirs (level ∷ above))) → HeldRemoving (remove.listed room h level above count left answer)
    listed_then true h (Listed names) all = enters_then h names level above count left all
    listed_then false h (Listed names) all = removal_given_up (lists h) level above NoMemory all
    listed_then true h (Opened k x kind) all = removal_given_up (lists h) level above BadHandle all.1.1
    listed_then false h (Opened k x kind) all = removal_given_up (lists h) level above BadHandle all.1.1
    listed_then true h answer all = removal_given_up (lists h) level above (refusal_of answer) all
    listed_then false h answer all = removal_given_up (lists h) level above (refusal_of answer) all

    dir_then : (answer : Answer) → AllOpen Open (with_opened answer (dirs (level ∷ above))) → HeldRemoving (remove.dir_removed level above count left answer)
    dir_then Done all = finished_then (suc count) all
    dir_then (Refused NotFound) all = finished_then count all
    dir_then (Refused NotEmpty) all = is_due_then opens level above count left all
    dir_then (Refused NotDir) all = is_due_then removes_file level above count left all
    dir_then (Opened h x kind) all = removal_given_up removes_dir level above BadHandle all.1.1
    dir_then answer all = removal_given_up removes_dir level above (refusal_of answer) all

  removal_walked : (way : Way) (target : List ℕ) (turn : walk.Turn) → HeldAt Open [] way turn → HeldRemoving (remove.walked way target turn)
  removal_walked way target (walk.more w) all = all
  removal_walked way target (found handle names) all = is_due_then removes_file (record { dir = handle.number; name = target; others = [] }) [] 0 CLEARING_STEPS_MAX all
  removal_walked way target (partial handle names rest) all = all
  removal_walked way target (failed error) all = all

  pub removal_taken : (room : Bool) (r : remove.Removing) (answer : Answer) → AllOpen Open (then_removing r answer) → HeldRemoving (remove.take room r answer)
  removal_taken room (remove.walking way target w) answer all = removal_walked way target (walk.take way room w answer) (walk_taken Open [] way room w answer all)
  removal_taken room (remove.clearing removes_file level above count left) answer all = file_then level above count left answer all
  removal_taken room (remove.clearing opens level above count left) answer all = opened_then level above count left answer all
  removal_taken room (remove.clearing (lists h) level above count left) answer all = listed_then level above count left room h answer all
  removal_taken room (remove.clearing (shuts h) level above count left) answer all = is_due_then removes_file level above count left all
  removal_taken room (remove.clearing (leaves h) level above count left) answer all = is_due_then removes_dir level above count left all
  removal_taken room (remove.clearing removes_dir level above count left) answer all = dir_then level above count left answer all
  removal_taken room (remove.closing h hs end) answer all = removal_closed hs end all

  pub removal_begun : (way : Way) (target : List ℕ) (path : Reading) → HeldRemoving (remove.begins way target path)
  removal_begun way target path = removal_walked way target (begins way path) (walk_begun Open [] way path tt)
