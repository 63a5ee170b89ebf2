-- Each answer leaves fewer steps to come, and a call begins with few. A walk's turn that isn't the deepest directory
-- doesn't ask for room of the call's own.
use Rattle.std.specs.Prelude.{◌≡◌, ℕ, zero, suc, ◌+◌, ◌*◌, ◌<◌, ◌≤◌, ◌&&◌, List, [], ◌∷◌, ◌++◌, Bool, true, false, length, reverse, Option, Some, None, if◌then◌else◌, refl}
use Rattle.std.proofs.Common.{ap, ◌∙◌, subst, arith, le_refl, le_trans}
use Rattle.std.proofs.Math.Nat.{le-suc}
use Rattle.path_text.specs.declared.errno.Errno.{Errno}
use Rattle.path_text.specs.declared.errno.Errno.TheVariants.{NotFound, Raced, NoMemory, CrossRoot, NotDir, TooLong, Loop, Exists}
use Rattle.path_text.specs.declared.path.TheConstants.{PARTS_MAX}
use Rattle.path_text.specs.Names.{same_names}
use Rattle.path_text.specs.Reading.{Reading}
use Rattle.path_text.specs.Text.{text_fault, parts_of, begins_with_slash}
use Rattle.tree_model.specs.declared.answer.Answer.{Answer}
use Rattle.tree_model.specs.declared.answer.Answer.TheVariants.{Opened, Text, Names, NotBelow, Done, Refused}
use Rattle.step_machine.specs.Machine.{taken}
use Rattle.step_resolver.specs.Asked.{AskedPart, Cur, Up, Named, asked, followed, is_deepest}
use Rattle.walk_plan.specs.Plan.{follows, leads_out}
use Rattle.step_resolver.specs.Meaning.{LINKS_MAX, is_too_long}
use Rattle.step_resolver.specs.Order.{Way, Handle, Position, root_itself, holds, Todo, todo, After, gives, onward, judges, Walking, opening, reading, rising, judging, duping, ending, closing, names_of, handles_of, is_dir_position, is_dir_kind, is_followed, at_end, in_directory, on_part, on_own, on_parts, goes_on, for_walk, comes, closes, refusal_of, with_room, follows_link, enters, refused_open, from_link, read_text, end_of, judged, refused_rise, Line, has_room, answer_of}
use Rattle.step_resolver.specs.Order as walk
use Rattle.step_resolver.specs.View.{WalkView}
use Rattle.step_resolver.specs.TurnView.{STEPS_MAX, turn_view}
use Rattle.step_resolver.specs.TurnView.{TakesTo as TakesWalk, StartsTo as StartsWalk}
use Rattle.step_resolver.specs.declared.walk.Turn.{Turn as Outcome}
use Rattle.walk_plan.specs.declared.goal.Goal.TheVariants.{Deepest}
use Rattle.step_resolver.proofs.WalkSteps.{FewerThan, take_lowers, a_step_left, begins_few, asked_length}
use Rattle.bulk_ops.specs.MakeAllOrder.{Making, walking, MakeTurn, rest_fault, rest_names, goes_down, begins_to_make, after_walk, own_in, own_after, own_here, own_left, steps_left, take, calls, LeadsTo}
use Rattle.bulk_ops.specs.MakeAllOrder as make
use Rattle.bulk_ops.specs.MakeAllSteps.{StepsAfterTheWalk}
use Rattle.bulk_ops.specs.MakeAllView.{MakingView, way_of, MAKE_STEPS_MAX, IsTurn, TakesTo, StartsTo, steps_to_come}
use Rattle.bulk_ops.specs.declared.make_all.Call.{Call}
use Rattle.bulk_ops.specs.declared.turn.BulkTurn.{BulkTurn}
use Rattle.bulk_ops.specs.declared.turn.BulkTurn.TheVariants.{More, Made, Removed, Failed}

-- the walk goes on with no more of the caller's own parts than these, or it ended otherwise than in the deepest directory
abbrev pub GoesOnWithin : ℕ → walk.Turn → Type 0
GoesOnWithin k (walk.more w) = own_left w ≤ k
GoesOnWithin k (walk.found handle names) = Unit {0}
GoesOnWithin k (walk.partial handle names rest) = ⊥
GoesOnWithin k (walk.failed error) = Unit {0}

weaker : (j k : ℕ) (turn : walk.Turn) → j ≤ k → GoesOnWithin j turn → GoesOnWithin k turn
weaker j k (walk.more w) le few = omega (arith, le, few)
weaker j k (walk.found handle names) le few = tt
weaker j k (walk.partial handle names rest) le few = elim few [ ]
weaker j k (walk.failed error) le few = tt

either : (k : ℕ) (b : Bool) (t u : walk.Turn) → GoesOnWithin k t → GoesOnWithin k u → GoesOnWithin k (if b then t else u)
either k true t u few fewer = few
either k false t u few fewer = fewer

given_up : (k : ℕ) (hs : List ℕ) (error : Errno) → GoesOnWithin k (walk.gives_up hs error)
given_up k [] error = tt
given_up k (h ∷ hs) error = omega arith

at_end_within : (position : Position) (rest : List AskedPart) → GoesOnWithin (length rest) (at_end position rest)
at_end_within root_itself rest = le_refl (length rest)
at_end_within (holds handle names) rest = le_refl (length rest)

here_more : (own : Bool) (k : ℕ) → k ≤ own_here own k
here_more true k = le-suc k
here_more false k = le_refl k

module _ (way : Way) where
  in_directory_within : (position : Position) (p : AskedPart) (own : Bool) (rest : Todo) (passed : walk.Turn) → GoesOnWithin (own_in rest) passed
      → GoesOnWithin (own_here own (own_in rest)) (in_directory way position p own rest passed)
  in_directory_within position Cur own rest passed few = weaker (own_in rest) (own_here own (own_in rest)) passed (here_more own (own_in rest)) few
  in_directory_within root_itself Up own rest passed few =
      either (own_here own (own_in rest)) way.flags.beneath _ passed tt (weaker (own_in rest) (own_here own (own_in rest)) passed (here_more own (own_in rest)) few)
  in_directory_within (holds handle []) Up own rest passed few =
      either (own_here own (own_in rest)) way.flags.beneath _ passed (omega arith) (weaker (own_in rest) (own_here own (own_in rest)) passed (here_more own (own_in rest)) few)
  in_directory_within (holds handle (n ∷ names)) Up own rest passed few = here_more own (own_in rest)
  in_directory_within position (Named follow n) own rest passed few =
      either (own_here own (own_in rest)) (is_too_long n) _ _ (given_up (own_here own (own_in rest)) (handles_of position) TooLong) (le_refl (own_here own (own_in rest)))

  on_part_within : (position : Position) (p : AskedPart) (own : Bool) (rest : Todo) (passed : walk.Turn) → GoesOnWithin (own_in rest) passed
      → GoesOnWithin (own_here own (own_in rest)) (on_part way position p own rest passed)
  on_part_within position p own rest passed few =
      either (own_here own (own_in rest)) (is_dir_position position) _ _ (in_directory_within position p own rest passed few)
      (given_up (own_here own (own_in rest)) (handles_of position) NotDir)

  on_own_within : (position : Position) (own : List AskedPart) (b : ℕ) → GoesOnWithin (length own) (on_own way position own b)
  on_own_within position [] b = at_end_within position []
  on_own_within position (p ∷ own) b = on_part_within position p true (todo [] own b) (on_own way position own b) (on_own_within position own b)

  on_parts_within : (position : Position) (inner own : List AskedPart) (b : ℕ) → GoesOnWithin (length own) (on_parts way position inner own b)
  on_parts_within position [] own b = on_own_within position own b
  on_parts_within position (p ∷ inner) own b =
      on_part_within position p false (todo inner own b) (on_parts way position inner own b) (on_parts_within position inner own b)

  goes_on_within : (position : Position) (rest : Todo) → GoesOnWithin (own_in rest) (goes_on way position rest)
  goes_on_within position (todo inner own b) = on_parts_within position inner own b

  comes_within : (after : After) → GoesOnWithin (own_after after) (comes way after)
  comes_within (gives error) = tt
  comes_within (onward position rest) = goes_on_within position rest
  comes_within (judges handle names rest) = le_refl (own_in rest)

  closes_within : (hs : List ℕ) (after : After) → GoesOnWithin (own_after after) (closes way hs after)
  closes_within [] after = comes_within after
  closes_within (h ∷ hs) after = le_refl (own_after after)

  with_room_within : (k : ℕ) (room : Bool) (hs : List ℕ) (turn : walk.Turn) → GoesOnWithin k turn → GoesOnWithin k (with_room room hs turn)
  with_room_within k true hs turn few = few
  with_room_within k false hs turn few = given_up k hs NoMemory

  follows_link_within : (position : Position) (link : Handle) (rest : Todo) → GoesOnWithin (own_in rest) (follows_link way position link rest)
  follows_link_within position link (todo inner own zero) = given_up (length own) (link.number ∷ handles_of position) Loop
  follows_link_within position link (todo inner own (suc b)) =
      either (length own) way.flags.no_links _ _ (given_up (length own) (link.number ∷ handles_of position) Loop) (le_refl (length own))

  enters_within : (room : Bool) (position : Position) (n : List ℕ) (new : Handle) (rest : Todo) → GoesOnWithin (own_in rest) (enters way room position n new rest)
  enters_within room position n new rest =
      with_room_within (own_in rest) room (new.number ∷ handles_of position) _
      (closes_within (handles_of position) (onward (holds new (n ∷ names_of position)) rest))

  refused_open_within : (position : Position) (own follow : Bool) (n : List ℕ) (rest : Todo) (error : Errno)
      → GoesOnWithin (own_here own (own_in rest)) (refused_open way position own follow n rest error)
  refused_open_within position true follow n (todo inner rest b) NotFound =
      either (suc (length rest)) (is_deepest way.goal && true) _ _ (at_end_within position (Named follow n ∷ rest)) (given_up (suc (length rest)) (handles_of position) NotFound)
  refused_open_within position false follow n (todo inner rest b) NotFound = not_own (is_deepest way.goal)
    where
      not_own : (deepest : Bool) → GoesOnWithin (length rest) (if deepest && false then at_end position (Named follow n ∷ rest) else walk.gives_up (handles_of position) NotFound)
      not_own true = given_up (length rest) (handles_of position) NotFound
      not_own false = given_up (length rest) (handles_of position) NotFound
  refused_open_within position own follow n rest error = given_up (own_here own (own_in rest)) (handles_of position) error

  from_link_within : (room : Bool) (position : Position) (link : Handle) (absolute : Bool) (parts : List AskedPart) (rest : Todo)
      → GoesOnWithin (own_in rest) (from_link way room position link absolute parts rest)
  from_link_within room position link true parts (todo inner own b) =
      with_room_within (length own) room (link.number ∷ handles_of position) _ (closes_within (link.number ∷ handles_of position) (onward root_itself (todo (parts ++ inner) own b)))
  from_link_within room position link false parts (todo inner own b) =
      with_room_within (length own) room (link.number ∷ handles_of position) _ (closes_within (link.number ∷ []) (onward position (todo (parts ++ inner) own b)))

  read_text_within : (room : Bool) (position : Position) (link : Handle) (rest : Todo) (text : List ℕ) (fault : Option Errno)
      → GoesOnWithin (own_in rest) (read_text way room position link rest text fault)
  read_text_within room position link rest text (Some fault) = given_up (own_in rest) (link.number ∷ handles_of position) fault
  read_text_within room position link rest text None =
      either (own_in rest) (leads_out (begins_with_slash text) way.flags) _ _ (given_up (own_in rest) (link.number ∷ handles_of position) CrossRoot)
      (from_link_within room position link (begins_with_slash text) (followed (parts_of text)) rest)

  refused_rise_within : (k : ℕ) (handle : Handle) (error : Errno) → GoesOnWithin k (refused_rise handle error)
  refused_rise_within k handle NotFound = omega arith
  refused_rise_within k handle error = omega arith

  judged_within : (k : ℕ) (handle : Handle) (names told : List (List ℕ)) (stands : walk.Turn) → GoesOnWithin k stands → GoesOnWithin k (judged handle names told stands)
  judged_within k handle names told stands few = either k (same_names told (reverse names)) stands (walk.gives_up (handle.number ∷ []) Raced) few (omega arith)

  -- ---- each answer

  -- the place of what is held at the end is asked
  abbrev pub IsEnding : Walking → Type 0
  IsEnding (opening position own follow n rest) = ⊥
  IsEnding (reading position link rest) = ⊥
  IsEnding (rising handle names rest) = ⊥
  IsEnding (judging handle names rest) = ⊥
  IsEnding (duping rest) = ⊥
  IsEnding (ending handle names rest) = Unit {0}
  IsEnding (closing h hs after) = ⊥

  pub take_within : (room : Bool) (w : Walking) → (IsEnding w → ⊥) → (answer : Answer) → GoesOnWithin (own_left w) (walk.take way room w answer)
  take_within room (opening position own follow n rest) other (Opened h x kind) =
      weaker (own_in rest) (own_here own (own_in rest)) _ (here_more own (own_in rest))
      (either (own_in rest) (is_followed follow kind) _ _ (follows_link_within position _ rest) (enters_within room position n _ rest))
  take_within room (opening position own follow n rest) other answer = refused_open_within position own follow n rest (refusal_of answer)
  take_within room (reading position link rest) other (Text text) = read_text_within room position link rest text (text_fault text)
  take_within room (reading position link rest) other answer = given_up (own_in rest) (link.number ∷ handles_of position) (refusal_of answer)
  take_within room (rising old names rest) other (Opened h x kind) = le_refl (own_in rest)
  take_within room (rising old names rest) other answer = refused_rise_within (own_in rest) old (refusal_of answer)
  take_within room (judging new names rest) other (Names told) = judged_within (own_in rest) new names told _ (goes_on_within (holds new names) rest)
  take_within room (judging new names rest) other NotBelow = omega arith
  take_within room (judging new names rest) other answer = omega arith
  take_within room (duping rest) other (Opened h x kind) = le_refl (length rest)
  take_within room (duping rest) other answer = tt
  take_within room (ending handle names rest) other answer = absurd (other tt)
  take_within room (closing h hs after) other answer = closes_within hs after

-- a walk that is refused a step doesn't end in the deepest directory
pub refused_within : (way : Way) (w : Walking) (error : Errno) → GoesOnWithin (own_left w) (walk.take way true w (Refused error))
refused_within way (ending handle names rest) error = omega arith
refused_within way (opening position own follow n rest) error = take_within way true (opening position own follow n rest) (λ z. z) (Refused error)
refused_within way (reading position link rest) error = take_within way true (reading position link rest) (λ z. z) (Refused error)
refused_within way (rising old names rest) error = take_within way true (rising old names rest) (λ z. z) (Refused error)
refused_within way (judging new names rest) error = take_within way true (judging new names rest) (λ z. z) (Refused error)
refused_within way (duping rest) error = take_within way true (duping rest) (λ z. z) (Refused error)
refused_within way (closing h hs after) error = take_within way true (closing h hs after) (λ z. z) (Refused error)

-- ---- the deepest directory, with no more parts than were left

abbrev pub EndsWithin : ℕ → walk.Turn → Type 0
EndsWithin k (walk.more w) = own_left w ≤ k
EndsWithin k (walk.found handle names) = Unit {0}
EndsWithin k (walk.partial handle names rest) = length rest ≤ k
EndsWithin k (walk.failed error) = Unit {0}

ends_within : (k : ℕ) (turn : walk.Turn) → GoesOnWithin k turn → EndsWithin k turn
ends_within k (walk.more w) few = few
ends_within k (walk.found handle names) few = tt
ends_within k (walk.partial handle names rest) few = elim few [ ]
ends_within k (walk.failed error) few = tt

end_of_within : (handle : Handle) (names : List (List ℕ)) (rest : List AskedPart) → EndsWithin (length rest) (end_of handle names rest)
end_of_within handle names [] = tt
end_of_within handle names (p ∷ rest) = le_refl (length (p ∷ rest))

end_judged : (handle : Handle) (names : List (List ℕ)) (rest : List AskedPart) (b : Bool)
    → EndsWithin (length rest) (if b then end_of handle names rest else walk.gives_up (handle.number ∷ []) Raced)
end_judged handle names rest true = end_of_within handle names rest
end_judged handle names rest false = omega arith

taken_within : (way : Way) (room : Bool) (w : Walking) (answer : Answer) → EndsWithin (own_left w) (walk.take way room w answer)
taken_within way room (ending handle names rest) (Names told) = end_judged handle names rest (same_names told (reverse names))
taken_within way room (ending handle names rest) NotBelow = omega arith
taken_within way room (ending handle names rest) answer = omega arith
taken_within way room (opening position own follow n rest) answer = ends_within _ _ (take_within way room (opening position own follow n rest) (λ z. z) answer)
taken_within way room (reading position link rest) answer = ends_within _ _ (take_within way room (reading position link rest) (λ z. z) answer)
taken_within way room (rising old names rest) answer = ends_within _ _ (take_within way room (rising old names rest) (λ z. z) answer)
taken_within way room (judging new names rest) answer = ends_within _ _ (take_within way room (judging new names rest) (λ z. z) answer)
taken_within way room (duping rest) answer = ends_within _ _ (take_within way room (duping rest) (λ z. z) answer)
taken_within way room (closing h hs after) answer = ends_within _ _ (take_within way room (closing h hs after) (λ z. z) answer)

-- ---- the call's own room

-- a turn that isn't the deepest directory needs none
pub needs_no_room : (k : ℕ) (turn : walk.Turn) → GoesOnWithin k turn → (r s : Bool) → after_walk r turn ≡ after_walk s turn
needs_no_room k (walk.more w) few r s = refl
needs_no_room k (walk.found handle names) few r s = refl
needs_no_room k (walk.partial handle names rest) few r s = elim few [ ]
needs_no_room k (walk.failed error) few r s = refl

-- at the end of a walk only the call's own room counts
end_needs_none : (way : Way) (handle : Handle) (names : List (List ℕ)) (rest : List AskedPart) (answer : Answer) (r s : Bool)
    → walk.take way r (ending handle names rest) answer ≡ walk.take way s (ending handle names rest) answer
end_needs_none way handle names rest (Names told) r s = refl
end_needs_none way handle names rest NotBelow r s = refl
end_needs_none way handle names rest answer r s = refl

record OneRoom (way : Way) (w : Walking) (answer : Answer) (r s : Bool) : Type 0 where
  pub room : Bool
  pub same : after_walk s (walk.take way r w answer) ≡ after_walk room (walk.take way room w answer)

one_room : (way : Way) (w : Walking) (answer : Answer) (r s : Bool) → OneRoom way w answer r s
one_room way (ending handle names rest) answer r s = record { room = s; same = ap (after_walk s) (end_needs_none way handle names rest answer r s) }
one_room way (opening position own follow n rest) answer r s = record { room = r; same = needs_no_room _ _ (take_within way r (opening position own follow n rest) (λ z. z) answer) s r }
one_room way (reading position link rest) answer r s = record { room = r; same = needs_no_room _ _ (take_within way r (reading position link rest) (λ z. z) answer) s r }
one_room way (rising old names rest) answer r s = record { room = r; same = needs_no_room _ _ (take_within way r (rising old names rest) (λ z. z) answer) s r }
one_room way (judging new names rest) answer r s = record { room = r; same = needs_no_room _ _ (take_within way r (judging new names rest) (λ z. z) answer) s r }
one_room way (duping rest) answer r s = record { room = r; same = needs_no_room _ _ (take_within way r (duping rest) (λ z. z) answer) s r }
one_room way (closing h hs after) answer r s = record { room = r; same = needs_no_room _ _ (take_within way r (closing h hs after) (λ z. z) answer) s r }

-- what the walk's turn made of the call is what the answer makes of it
pub walk_taken : (call : Call) (w : WalkView) (answer : Answer) (result : BulkTurn MakingView) (outcome : Outcome) → w.way ≡ way_of call
    → TakesWalk w.way w.walking answer (turn_view w.way.goal outcome) → (s : Bool) → IsTurn result (after_walk s (turn_view Deepest outcome))
    → TakesTo (way_of call) (walking w.walking) answer result
walk_taken call w answer result outcome same taken s is =
    let on_way : TakesWalk (way_of call) w.walking answer (turn_view Deepest outcome) =
    subst (λ (v : Way). TakesWalk v w.walking answer (turn_view v.goal outcome)) same taken in
    let one = one_room (way_of call) w.walking answer on_way.0 s in
    (one.room, subst (IsTurn result) (ap (after_walk s) on_way.1 ∙ one.same) is)

-- the first turn needs none either
pub begun_within : (way : Way) (path : Reading) → GoesOnWithin (length (asked (follows way.goal) path.parts)) (walk.begins way path)
begun_within way path =
    either (length (asked (follows way.goal) path.parts)) (leads_out path.absolute way.flags) _ _ tt (on_own_within way root_itself (asked (follows way.goal) path.parts) LINKS_MAX)

for_walk_within : (k : ℕ) (room : Bool) (turn : walk.Turn) → GoesOnWithin k turn → GoesOnWithin k (for_walk room turn)
for_walk_within k true turn few = few
for_walk_within k false (walk.more w) few = tt
for_walk_within k false (walk.found handle names) few = tt
for_walk_within k false (walk.partial handle names rest) few = elim few [ ]
for_walk_within k false (walk.failed error) few = tt

pub walk_begun : (way : Way) (path : Reading) (result : BulkTurn MakingView) (turn : walk.Turn) (s : Bool)
    → StartsWalk way path turn → IsTurn result (after_walk s turn) → StartsTo way path result
walk_begun way path result turn s begun is =
    let r = begun.0 in
    (r, subst (IsTurn result) (ap (after_walk s) begun.1 ∙ needs_no_room _ _ (for_walk_within _ r (walk.begins way path) (begun_within way path)) s r) is)

-- ---- fewer steps to come

abbrev pub MakesFewerThan : ℕ → MakeTurn → Type 0
MakesFewerThan k (make.more call) = steps_left call < k
MakesFewerThan k (make.made handle names) = Unit {0}
MakesFewerThan k (make.failed error) = Unit {0}

gives_up_few : (k : ℕ) (hs : List ℕ) (error : Errno) → length hs < k → MakesFewerThan k (make.gives_up hs error)
gives_up_few k [] error few = tt
gives_up_few k (h ∷ hs) error few = omega (arith, few)

if_few : (k : ℕ) (b : Bool) (t u : MakeTurn) → MakesFewerThan k t → MakesFewerThan k u → MakesFewerThan k (if b then t else u)
if_few k true t u few fewer = few
if_few k false t u few fewer = fewer

goes_down_few : (k : ℕ) (held : Handle) (names left : List (List ℕ)) → 2 + 3 * length left < k → MakesFewerThan k (goes_down held names left)
goes_down_few k held names [] few = omega (arith, few)
goes_down_few k held names (n ∷ left) few = omega (arith, few)

names_few : (rest : List AskedPart) → length (rest_names rest) ≤ length rest
names_few [] = le_refl 0
names_few (Cur ∷ rest) = le_trans (names_few rest) (le-suc (length rest))
names_few (Up ∷ rest) = le_trans (names_few rest) (le-suc (length rest))
names_few (Named follow n ∷ rest) = omega (arith, names_few rest)

begins_to_make_few : (k : ℕ) (room : Bool) (held : Handle) (names : List (List ℕ)) (rest : List AskedPart) (fault : Option Errno) → 2 + 3 * length rest < k
    → MakesFewerThan k (begins_to_make room held names rest fault)
begins_to_make_few k room held names rest (Some fault) few = omega (arith, few)
begins_to_make_few k true held names rest None few = goes_down_few k held names (rest_names rest) (omega (arith, few, names_few rest))
begins_to_make_few k false held names rest None few = omega (arith, few)

after_walk_few : (j k : ℕ) (room : Bool) (turn : walk.Turn) → 0 < j → FewerThan j turn → EndsWithin k turn → MakesFewerThan (j + (3 * k + 2)) (after_walk room turn)
after_walk_few j k room (walk.more w) some few within = omega (arith, few, within)
after_walk_few j k room (walk.found handle names) some few within = if_few (j + (3 * k + 2)) (is_dir_kind handle.kind) _ _ tt (omega (arith, some))
after_walk_few j k room (walk.partial handle names rest) some few within =
    begins_to_make_few (j + (3 * k + 2)) room handle names rest (rest_fault rest) (omega (arith, some, within))
after_walk_few j k room (walk.failed error) some few within = tt

refused_make_few : (held : Handle) (names : List (List ℕ)) (n : List ℕ) (left : List (List ℕ)) (error : Errno) → MakesFewerThan (5 + 3 * length left) (make.refused_make held names n left error)
refused_make_few held names n left Exists = omega arith
refused_make_few held names n left error = omega arith

pub take_few : (way : Way) (room : Bool) (call : Making) (answer : Answer) → MakesFewerThan (steps_left call) (take way room call answer)
take_few way room (walking w) answer =
    after_walk_few (walk.steps_left w) (own_left w) room _ (a_step_left w) (take_lowers way room w answer) (taken_within way room w answer)
take_few way room (make.making held names n left) Done = omega arith
take_few way room (make.making held names n left) answer = refused_make_few held names n left (refusal_of answer)
take_few way room (make.opening held names n left) (Opened h x kind) =
    if_few (4 + 3 * length left) (is_dir_kind kind) _ _ (omega arith) (omega arith)
take_few way room (make.opening held names n left) answer = omega arith
take_few way room (make.leaving old new names left) answer = goes_down_few (3 + 3 * length left) new names left (omega arith)
take_few way room (make.ending held names) (Names told) = if_few 2 (same_names told (reverse names)) _ _ tt (omega arith)
take_few way room (make.ending held names) NotBelow = omega arith
take_few way room (make.ending held names) answer = omega arith
take_few way room (make.closing h hs error) answer = gives_up_few (suc (length hs)) hs error (omega arith)

pub left_some : (call : Making) → 0 < steps_left call
left_some (walking w) = omega (arith, a_step_left w)
left_some (make.making held names n left) = omega arith
left_some (make.opening held names n left) = omega arith
left_some (make.leaving old new names left) = omega arith
left_some (make.ending held names) = omega arith
left_some (make.closing h hs error) = omega arith

few_shown : (k : ℕ) (result : BulkTurn MakingView) (turn : MakeTurn) → 0 < k → IsTurn result turn → MakesFewerThan k turn → steps_to_come result < k
few_shown k (More call) turn some is few = subst (MakesFewerThan k) is few
few_shown k (Made standing) turn some is few = some
few_shown k (Removed count) turn some is few = absurd is
few_shown k (Failed error) turn some is few = some

pub taken_fewer : (way : Way) (call : Making) (answer : Answer) (result : BulkTurn MakingView) → TakesTo way call answer result → steps_to_come result < steps_left call
taken_fewer way call answer result taken =
    few_shown (steps_left call) result (take way taken.0 call answer) (left_some call) taken.1 (take_few way taken.0 call answer)

-- ---- a call begins with few

for_walk_few : (k : ℕ) (room : Bool) (turn : walk.Turn) → FewerThan k turn → FewerThan k (for_walk room turn)
for_walk_few k true turn few = few
for_walk_few k false (walk.more w) few = tt
for_walk_few k false (walk.found handle names) few = tt
for_walk_few k false (walk.partial handle names rest) few = tt
for_walk_few k false (walk.failed error) few = tt

stays_fewer : (j k : ℕ) (turn : MakeTurn) → j ≤ k → MakesFewerThan j turn → MakesFewerThan k turn
stays_fewer j k (make.more call) le few = omega (arith, le, few)
stays_fewer j k (make.made handle names) le few = tt
stays_fewer j k (make.failed error) le few = tt

pub starts_few : (way : Way) (room : Bool) (path : Reading) → length path.parts ≤ PARTS_MAX → MakesFewerThan (suc MAKE_STEPS_MAX) (make.starts way room path)
starts_few way room path few =
    let turn = walk.starts way room path in
    let within : EndsWithin (length (asked (follows way.goal) path.parts)) turn =
    ends_within _ _ (for_walk_within _ room (walk.begins way path) (begun_within way path)) in
    stays_fewer (suc STEPS_MAX + (3 * length (asked (follows way.goal) path.parts) + 2)) (suc MAKE_STEPS_MAX) (after_walk room turn)
    (omega (arith, few, asked_length (follows way.goal) path.parts))
    (after_walk_few (suc STEPS_MAX) (length (asked (follows way.goal) path.parts)) room turn (omega arith)
    (for_walk_few (suc STEPS_MAX) room (walk.begins way path) (begins_few way path few)) within)

pub begun_few : (way : Way) (path : Reading) (result : BulkTurn MakingView) → length path.parts ≤ PARTS_MAX → StartsTo way path result → steps_to_come result ≤ MAKE_STEPS_MAX
begun_few way path result few begun =
    let shown : steps_to_come result < suc MAKE_STEPS_MAX =
    few_shown (suc MAKE_STEPS_MAX) result (make.starts way begun.0 path) (omega arith) begun.1 (starts_few way begun.0 path few) in
    omega (arith, shown)

-- ---- lines

fewer_than : (way : Way) (room : Bool) (call : Making) (answer : Answer) (k : ℕ) → steps_left call < suc (suc k) → MakesFewerThan (suc k) (take way room call answer)
fewer_than way room call answer k few = stays_fewer (steps_left call) (suc k) (take way room call answer) (omega (arith, few)) (take_few way room call answer)

lines_few : (way : Way) (k : ℕ) (lines : List Line) (turn end : MakeTurn) → MakesFewerThan (suc k) turn → LeadsTo way turn lines end → length lines ≤ k
lines_few way k [] turn end few leads = omega arith
lines_few way zero (line ∷ lines) (make.more call) end few leads = absurd (omega (arith, few, left_some call))
lines_few way (suc k) (line ∷ lines) (make.more call) end few leads =
    omega (arith, lines_few way k lines (taken (calls way) call line) end (fewer_than way (has_room line) call (answer_of line) k few) leads.1)
lines_few way k (line ∷ lines) (make.made handle names) end few leads = absurd leads
lines_few way k (line ∷ lines) (make.failed error) end few leads = absurd leads

pub steps_after_the_walk : StepsAfterTheWalk
steps_after_the_walk way room handle names lines end = (
  λ leads. lines_few way 1 lines _ end (if_few 2 (is_dir_kind handle.kind) _ _ tt (omega arith)) leads,
  λ rest leads. lines_few way (3 * length rest + 2) lines _ end
      (begins_to_make_few (suc (3 * length rest + 2)) room handle names rest (rest_fault rest) (omega arith)) leads,
)
