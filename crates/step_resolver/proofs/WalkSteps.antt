-- Each answer leaves fewer steps to come, and a walk begins with few.
use Rattle.std.specs.Prelude.{◌≡◌, ℕ, zero, suc, ◌+◌, ◌<◌, ◌≤◌, List, [], ◌∷◌, ◌++◌, Bool, true, false, length, reverse, Option, Some, None, Ok, Err, if◌then◌else◌, refl}
use Rattle.std.proofs.Common.{sym, ap, subst, arith, length-append}
use Rattle.std.proofs.lemmas.List.{length-map}
use Rattle.path_text.specs.declared.errno.Errno.{Errno}
use Rattle.path_text.specs.declared.errno.Errno.TheVariants.{NotFound, Raced, NoMemory, CrossRoot, NotDir, TooLong, Loop}
use Rattle.path_text.specs.declared.part.Part.{Part}
use Rattle.path_text.specs.declared.path.TheConstants.{PARTS_MAX}
use Rattle.path_text.specs.Reading.{Reading}
use Rattle.path_text.specs.Text.{text_fault, parts_of, begins_with_slash}
use Rattle.path_text.proofs.TextLemmas.{reading_few}
use Rattle.path_text.specs.Names.{same_names}
use Rattle.tree_model.specs.declared.answer.Answer.{Answer}
use Rattle.tree_model.specs.declared.answer.Answer.TheVariants.{Opened, Text, Names, NotBelow}
use Rattle.walk_plan.specs.declared.goal.Goal.{Goal}
use Rattle.walk_plan.specs.Plan.{PlanState, leads_out}
use Rattle.step_resolver.specs.Asked.{AskedPart, Cur, Up, Named, ask, asked, followed, follows}
use Rattle.step_resolver.specs.Meaning.{LINKS_MAX, is_too_long}
use Rattle.step_resolver.specs.Order.{Way, Handle, Position, root_itself, holds, Todo, todo, After, gives, onward, judges, Walking, opening, reading, rising, judging, duping, ending, closing, Turn, more, found, partial, failed, names_of, handles_of, is_dir_position, is_followed, gives_up, at_end, in_directory, on_part, on_own, on_parts, goes_on, begins, for_walk, comes, closes, refusal_of, with_room, follows_link, enters, refused_open, from_link, read_text, end_of, judged, refused_rise, take, steps_for, steps_after, steps_left}
use Rattle.step_resolver.specs.declared.walk.Turn.{Turn as Outcome}
use Rattle.step_resolver.specs.declared.walk.Turn.TheVariants.{More, Found, Partial, Failed}
use Rattle.step_resolver.specs.TurnView.{turn_view, StartsTo, TakesTo, steps_to_come, STEPS_MAX}

-- fewer than this many steps are left, where the walk goes on
abbrev pub FewerThan : ℕ → Turn → Type 0
FewerThan k (more w) = steps_left w < k
FewerThan k (found handle names) = Unit {0}
FewerThan k (partial handle names rest) = Unit {0}
FewerThan k (failed error) = Unit {0}

weaker : (j k : ℕ) (turn : Turn) → j ≤ k → FewerThan j turn → FewerThan k turn
weaker j k (more w) le few = omega arith
weaker j k (found handle names) le few = tt
weaker j k (partial handle names rest) le few = tt
weaker j k (failed error) le few = tt

either : (k : ℕ) (b : Bool) (t u : Turn) → FewerThan k t → FewerThan k u → FewerThan k (if b then t else u)
either k true t u few fewer = few
either k false t u few fewer = fewer

given_up : (k : ℕ) (hs : List ℕ) (error : Errno) → length hs < k → FewerThan k (gives_up hs error)
given_up k [] error few = tt
given_up k (h ∷ hs) error few = omega arith

pub one_handle : (position : Position) → length (handles_of position) ≤ 1
one_handle root_itself = omega arith
one_handle (holds handle names) = omega arith

module _ (way : Way) where
  at_end_few : (k : ℕ) (position : Position) (rest : List AskedPart) → 4 ≤ k → FewerThan k (at_end position rest)
  at_end_few k root_itself rest le = omega arith
  at_end_few k (holds handle names) rest le = omega arith

  leaves : (k : ℕ) (position : Position) (error : Errno) → 2 ≤ k → FewerThan k (gives_up (handles_of position) error)
  leaves k position error le = given_up k (handles_of position) error (omega (arith, one_handle position))

  leaves_both : (k h : ℕ) (position : Position) (error : Errno) → 3 ≤ k → FewerThan k (gives_up (h ∷ handles_of position) error)
  leaves_both k h position error le = given_up k (h ∷ handles_of position) error (omega (arith, one_handle position))

  in_directory_few : (position : Position) (p : AskedPart) (own : Bool) (rest : Todo) (passed : Turn) → FewerThan (4 + steps_for rest) passed
      → FewerThan (8 + steps_for rest) (in_directory way position p own rest passed)
  in_directory_few position Cur own rest passed few = weaker (4 + steps_for rest) (8 + steps_for rest) passed (omega arith) few
  in_directory_few root_itself Up own rest passed few =
      either (8 + steps_for rest) way.flags.beneath _ passed tt (weaker (4 + steps_for rest) (8 + steps_for rest) passed (omega arith) few)
  in_directory_few (holds handle []) Up own rest passed few =
      either (8 + steps_for rest) way.flags.beneath _ passed (omega arith) (weaker (4 + steps_for rest) (8 + steps_for rest) passed (omega arith) few)
  in_directory_few (holds handle (n ∷ names)) Up own rest passed few = omega arith
  in_directory_few position (Named follow n) own rest passed few =
      either (8 + steps_for rest) (is_too_long n) _ _ (leaves (8 + steps_for rest) position TooLong (omega arith)) (omega arith)

  on_part_few : (position : Position) (p : AskedPart) (own : Bool) (rest : Todo) (passed : Turn) → FewerThan (4 + steps_for rest) passed
      → FewerThan (8 + steps_for rest) (on_part way position p own rest passed)
  on_part_few position p own rest passed few =
      either (8 + steps_for rest) (is_dir_position position) _ _ (in_directory_few position p own rest passed few) (leaves (8 + steps_for rest) position NotDir (omega arith))

  on_own_few : (position : Position) (own : List AskedPart) (b : ℕ) → FewerThan (4 + steps_for (todo [] own b)) (on_own way position own b)
  on_own_few position [] b = at_end_few (4 + steps_for (todo [] [] b)) position [] (omega arith)
  on_own_few position (p ∷ own) b =
      weaker (8 + steps_for (todo [] own b)) (4 + steps_for (todo [] (p ∷ own) b)) _ (omega arith)
      (on_part_few position p true (todo [] own b) (on_own way position own b) (on_own_few position own b))

  on_parts_few : (position : Position) (inner own : List AskedPart) (b : ℕ) → FewerThan (4 + steps_for (todo inner own b)) (on_parts way position inner own b)
  on_parts_few position [] own b = on_own_few position own b
  on_parts_few position (p ∷ inner) own b =
      weaker (8 + steps_for (todo inner own b)) (4 + steps_for (todo (p ∷ inner) own b)) _ (omega arith)
      (on_part_few position p false (todo inner own b) (on_parts way position inner own b) (on_parts_few position inner own b))

  goes_on_few : (position : Position) (rest : Todo) → FewerThan (4 + steps_for rest) (goes_on way position rest)
  goes_on_few position (todo inner own b) = on_parts_few position inner own b

  comes_few : (after : After) → FewerThan (1 + steps_after after) (comes way after)
  comes_few (gives error) = tt
  comes_few (onward position rest) = weaker (4 + steps_for rest) (1 + (3 + steps_for rest)) _ (omega arith) (goes_on_few position rest)
  comes_few (judges handle names rest) = omega arith

  closes_few : (hs : List ℕ) (after : After) → FewerThan (suc (length hs) + steps_after after) (closes way hs after)
  closes_few [] after = weaker (1 + steps_after after) (suc zero + steps_after after) _ (omega arith) (comes_few after)
  closes_few (h ∷ hs) after = omega arith

  with_room_few : (k : ℕ) (room : Bool) (hs : List ℕ) (turn : Turn) → length hs < k → FewerThan k turn → FewerThan k (with_room room hs turn)
  with_room_few k true hs turn le few = few
  with_room_few k false hs turn le few = given_up k hs NoMemory le

  -- ---- each answer

  follows_link_few : (position : Position) (link : Handle) (rest : Todo) → FewerThan (7 + steps_for rest) (follows_link way position link rest)
  follows_link_few position link (todo inner own zero) = leaves_both _ link.number position Loop (omega arith)
  follows_link_few position link (todo inner own (suc b)) =
      either _ way.flags.no_links _ _ (leaves_both _ link.number position Loop (omega arith)) (omega arith)

  enters_few : (room : Bool) (position : Position) (n : List ℕ) (new : Handle) (rest : Todo) → FewerThan (7 + steps_for rest) (enters way room position n new rest)
  enters_few room position n new rest =
      with_room_few (7 + steps_for rest) room (new.number ∷ handles_of position) _ (omega (arith, one_handle position))
      (weaker (suc (length (handles_of position)) + (3 + steps_for rest)) (7 + steps_for rest) _ (omega (arith, one_handle position))
      (closes_few (handles_of position) (onward (holds new (n ∷ names_of position)) rest)))

  refused_open_few : (position : Position) (own follow : Bool) (n : List ℕ) (rest : Todo) (error : Errno) → FewerThan (7 + steps_for rest) (refused_open way position own follow n rest error)
  refused_open_few position own follow n (todo inner rest b) NotFound =
      either _ _ _ _ (at_end_few _ position (Named follow n ∷ rest) (omega arith)) (leaves _ position NotFound (omega arith))
  refused_open_few position own follow n (todo inner rest b) error = leaves _ position error (omega arith)

  from_link_few : (room : Bool) (position : Position) (link : Handle) (absolute : Bool) (parts inner own : List AskedPart) (b : ℕ) → length parts ≤ PARTS_MAX
      → FewerThan (6 + steps_for (todo inner own (suc b))) (from_link way room position link absolute parts (todo inner own b))
  from_link_few room position link true parts inner own b few =
      let k = 6 + steps_for (todo inner own (suc b)) in
      with_room_few k room (link.number ∷ handles_of position) (closes way (link.number ∷ handles_of position) (onward root_itself (todo (parts ++ inner) own b))) (omega (arith, one_handle position))
      (weaker (suc (length (link.number ∷ handles_of position)) + (3 + steps_for (todo (parts ++ inner) own b))) k (closes way (link.number ∷ handles_of position) (onward root_itself (todo (parts ++ inner) own b))) (omega (arith, one_handle position, length-append parts inner))
      (closes_few (link.number ∷ handles_of position) (onward root_itself (todo (parts ++ inner) own b))))
  from_link_few room position link false parts inner own b few =
      let k = 6 + steps_for (todo inner own (suc b)) in
      with_room_few k room (link.number ∷ handles_of position) (closes way (link.number ∷ []) (onward position (todo (parts ++ inner) own b))) (omega (arith, one_handle position))
      (weaker (suc (length (link.number ∷ [])) + (3 + steps_for (todo (parts ++ inner) own b))) k (closes way (link.number ∷ []) (onward position (todo (parts ++ inner) own b))) (omega (arith, length-append parts inner))
      (closes_few (link.number ∷ []) (onward position (todo (parts ++ inner) own b))))

  read_text_few : (room : Bool) (position : Position) (link : Handle) (inner own : List AskedPart) (b : ℕ) (text : List ℕ) (fault : Option Errno) → text_fault text ≡ fault
      → FewerThan (6 + steps_for (todo inner own (suc b))) (read_text way room position link (todo inner own b) text fault)
  read_text_few room position link inner own b text (Some fault) e = leaves_both _ link.number position fault (omega arith)
  read_text_few room position link inner own b text None e =
      let few : length (followed (parts_of text)) ≤ PARTS_MAX = omega (arith, length-map (parts_of text) (ask true), reading_few text e) in
      either _ (leads_out (begins_with_slash text) way.flags) _ _ (leaves_both _ link.number position CrossRoot (omega arith))
      (from_link_few room position link (begins_with_slash text) (followed (parts_of text)) inner own b few)

  reading_few_left : (room : Bool) (position : Position) (link : Handle) (rest : Todo) (answer : Answer)
      → FewerThan (steps_left (reading position link rest)) (take way room (reading position link rest) answer)
  reading_few_left room position link (todo inner own b) (Text text) = read_text_few room position link inner own b text (text_fault text) refl
  reading_few_left room position link (todo inner own b) answer = leaves_both (6 + steps_for (todo inner own (suc b))) link.number position (refusal_of answer) (omega arith)

  refused_rise_few : (k : ℕ) (handle : Handle) (error : Errno) → 2 ≤ k → FewerThan k (refused_rise handle error)
  refused_rise_few k handle NotFound le = omega arith
  refused_rise_few k handle error le = omega arith

  end_of_few : (k : ℕ) (handle : Handle) (names : List (List ℕ)) (rest : List AskedPart) → FewerThan k (end_of handle names rest)
  end_of_few k handle names [] = tt
  end_of_few k handle names (p ∷ rest) = tt

  judged_few : (k : ℕ) (handle : Handle) (names told : List (List ℕ)) (stands : Turn) → 2 ≤ k → FewerThan k stands → FewerThan k (judged handle names told stands)
  judged_few k handle names told stands le few = either k (same_names told (reverse names)) stands (gives_up (handle.number ∷ []) Raced) few (omega arith)

  pub take_lowers : (room : Bool) (walking : Walking) (answer : Answer) → FewerThan (steps_left walking) (take way room walking answer)
  take_lowers room (opening position own follow n rest) (Opened h x kind) =
      either _ (is_followed follow kind) _ _ (follows_link_few position _ rest) (enters_few room position n _ rest)
  take_lowers room (opening position own follow n rest) answer = refused_open_few position own follow n rest (refusal_of answer)
  take_lowers room (reading position link rest) answer = reading_few_left room position link rest answer
  take_lowers room (rising old names rest) (Opened h x kind) = omega arith
  take_lowers room (rising old names rest) answer = refused_rise_few _ old (refusal_of answer) (omega arith)
  take_lowers room (judging new names rest) (Names told) = judged_few _ new names told _ (omega arith) (goes_on_few (holds new names) rest)
  take_lowers room (judging new names rest) NotBelow = omega arith
  take_lowers room (judging new names rest) answer = omega arith
  take_lowers room (duping rest) (Opened h x kind) = omega arith
  take_lowers room (duping rest) answer = tt
  take_lowers room (ending handle names rest) (Names told) = judged_few _ handle names told _ (omega arith) (end_of_few _ handle names rest)
  take_lowers room (ending handle names rest) NotBelow = omega arith
  take_lowers room (ending handle names rest) answer = omega arith
  take_lowers room (closing h hs after) answer = closes_few hs after

-- ---- as a walk is seen

pub a_step_left : (walking : Walking) → 0 < steps_left walking
a_step_left (opening position own follow n rest) = omega arith
a_step_left (reading position link (todo inner own b)) = omega arith
a_step_left (rising handle names rest) = omega arith
a_step_left (judging handle names rest) = omega arith
a_step_left (duping rest) = omega arith
a_step_left (ending handle names rest) = omega arith
a_step_left (closing h hs after) = omega arith

lowers : (goal : Goal) (walking : Walking) (outcome : Outcome) → FewerThan (steps_left walking) (turn_view goal outcome) → steps_to_come outcome < steps_left walking
lowers goal walking (More w) few = few
lowers goal walking (Found standing) few = a_step_left walking
lowers goal walking (Partial standing rest) few = a_step_left walking
lowers goal walking (Failed error) few = a_step_left walking

pub taken_lowers : (way : Way) (walking : Walking) (answer : Answer) (outcome : Outcome) → TakesTo way walking answer (turn_view way.goal outcome) → steps_to_come outcome < steps_left walking
taken_lowers way walking answer outcome taken =
    lowers way.goal walking outcome (subst (FewerThan (steps_left walking)) (sym taken.1) (take_lowers way taken.0 walking answer))

-- where the walk goes on
pub more_lowers : (way : Way) (walking : Walking) (answer : Answer) (next : Walking) → TakesTo way walking answer (more next) → steps_left next < steps_left walking
more_lowers way walking answer next taken = subst (FewerThan (steps_left walking)) (sym taken.1) (take_lowers way taken.0 walking answer)

pub asked_length : (follow : Bool) (ps : List Part) → length (asked follow ps) ≡ length ps
asked_length follow [] = refl
asked_length follow (p ∷ []) = refl
asked_length follow (p ∷ q ∷ ps) = ap (λ (k : ℕ). suc k) (asked_length follow (q ∷ ps))

-- where the plan was made
pub plan_made : (b : Bool) (p q : PlanState) (error : Errno) → Ok p ≡ (if b then Err error else Ok q) → (b ≡ false) × (p ≡ q)
plan_made true p q error e = cc (e)
plan_made false p q error e = (refl, cc (e))

-- a walk begins with few steps to come
pub begins_few : (way : Way) (path : Reading) → length path.parts ≤ PARTS_MAX → FewerThan (suc STEPS_MAX) (begins way path)
begins_few way path few =
    either (suc STEPS_MAX) (leads_out path.absolute way.flags) (failed CrossRoot) (goes_on way root_itself (todo [] (asked (follows way.goal) path.parts) LINKS_MAX)) tt
    (weaker (4 + steps_for (todo [] (asked (follows way.goal) path.parts) LINKS_MAX)) (suc STEPS_MAX) (goes_on way root_itself (todo [] (asked (follows way.goal) path.parts) LINKS_MAX)) (omega (arith, asked_length (follows way.goal) path.parts))
    (goes_on_few way root_itself (todo [] (asked (follows way.goal) path.parts) LINKS_MAX)))

for_walk_few : (k : ℕ) (room : Bool) (turn : Turn) → FewerThan k turn → FewerThan k (for_walk room turn)
for_walk_few k true turn few = few
for_walk_few k false (more w) few = tt
for_walk_few k false (found handle names) few = tt
for_walk_few k false (partial handle names rest) few = tt
for_walk_few k false (failed error) few = tt

-- so does its first turn, with room for the walk or without
pub starts_few : (way : Way) (path : Reading) (outcome : Outcome) → length path.parts ≤ PARTS_MAX → StartsTo way path (turn_view way.goal outcome) → steps_to_come outcome ≤ STEPS_MAX
starts_few way path outcome few starts =
    shown outcome (subst (FewerThan (suc STEPS_MAX)) (sym starts.1) (for_walk_few (suc STEPS_MAX) starts.0 (begins way path) (begins_few way path few))) where
      shown : (outcome : Outcome) → FewerThan (suc STEPS_MAX) (turn_view way.goal outcome) → steps_to_come outcome ≤ STEPS_MAX
      shown (More w) few = omega arith
      shown (Found standing) few = omega arith
      shown (Partial standing rest) few = omega arith
      shown (Failed error) few = omega arith
