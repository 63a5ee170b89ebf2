-- Each line takes from what may still be spent, and each part that is passed gives four.
use Rattle.std.specs.Prelude.{◌≡◌, ℕ, zero, suc, ◌+◌, ◌-◌, ◌*◌, ◌<◌, ◌≤◌, ◌&&◌, List, [], ◌∷◌, ◌++◌, Bool, true, false, length, reverse, Option, Some, None, if◌then◌else◌, refl}
use Rattle.std.proofs.Common.{arith, length-append}
use Rattle.std.proofs.lemmas.List.{length-map}
use Rattle.path_text.specs.declared.errno.Errno.{Errno}
use Rattle.path_text.specs.declared.errno.Errno.TheVariants.{NotFound, Raced, NoMemory, CrossRoot, NotDir, TooLong, Loop}
use Rattle.path_text.specs.Text.{text_fault, parts_of, begins_with_slash}
use Rattle.tree_model.specs.declared.answer.Answer.{Answer}
use Rattle.tree_model.specs.declared.answer.Answer.TheVariants.{Opened, Text, Names, NotBelow}
use Rattle.step_machine.specs.Machine.{taken}
use Rattle.step_resolver.specs.Asked.{AskedPart, Cur, Up, Named, ask, asked, followed, follows, is_deepest}
use Rattle.step_resolver.specs.Meaning.{LINKS_MAX, is_too_long}
use Rattle.path_text.specs.Names.{same_names}
use Rattle.walk_plan.specs.Plan.{leads_out}
use Rattle.step_resolver.specs.Order.{Way, Handle, Position, root_itself, holds, Todo, todo, After, gives, onward, judges, Walking, opening, reading, rising, judging, duping, ending, closing, Turn, more, found, partial, failed, names_of, handles_of, is_dir_position, is_followed, gives_up, at_end, in_directory, on_part, on_own, on_parts, goes_on, begins, closes, refusal_of, with_room, follows_link, enters, refused_open, from_link, read_text, end_of, judged, refused_rise, take, Line, LeadsTo, walks, has_room, answer_of}
use Rattle.step_resolver.specs.StepCount.{parts_in, to_come, to_come_at, to_come_after, brought, passed, passed_from, parts_passed, StepsByPartsPassed}
use Rattle.step_resolver.proofs.WalkSteps.{one_handle}

-- how many lines may come before another part is passed
abbrev spends_after : After → ℕ
spends_after (gives error) = 0
spends_after (onward position rest) = 4
spends_after (judges handle names rest) = 2

abbrev spends : Walking → ℕ
spends (opening position own follow n rest) = 4
spends (reading position link rest) = 3
spends (rising handle names rest) = 4
spends (judging handle names rest) = 2
spends (duping rest) = 3
spends (ending handle names rest) = 2
spends (closing h hs after) = suc (length hs) + spends_after after

abbrev spends_at : Turn → ℕ
spends_at (more walk) = spends walk
spends_at (found handle names) = 0
spends_at (partial handle names rest) = 0
spends_at (failed error) = 0

-- a turn that spends fewer than this, but for what its passed parts give
abbrev Pays : ℕ → ℕ → Turn → Type 0
Pays k came turn = spends_at turn < k + 4 * passed came (to_come_at turn)

-- where a walk goes on with so many parts to come
abbrev WithinBy : ℕ → ℕ → Option ℕ → Type 0
WithinBy n c None = c ≤ 1
WithinBy n c (Some left) = (c ≤ 4) × (left ≤ n)

abbrev Within : ℕ → Turn → Type 0
Within n turn = WithinBy n (spends_at turn) (to_come_at turn)

within_more : (m n c : ℕ) (left : Option ℕ) → m ≤ n → WithinBy m c left → WithinBy n c left
within_more m n c None le w = w
within_more m n c (Some left) le w = (w.0, omega (arith, le, w.1))

pays_within : (k came n c : ℕ) (left : Option ℕ) → 1 < k → 4 < k + 4 * (came - n) → WithinBy n c left → c < k + 4 * passed came left
pays_within k came n c None one four w = omega (arith, one, w)
pays_within k came n c (Some left) one four w = omega (arith, four, w.0, w.1)

either : (n : ℕ) (b : Bool) (t u : Turn) → Within n t → Within n u → Within n (if b then t else u)
either n true t u few fewer = few
either n false t u few fewer = fewer

either_pays : (k came : ℕ) (b : Bool) (t u : Turn) → Pays k came t → Pays k came u → Pays k came (if b then t else u)
either_pays k came true t u few fewer = few
either_pays k came false t u few fewer = fewer

given_up : (k came : ℕ) (hs : List ℕ) (error : Errno) → length hs < k → Pays k came (gives_up hs error)
given_up k came [] error few = omega (arith, few)
given_up k came (h ∷ hs) error few = omega (arith, few)

left_within : (n : ℕ) (position : Position) (error : Errno) → Within n (gives_up (handles_of position) error)
left_within n root_itself error = omega arith
left_within n (holds handle names) error = omega arith

at_end_within : (position : Position) (rest : List AskedPart) → Within (length rest) (at_end position rest)
at_end_within root_itself rest = (omega arith, omega arith)
at_end_within (holds handle names) rest = (omega arith, omega arith)

module _ (way : Way) where
  in_directory_within : (position : Position) (p : AskedPart) (own : Bool) (rest : Todo) (further : Turn) → Within (parts_in rest) further
      → Within (suc (parts_in rest)) (in_directory way position p own rest further)
  in_directory_within position Cur own rest further w = within_more (parts_in rest) (suc (parts_in rest)) _ _ (omega arith) w
  in_directory_within root_itself Up own rest further w =
      either (suc (parts_in rest)) way.flags.beneath _ further (omega arith) (within_more (parts_in rest) (suc (parts_in rest)) _ _ (omega arith) w)
  in_directory_within (holds handle []) Up own rest further w =
      either (suc (parts_in rest)) way.flags.beneath _ further (omega arith) (within_more (parts_in rest) (suc (parts_in rest)) _ _ (omega arith) w)
  in_directory_within (holds handle (n ∷ names)) Up own rest further w = (omega arith, omega arith)
  in_directory_within position (Named follow n) own rest further w =
      either (suc (parts_in rest)) (is_too_long n) _ _ (left_within (suc (parts_in rest)) position TooLong) (omega arith, omega arith)

  on_part_within : (position : Position) (p : AskedPart) (own : Bool) (rest : Todo) (further : Turn) → Within (parts_in rest) further
      → Within (suc (parts_in rest)) (on_part way position p own rest further)
  on_part_within position p own rest further w =
      either (suc (parts_in rest)) (is_dir_position position) _ _ (in_directory_within position p own rest further w)
      (left_within (suc (parts_in rest)) position NotDir)

  on_own_within : (position : Position) (own : List AskedPart) (b : ℕ) → Within (length own) (on_own way position own b)
  on_own_within position [] b = at_end_within position []
  on_own_within position (p ∷ own) b =
      within_more (suc (parts_in (todo [] own b))) (length (p ∷ own)) _ _ (omega arith)
      (on_part_within position p true (todo [] own b) (on_own way position own b)
      (within_more (length own) (parts_in (todo [] own b)) _ _ (omega arith) (on_own_within position own b)))

  on_parts_within : (position : Position) (inner own : List AskedPart) (b : ℕ) → Within (length inner + length own) (on_parts way position inner own b)
  on_parts_within position [] own b = within_more (length own) (zero + length own) _ _ (omega arith) (on_own_within position own b)
  on_parts_within position (p ∷ inner) own b =
      within_more (suc (parts_in (todo inner own b))) (length (p ∷ inner) + length own) _ _ (omega arith)
      (on_part_within position p false (todo inner own b) (on_parts way position inner own b) (on_parts_within position inner own b))

  goes_on_within : (position : Position) (rest : Todo) → Within (parts_in rest) (goes_on way position rest)
  goes_on_within position (todo inner own b) = on_parts_within position inner own b

  goes_on_pays : (k came : ℕ) (position : Position) (rest : Todo) → 1 < k → 4 < k + 4 * (came - parts_in rest) → Pays k came (goes_on way position rest)
  goes_on_pays k came position rest one four = pays_within k came (parts_in rest) _ _ one four (goes_on_within position rest)

  -- what is held is closed, and the walk goes on
  closes_pays : (k came : ℕ) (hs : List ℕ) (position : Position) (rest : Todo) → 1 < k → length hs + 4 < k + 4 * (came - parts_in rest)
      → Pays k came (closes way hs (onward position rest))
  closes_pays k came [] position rest one few = goes_on_pays k came position rest one (omega (arith, few))
  closes_pays k came (h ∷ hs) position rest one few = omega (arith, few)

  leaves : (k came : ℕ) (position : Position) (error : Errno) → 2 ≤ k → Pays k came (gives_up (handles_of position) error)
  leaves k came position error le = given_up k came (handles_of position) error (omega (arith, le, one_handle position))

  leaves_both : (k came h : ℕ) (position : Position) (error : Errno) → 3 ≤ k → Pays k came (gives_up (h ∷ handles_of position) error)
  leaves_both k came h position error le = given_up k came (h ∷ handles_of position) error (omega (arith, le, one_handle position))

  with_room_pays : (k came : ℕ) (room : Bool) (hs : List ℕ) (turn : Turn) → length hs < k → Pays k came turn → Pays k came (with_room room hs turn)
  with_room_pays k came true hs turn le few = few
  with_room_pays k came false hs turn le few = given_up k came hs NoMemory le

  -- ---- each answer

  follows_link_pays : (came : ℕ) (position : Position) (link : Handle) (rest : Todo) → Pays 4 came (follows_link way position link rest)
  follows_link_pays came position link (todo inner own zero) = leaves_both 4 came link.number position Loop (omega arith)
  follows_link_pays came position link (todo inner own (suc b)) =
      either_pays 4 came way.flags.no_links _ _ (leaves_both 4 came link.number position Loop (omega arith)) (omega arith)

  enters_pays : (room : Bool) (position : Position) (n : List ℕ) (new : Handle) (rest : Todo)
      → Pays 4 (suc (parts_in rest) + 0) (enters way room position n new rest)
  enters_pays room position n new rest =
      with_room_pays 4 (suc (parts_in rest) + 0) room (new.number ∷ handles_of position) _ (omega (arith, one_handle position))
      (closes_pays 4 (suc (parts_in rest) + 0) (handles_of position) (holds new (n ∷ names_of position)) rest (omega arith) (omega (arith, one_handle position)))

  at_end_pays : (came : ℕ) (position : Position) (rest : List AskedPart) → Pays 4 came (at_end position rest)
  at_end_pays came root_itself rest = omega arith
  at_end_pays came (holds handle names) rest = omega arith

  refused_open_pays : (came : ℕ) (position : Position) (own follow : Bool) (n : List ℕ) (rest : Todo) (error : Errno)
      → Pays 4 came (refused_open way position own follow n rest error)
  refused_open_pays came position own follow n (todo inner rest b) NotFound =
      either_pays 4 came (is_deepest way.goal && own) _ _ (at_end_pays came position (Named follow n ∷ rest)) (leaves 4 came position NotFound (omega arith))
  refused_open_pays came position own follow n (todo inner rest b) error = leaves 4 came position error (omega arith)

  from_link_pays : (came : ℕ) (room : Bool) (position : Position) (link : Handle) (absolute : Bool) (parts inner own : List AskedPart) (b : ℕ)
      → came ≡ suc (parts_in (todo inner own b)) + length parts → Pays 3 came (from_link way room position link absolute parts (todo inner own b))
  from_link_pays came room position link true parts inner own b e =
      with_room_pays 3 came room (link.number ∷ handles_of position) _ (omega (arith, one_handle position))
      (closes_pays 3 came (link.number ∷ handles_of position) root_itself (todo (parts ++ inner) own b) (omega arith)
      (omega (arith, e, one_handle position, length-append parts inner)))
  from_link_pays came room position link false parts inner own b e =
      with_room_pays 3 came room (link.number ∷ handles_of position) _ (omega (arith, one_handle position))
      (closes_pays 3 came (link.number ∷ []) position (todo (parts ++ inner) own b) (omega arith) (omega (arith, e, length-append parts inner)))

  read_text_pays : (came : ℕ) (room : Bool) (position : Position) (link : Handle) (inner own : List AskedPart) (b : ℕ) (text : List ℕ) (fault : Option Errno)
      → came ≡ suc (parts_in (todo inner own b)) + length (parts_of text) → Pays 3 came (read_text way room position link (todo inner own b) text fault)
  read_text_pays came room position link inner own b text (Some fault) e = leaves_both 3 came link.number position fault (omega arith)
  read_text_pays came room position link inner own b text None e =
      either_pays 3 came (leads_out (begins_with_slash text) way.flags) _ _ (leaves_both 3 came link.number position CrossRoot (omega arith))
      (from_link_pays came room position link (begins_with_slash text) (followed (parts_of text)) inner own b
      (omega (arith, e, length-map (parts_of text) (ask true))))

  reading_pays : (room : Bool) (position : Position) (link : Handle) (rest : Todo) (answer : Answer)
      → Pays 3 (suc (parts_in rest) + brought (reading position link rest) answer) (take way room (reading position link rest) answer)
  reading_pays room position link (todo inner own b) (Text text) =
      read_text_pays (suc (parts_in (todo inner own b)) + length (parts_of text)) room position link inner own b text (text_fault text) refl
  reading_pays room position link (todo inner own b) answer = leaves_both 3 (suc (parts_in (todo inner own b)) + 0) link.number position (refusal_of answer) (omega arith)

  refused_rise_pays : (came : ℕ) (handle : Handle) (error : Errno) → Pays 4 came (refused_rise handle error)
  refused_rise_pays came handle NotFound = omega arith
  refused_rise_pays came handle error = omega arith

  end_of_pays : (k came : ℕ) (handle : Handle) (names : List (List ℕ)) (rest : List AskedPart) → 0 < k → Pays k came (end_of handle names rest)
  end_of_pays k came handle names [] le = omega (arith, le)
  end_of_pays k came handle names (p ∷ rest) le = omega (arith, le)

  judged_pays : (came : ℕ) (handle : Handle) (names told : List (List ℕ)) (stands : Turn) → Pays 2 came stands → Pays 2 came (judged handle names told stands)
  judged_pays came handle names told stands few = either_pays 2 came (same_names told (reverse names)) stands (gives_up (handle.number ∷ []) Raced) few (omega arith)

  closing_pays : (hs : List ℕ) (after : After) → spends_at (closes way hs after) < (suc (length hs) + spends_after after) + 4 * passed_from (to_come_after after) 0 (to_come_at (closes way hs after))
  closing_pays [] (gives error) = omega arith
  closing_pays (h ∷ hs) (gives error) = omega arith
  closing_pays [] (judges handle names rest) = omega arith
  closing_pays (h ∷ hs) (judges handle names rest) = omega arith
  closing_pays [] (onward position rest) = goes_on_pays _ (parts_in rest + 0) position rest (omega arith) (omega arith)
  closing_pays (h ∷ hs) (onward position rest) = omega arith

  -- each line is paid
  take_pays : (room : Bool) (walk : Walking) (answer : Answer)
      → spends_at (take way room walk answer) < spends walk + 4 * passed_from (to_come walk) (brought walk answer) (to_come_at (take way room walk answer))
  take_pays room (opening position own follow n rest) (Opened h x kind) =
      either_pays 4 (suc (parts_in rest) + 0) (is_followed follow kind) _ _ (follows_link_pays (suc (parts_in rest) + 0) position _ rest) (enters_pays room position n _ rest)
  take_pays room (opening position own follow n rest) answer = refused_open_pays (suc (parts_in rest) + 0) position own follow n rest (refusal_of answer)
  take_pays room (reading position link rest) answer = reading_pays room position link rest answer
  take_pays room (rising old names rest) (Opened h x kind) = omega arith
  take_pays room (rising old names rest) answer = refused_rise_pays (suc (parts_in rest) + 0) old (refusal_of answer)
  take_pays room (judging new names rest) (Names told) =
      judged_pays (suc (parts_in rest) + 0) new names told _ (goes_on_pays 2 (suc (parts_in rest) + 0) (holds new names) rest (omega arith) (omega arith))
  take_pays room (judging new names rest) NotBelow = omega arith
  take_pays room (judging new names rest) answer = omega arith
  take_pays room (duping rest) (Opened h x kind) = omega arith
  take_pays room (duping rest) answer = omega arith
  take_pays room (ending handle names rest) (Names told) = judged_pays (length rest + 0) handle names told _ (end_of_pays 2 (length rest + 0) handle names rest (omega arith))
  take_pays room (ending handle names rest) NotBelow = omega arith
  take_pays room (ending handle names rest) answer = omega arith
  take_pays room (closing h hs after) answer = closing_pays hs after

  lines_paid : (lines : List Line) (turn end : Turn) → LeadsTo way turn lines end → length lines ≤ spends_at turn + 4 * parts_passed way turn lines
  lines_paid [] turn end leads = omega arith
  lines_paid (line ∷ lines) (more walk) end leads =
      omega (arith, take_pays (has_room line) walk (answer_of line), lines_paid lines (taken (walks way) walk line) end leads.1)
  lines_paid (line ∷ lines) (found handle names) end leads = absurd leads
  lines_paid (line ∷ lines) (partial handle names rest) end leads = absurd leads
  lines_paid (line ∷ lines) (failed error) end leads = absurd leads

few_at : (n c : ℕ) (left : Option ℕ) → WithinBy n c left → c ≤ 4
few_at n c None w = omega (arith, w)
few_at n c (Some left) w = w.0

pub steps_by_parts_passed : StepsByPartsPassed
steps_by_parts_passed way path lines end leads =
    let asked_parts = asked (follows way.goal) path.parts in
    let few = few_at (length asked_parts) _ _
    (either (length asked_parts) (leads_out path.absolute way.flags) (failed CrossRoot) (goes_on way root_itself (todo [] asked_parts LINKS_MAX)) (omega arith)
    (on_own_within way root_itself asked_parts LINKS_MAX)) in
    omega (arith, few, lines_paid way lines (begins way path) end leads)
