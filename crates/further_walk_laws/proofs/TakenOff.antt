-- How many parts a walk that opens something takes off its plan: all that it met, but for the rest.
use Rattle.std.specs.Prelude.{◌≡◌, ℕ, zero, suc, ◌+◌, ◌-◌, ◌≤◌, ◌&&◌, List, [], ◌∷◌, Bool, true, false, if◌then◌else◌, length, reverse, Option, Some, None, refl}
use Rattle.std.proofs.Common.{sym, ap, subst, ◌∙◌, length-append, arith}
use Rattle.std.proofs.lemmas.List.{length-map}
use Rattle.path_text.specs.declared.errno.Errno.{Errno}
use Rattle.path_text.specs.declared.errno.Errno.TheVariants.{NotFound, Raced, NoMemory, CrossRoot, NotDir, TooLong, Loop}
use Rattle.path_text.specs.Names.{same_names}
use Rattle.path_text.specs.Reading.{Reading}
use Rattle.path_text.specs.Text.{text_fault, parts_of, begins_with_slash}
use Rattle.tree_model.specs.declared.answer.Answer.{Answer}
use Rattle.tree_model.specs.declared.answer.Answer.TheVariants.{Opened, Text, Names, NotBelow, Refused}
use Rattle.walk_plan.specs.Plan.{leads_out}
use Rattle.step_resolver.specs.Asked.{AskedPart, Cur, Up, Named, ask, asked, followed, follows, is_deepest}
use Rattle.step_resolver.specs.Meaning.{LINKS_MAX, is_too_long}
use Rattle.step_resolver.specs.Order.{Way, Handle, Position, root_itself, holds, Todo, todo, After, gives, onward, judges, Walking, opening, reading, rising, judging, duping, ending, closing, Turn, more, found, partial, failed, handles_of, is_dir_position, is_followed, gives_up, at_end, in_directory, on_part, on_own, on_parts, goes_on, begins, closes, refusal_of, with_room, follows_link, enters, refused_open, from_link, read_text, end_of, judged, refused_rise, take, due, Line, answered, no_room, not_made, LeadsTo, has_room, answer_of}
use Rattle.step_resolver.specs.StepCount.{parts_in, to_come, to_come_at, brought, passed, passed_from, passed_by, parts_passed, walk_passed}
use Rattle.step_resolver.proofs.WalkSteps.{asked_length}
use Rattle.further_walk_laws.specs.TrailSteps.{parts_told_by, parts_read}
use Rattle.further_walk_laws.proofs.Passing.{IsSuccess}

-- at most so many parts are to come, where the walk doesn't fail
abbrev AtMost : ℕ → Option ℕ → Type 0
AtMost n None = Unit {0}
AtMost n (Some left) = left ≤ n

abbrev Keeps : ℕ → Turn → Type 0
Keeps n turn = AtMost n (to_come_at turn)

more_at_most : (m n : ℕ) (left : Option ℕ) → m ≤ n → AtMost m left → AtMost n left
more_at_most m n None le few = tt
more_at_most m n (Some left) le few = omega (arith, le, few)

either : (n : ℕ) (b : Bool) (t u : Turn) → Keeps n t → Keeps n u → Keeps n (if b then t else u)
either n true t u few fewer = few
either n false t u few fewer = fewer

gave_up : (n : ℕ) (hs : List ℕ) (error : Errno) → Keeps n (gives_up hs error)
gave_up n [] error = tt
gave_up n (h ∷ hs) error = tt

ended : (n : ℕ) (position : Position) (rest : List AskedPart) → length rest ≤ n → Keeps n (at_end position rest)
ended n root_itself rest le = le
ended n (holds handle names) rest le = le

-- the parts that an end leaves
abbrev pub left_of : Option ℕ → ℕ
left_of None = 0
left_of (Some left) = left

abbrev pub left_at : Turn → ℕ
left_at end = left_of (to_come_at end)

no_success : (end : Turn) → to_come_at end ≡ None → IsSuccess end → ⊥
no_success (more walk) none success = success
no_success (found handle names) none success = cc (none)
no_success (partial handle names rest) none success = cc (none)
no_success (failed error) none success = success

line_sum : (taken further rest left read came brought : ℕ) → taken ≡ came + brought - left → left ≤ came + brought → further + rest ≡ left + read
    → taken + further + rest ≡ came + (brought + read)
line_sum taken further rest left read came brought e le sum = omega (arith, e, le, sum)

none_taken : (rest came : ℕ) → rest ≡ came → 0 + rest ≡ came + 0
none_taken rest came e = omega (arith, e)

none_brought : (came brought read : ℕ) → brought ≡ 0 → came + (brought + read) ≡ came + read
none_brought came brought read e = omega (arith, e)

module _ (way : Way) where
  in_directory_keeps : (n : ℕ) (position : Position) (p : AskedPart) (own : Bool) (rest : Todo) (further : Turn) → suc (parts_in rest) ≤ n → Keeps (parts_in rest) further
      → Keeps n (in_directory way position p own rest further)
  in_directory_keeps n position Cur own rest further le few = more_at_most (parts_in rest) n _ (omega (arith, le)) few
  in_directory_keeps n root_itself Up own rest further le few =
      either n way.flags.beneath _ further tt (more_at_most (parts_in rest) n _ (omega (arith, le)) few)
  in_directory_keeps n (holds handle []) Up own rest further le few =
      either n way.flags.beneath _ further tt (more_at_most (parts_in rest) n _ (omega (arith, le)) few)
  in_directory_keeps n (holds handle (name ∷ names)) Up own rest further le few = le
  in_directory_keeps n position (Named follow name) own rest further le few =
      either n (is_too_long name) _ _ (gave_up n (handles_of position) TooLong) le

  on_part_keeps : (n : ℕ) (position : Position) (p : AskedPart) (own : Bool) (rest : Todo) (further : Turn) → suc (parts_in rest) ≤ n → Keeps (parts_in rest) further
      → Keeps n (on_part way position p own rest further)
  on_part_keeps n position p own rest further le few =
      either n (is_dir_position position) _ _ (in_directory_keeps n position p own rest further le few) (gave_up n (handles_of position) NotDir)

  on_own_keeps : (position : Position) (own : List AskedPart) (b : ℕ) → Keeps (length own) (on_own way position own b)
  on_own_keeps position [] b = ended 0 position [] (omega arith)
  on_own_keeps position (p ∷ own) b = on_part_keeps (length (p ∷ own)) position p true (todo [] own b) (on_own way position own b) (omega arith)
      (more_at_most (length own) (parts_in (todo [] own b)) _ (omega arith) (on_own_keeps position own b))

  on_parts_keeps : (position : Position) (inner own : List AskedPart) (b : ℕ) → Keeps (length inner + length own) (on_parts way position inner own b)
  on_parts_keeps position [] own b = more_at_most (length own) (zero + length own) _ (omega arith) (on_own_keeps position own b)
  on_parts_keeps position (p ∷ inner) own b =
      on_part_keeps (length (p ∷ inner) + length own) position p false (todo inner own b) (on_parts way position inner own b) (omega arith) (on_parts_keeps position inner own b)

  goes_on_keeps : (n : ℕ) (position : Position) (rest : Todo) → parts_in rest ≤ n → Keeps n (goes_on way position rest)
  goes_on_keeps n position (todo inner own b) le = more_at_most (parts_in (todo inner own b)) n _ le (on_parts_keeps position inner own b)

  closes_keeps : (n : ℕ) (hs : List ℕ) (position : Position) (rest : Todo) → parts_in rest ≤ n → Keeps n (closes way hs (onward position rest))
  closes_keeps n [] position rest le = goes_on_keeps n position rest le
  closes_keeps n (h ∷ hs) position rest le = le

  with_room_keeps : (n : ℕ) (room : Bool) (hs : List ℕ) (turn : Turn) → Keeps n turn → Keeps n (with_room room hs turn)
  with_room_keeps n true hs turn few = few
  with_room_keeps n false hs turn few = gave_up n hs NoMemory

  -- ---- each answer

  follows_link_keeps : (n : ℕ) (position : Position) (link : Handle) (rest : Todo) → suc (parts_in rest) ≤ n → Keeps n (follows_link way position link rest)
  follows_link_keeps n position link (todo inner own zero) le = gave_up n (link.number ∷ handles_of position) Loop
  follows_link_keeps n position link (todo inner own (suc b)) le =
      either n way.flags.no_links _ _ (gave_up n (link.number ∷ handles_of position) Loop) le

  enters_keeps : (n : ℕ) (room : Bool) (position : Position) (name : List ℕ) (new : Handle) (rest : Todo) → parts_in rest ≤ n
      → Keeps n (enters way room position name new rest)
  enters_keeps n room position name new rest le = with_room_keeps n room (new.number ∷ handles_of position) _ (closes_keeps n (handles_of position) _ rest le)

  refused_open_keeps : (n : ℕ) (position : Position) (own follow : Bool) (name : List ℕ) (rest : Todo) (error : Errno) → suc (parts_in rest) ≤ n
      → Keeps n (refused_open way position own follow name rest error)
  refused_open_keeps n position own follow name (todo inner rest b) NotFound le =
      either n (is_deepest way.goal && own) _ _ (ended n position (Named follow name ∷ rest) (omega (arith, le))) (gave_up n (handles_of position) NotFound)
  refused_open_keeps n position own follow name (todo inner rest b) error le = gave_up n (handles_of position) error

  from_link_keeps : (n : ℕ) (room : Bool) (position : Position) (link : Handle) (absolute : Bool) (parts inner own : List AskedPart) (b : ℕ)
      → length parts + (length inner + length own) ≤ n → Keeps n (from_link way room position link absolute parts (todo inner own b))
  from_link_keeps n room position link true parts inner own b le =
      with_room_keeps n room (link.number ∷ handles_of position) _ (omega (arith, le, length-append parts inner))
  from_link_keeps n room position link false parts inner own b le =
      with_room_keeps n room (link.number ∷ handles_of position) _ (omega (arith, le, length-append parts inner))

  read_text_keeps : (n : ℕ) (room : Bool) (position : Position) (link : Handle) (inner own : List AskedPart) (b : ℕ) (text : List ℕ) (fault : Option Errno)
      → length (parts_of text) + (length inner + length own) ≤ n → Keeps n (read_text way room position link (todo inner own b) text fault)
  read_text_keeps n room position link inner own b text (Some fault) le = gave_up n (link.number ∷ handles_of position) fault
  read_text_keeps n room position link inner own b text None le =
      either n (leads_out (begins_with_slash text) way.flags) _ _ (gave_up n (link.number ∷ handles_of position) CrossRoot)
      (from_link_keeps n room position link (begins_with_slash text) (followed (parts_of text)) inner own b (omega (arith, le, length-map (parts_of text) (ask true))))

  refused_rise_keeps : (n : ℕ) (handle : Handle) (error : Errno) → Keeps n (refused_rise handle error)
  refused_rise_keeps n handle NotFound = tt
  refused_rise_keeps n handle error = tt

  end_of_keeps : (n : ℕ) (handle : Handle) (names : List (List ℕ)) (rest : List AskedPart) → length rest ≤ n → Keeps n (end_of handle names rest)
  end_of_keeps n handle names [] le = le
  end_of_keeps n handle names (p ∷ rest) le = le

  judged_keeps : (n : ℕ) (handle : Handle) (names told : List (List ℕ)) (stands : Turn) → Keeps n stands → Keeps n (judged handle names told stands)
  judged_keeps n handle names told stands few = either n (same_names told (reverse names)) stands (gives_up (handle.number ∷ []) Raced) few tt

  -- after an answer
  abbrev KeepsFrom : Option ℕ → ℕ → Turn → Type 0
  KeepsFrom None brought turn = to_come_at turn ≡ None
  KeepsFrom (Some before) brought turn = Keeps (before + brought) turn

  closing_keeps : (hs : List ℕ) (after : After) (h : ℕ) → KeepsFrom (to_come (closing h hs after)) 0 (closes way hs after)
  closing_keeps [] (gives error) h = refl
  closing_keeps (k ∷ hs) (gives error) h = refl
  closing_keeps hs (onward position rest) h = closes_keeps (parts_in rest + 0) hs position rest (omega arith)
  closing_keeps [] (judges handle names rest) h = omega arith
  closing_keeps (k ∷ hs) (judges handle names rest) h = omega arith

  take_keeps : (room : Bool) (walk : Walking) (answer : Answer) → KeepsFrom (to_come walk) (brought walk answer) (take way room walk answer)
  take_keeps room (opening position own follow name rest) (Opened h x kind) =
      either (suc (parts_in rest) + 0) (is_followed follow kind) _ _ (follows_link_keeps (suc (parts_in rest) + 0) position _ rest (omega arith))
      (enters_keeps (suc (parts_in rest) + 0) room position name _ rest (omega arith))
  take_keeps room (opening position own follow name rest) answer =
      refused_open_keeps (suc (parts_in rest) + 0) position own follow name rest (refusal_of answer) (omega arith)
  take_keeps room (reading position link (todo inner own b)) (Text text) =
      read_text_keeps (suc (parts_in (todo inner own b)) + length (parts_of text)) room position link inner own b text (text_fault text) (omega arith)
  take_keeps room (reading position link (todo inner own b)) answer = gave_up (suc (parts_in (todo inner own b)) + 0) (link.number ∷ handles_of position) (refusal_of answer)
  take_keeps room (rising old names rest) (Opened h x kind) = omega arith
  take_keeps room (rising old names rest) answer = refused_rise_keeps (suc (parts_in rest) + 0) old (refusal_of answer)
  take_keeps room (judging new names rest) (Names told) =
      judged_keeps (suc (parts_in rest) + 0) new names told _ (goes_on_keeps (suc (parts_in rest) + 0) (holds new names) rest (omega arith))
  take_keeps room (judging new names rest) NotBelow = tt
  take_keeps room (judging new names rest) answer = tt
  take_keeps room (duping rest) (Opened h x kind) = omega arith
  take_keeps room (duping rest) answer = tt
  take_keeps room (ending handle names rest) (Names told) =
      judged_keeps (length rest + 0) handle names told _ (end_of_keeps (length rest + 0) handle names rest (omega arith))
  take_keeps room (ending handle names rest) NotBelow = tt
  take_keeps room (ending handle names rest) answer = tt
  take_keeps room (closing h hs after) answer = closing_keeps hs after h

  -- ---- the lines of a walk that opens something

  told_is_brought : (walk : Walking) (answer : Answer) → parts_told_by (due way walk) answer ≡ brought walk answer
  told_is_brought (opening position own follow name rest) answer = refl
  told_is_brought (reading position link rest) (Text text) = refl
  told_is_brought (reading position link rest) answer = refl
  told_is_brought (rising old names rest) answer = refl
  told_is_brought (judging new names rest) answer = refl
  told_is_brought (duping rest) answer = refl
  told_is_brought (ending handle names rest) answer = refl
  told_is_brought (closing h hs after) answer = refl

  refused_brings_none : (walk : Walking) (error : Errno) → brought walk (Refused error) ≡ 0
  refused_brings_none (opening position own follow name rest) error = refl
  refused_brings_none (reading position link rest) error = refl
  refused_brings_none (rising old names rest) error = refl
  refused_brings_none (judging new names rest) error = refl
  refused_brings_none (duping rest) error = refl
  refused_brings_none (ending handle names rest) error = refl
  refused_brings_none (closing h hs after) error = refl

  -- ---- line by line

  take_fails : (room : Bool) (walk : Walking) (answer : Answer) → to_come walk ≡ None → to_come_at (take way room walk answer) ≡ None
  take_fails room walk answer none = subst (λ o. KeepsFrom o (brought walk answer) (take way room walk answer)) none (take_keeps room walk answer)

  -- a walk that only closes and fails opens nothing
  opens_nothing : (lines : List Line) (turn end : Turn) → to_come_at turn ≡ None → LeadsTo way turn lines end → IsSuccess end → ⊥
  opens_nothing [] turn end none leads success = no_success end (subst (λ t. to_come_at t ≡ None) leads none) success
  opens_nothing (line ∷ lines) (more walk) end none leads success =
      opens_nothing lines (take way (has_room line) walk (answer_of line)) end (take_fails (has_room line) walk (answer_of line) none) leads.1 success
  opens_nothing (line ∷ lines) (found handle names) end none leads success = absurd leads
  opens_nothing (line ∷ lines) (partial handle names rest) end none leads success = absurd leads
  opens_nothing (line ∷ lines) (failed error) end none leads success = absurd leads

  -- of the parts that come, and those that an answer brings, the others are taken off
  line_takes : (walk : Walking) (answer : Answer) (next : Turn) (lines : List Line) (end : Turn) (came : ℕ) → to_come walk ≡ Some came
      → KeepsFrom (to_come walk) (brought walk answer) next → LeadsTo way next lines end → IsSuccess end
      → ((left : ℕ) → to_come_at next ≡ Some left → parts_passed way next lines + left_at end ≡ left + parts_read lines)
      → passed_by walk answer next + parts_passed way next lines + left_at end ≡ came + (brought walk answer + parts_read lines)
  line_takes walk answer next lines end came comes keeps leads success further = on (to_come_at next) refl
    where
      kept : Keeps (came + brought walk answer) next
      kept = subst (λ o. KeepsFrom o (brought walk answer) next) comes keeps

      on : (o : Option ℕ) → to_come_at next ≡ o → passed_by walk answer next + parts_passed way next lines + left_at end ≡ came + (brought walk answer + parts_read lines)
      on None e = absurd (opens_nothing lines next end e leads success)
      on (Some left) e = line_sum (passed_by walk answer next) (parts_passed way next lines) (left_at end) left (parts_read lines) came (brought walk answer)
          (λ i. passed_from (comes i) (brought walk answer) (e i)) (subst (AtMost (came + brought walk answer)) e kept) (further left e)

  taken_off : (lines : List Line) (turn end : Turn) (came : ℕ) → to_come_at turn ≡ Some came → LeadsTo way turn lines end → IsSuccess end
      → parts_passed way turn lines + left_at end ≡ came + parts_read lines
  taken_off [] turn end came comes leads success = none_taken (left_at end) came (ap left_of (ap to_come_at (sym leads) ∙ comes))
  taken_off (answered step answer ∷ lines) (more walk) end came comes leads success =
      line_takes walk answer (take way true walk answer) lines end came comes (take_keeps true walk answer) leads.1 success
      (λ left e. taken_off lines (take way true walk answer) end left e leads.1 success)
      ∙ ap (λ k. came + (k + parts_read lines)) (sym (ap (λ s. parts_told_by s answer) leads.0 ∙ told_is_brought walk answer))
  taken_off (no_room step answer ∷ lines) (more walk) end came comes leads success =
      line_takes walk answer (take way false walk answer) lines end came comes (take_keeps false walk answer) leads.1 success
      (λ left e. taken_off lines (take way false walk answer) end left e leads.1 success)
      ∙ ap (λ k. came + (k + parts_read lines)) (sym (ap (λ s. parts_told_by s answer) leads.0 ∙ told_is_brought walk answer))
  taken_off (not_made error ∷ lines) (more walk) end came comes leads success =
      line_takes walk (Refused error) (take way true walk (Refused error)) lines end came comes (take_keeps true walk (Refused error)) leads.1 success
      (λ left e. taken_off lines (take way true walk (Refused error)) end left e leads.1 success)
      ∙ none_brought came (brought walk (Refused error)) (parts_read lines) (refused_brings_none walk error)
  taken_off (line ∷ lines) (found handle names) end came comes leads success = absurd leads
  taken_off (line ∷ lines) (partial handle names rest) end came comes leads success = absurd leads
  taken_off (line ∷ lines) (failed error) end came comes leads success = absurd leads

begun_sum : (came asked left passed rest read : ℕ) → asked ≡ came → left ≤ asked → passed + rest ≡ left + read → came - left + passed + rest ≡ asked + read
begun_sum came asked left passed rest read e le sum = omega (arith, e, le, sum)

-- A walk that opens something took all parts of its path off its plan, but for the rest, and those of the texts that it
-- read.
pub plan_taken_off : (way : Way) (path : Reading) (lines : List Line) (end : Turn) → LeadsTo way (begins way path) lines end → IsSuccess end
    → walk_passed way path lines + left_at end ≡ length (asked (follows way.goal) path.parts) + parts_read lines
plan_taken_off way path lines end leads success = on (to_come_at (begins way path)) refl
  where
    kept : Keeps (length (asked (follows way.goal) path.parts)) (begins way path)
    kept = either (length (asked (follows way.goal) path.parts)) (leads_out path.absolute way.flags) (failed CrossRoot)
        (goes_on way root_itself (todo [] (asked (follows way.goal) path.parts) LINKS_MAX)) tt
        (on_own_keeps way root_itself (asked (follows way.goal) path.parts) LINKS_MAX)

    on : (o : Option ℕ) → to_come_at (begins way path) ≡ o
        → walk_passed way path lines + left_at end ≡ length (asked (follows way.goal) path.parts) + parts_read lines
    on None e = absurd (opens_nothing way lines (begins way path) end e leads success)
    on (Some left) e =
        ap (λ k. k + parts_passed way (begins way path) lines + left_at end) (ap (passed (length path.parts)) e)
        ∙ begun_sum (length path.parts) (length (asked (follows way.goal) path.parts)) left (parts_passed way (begins way path) lines) (left_at end) (parts_read lines)
        (asked_length (follows way.goal) path.parts)
        (subst (AtMost (length (asked (follows way.goal) path.parts))) e kept) (taken_off way lines (begins way path) end left e leads success)
