-- Where the names and texts of an event lie.
use Rattle.std.proofs.Common.{◌≡◌, ℕ, zero, suc, ◌+◌, ◌-◌, ◌≤◌, ◌<◌, List, [], ◌∷◌, ◌++◌, length, take, drop, refl, sym, ap, ◌∙◌, arith, get_or, add-one, subst}
use Rattle.std.specs.Prelude.{Some, slice_get, IfSome, Option}
use Rattle.std.proofs.Math.Seq.{take-append_seam, drop-append_seam}
use Rattle.std.proofs.lemmas.List.{append_assoc, append-nil, length-append}
use Rattle.tree_model.specs.declared.answer.Event.{Event}
use Rattle.tree_model.specs.declared.answer.Answer.{Answer}
use Rattle.tree_model.specs.StepWith.{StepWith}
use Rattle.event_log.specs.declared.shape.Record.{Record}
use Rattle.event_log.specs.declared.shape.AnswerShape.{AnswerShape}
use Rattle.event_log.specs.declared.shape.StepShape.{StepShape}
use Rattle.event_log.specs.Shapes.{step_shape, step_texts, answer_shape, answer_texts, HasStepNames, HasAnswerNames}
use Rattle.event_log.specs.Records.{event_with, event_texts, record_of, event_read, events_read, records_from, texts_of, HasNames, IsLike, IsLog}
use Rattle.path_text.proofs.NameBuffers.{all_at}
use Rattle.event_log.proofs.Again.{events_more, log_more, event_again}

record_start : (start : ℕ) (events : List Event) (k : ℕ) (r : Record) → slice_get (records_from start events) k ≡ Some r → r.start ≡ start + length (texts_of (take k events))
record_start start [] k r e = absurd (cc)
record_start start (event ∷ events) zero r e =
    let same : record_of start event ≡ r = cc in
    sym (ap (λ x. x.start) same) ∙ omega arith
record_start start (event ∷ events) (suc k) r e =
    record_start (start + length (event_texts event)) events k r e
    ∙ omega (arith, length-append (event_texts event) (texts_of (take k events)))

-- where the names and texts of the event at a place begin, read off its record; past the last event, where the buffer ends
pub start_recorded : (bytes : List ℕ) (records : List Record) (k : ℕ) (r : Record) → IsLog bytes records → slice_get records k ≡ Some r
    → r.start ≡ length (texts_of (take k (events_read bytes records)))
start_recorded bytes records k r h found =
    let there : slice_get (records_from 0 (events_read bytes records)) k ≡ Some r = ap (λ rs. slice_get rs k) (sym h.recorded) ∙ found in
    record_start 0 (events_read bytes records) k r there ∙ omega arith

-- the texts before an event, its own, and those behind it
texts_split : (events : List Event) (k : ℕ) (event : Event) → slice_get events k ≡ Some event
    → texts_of events ≡ texts_of (take k events) ++ (event_texts event ++ texts_of (drop (suc k) events))
texts_split [] k event e = absurd (cc)
texts_split (first ∷ events) zero event e =
    let same : first ≡ event = cc in
    ap (λ x. event_texts x ++ texts_of events) same
texts_split (first ∷ events) (suc k) event e =
    ap (λ bs. event_texts first ++ bs) (texts_split events k event e)
    ∙ sym (append_assoc (event_texts first) (texts_of (take k events)) (event_texts event ++ texts_of (drop (suc k) events)))

texts_taken : (events : List Event) (k : ℕ) (event : Event) → slice_get events k ≡ Some event
    → length (texts_of (take (suc k) events)) ≡ length (texts_of (take k events)) + length (event_texts event)
texts_taken [] k event e = absurd (cc)
texts_taken (first ∷ events) zero event e =
    let same : first ≡ event = cc in
    ap length (append-nil (event_texts first)) ∙ ap (λ x. length (event_texts x)) same ∙ omega arith
texts_taken (first ∷ events) (suc k) event e =
    omega (arith, texts_taken events k event e, length-append (event_texts first) (texts_of (take (suc k) events)), length-append (event_texts first) (texts_of (take k events)))

-- an event's names and texts are what lies between two such places
pub record LiesAt (bytes : List ℕ) (start end : ℕ) (event : Event) : Type 0 where
  pub rises : start ≤ end
  pub within : end ≤ length bytes
  pub own : take (end - start) (drop start bytes) ≡ event_texts event

pub lies_at : (bytes : List ℕ) (records : List Record) (k start end : ℕ) (event : Event) → IsLog bytes records → slice_get (events_read bytes records) k ≡ Some event
    → start ≡ length (texts_of (take k (events_read bytes records))) → end ≡ length (texts_of (take (k + 1) (events_read bytes records)))
    → LiesAt bytes start end event
lies_at bytes records k start end event h found is_start is_end =
    let events = events_read bytes records in
    let before = texts_of (take k events) in
    let behind = texts_of (drop (suc k) events) in
    let whole : bytes ≡ before ++ (event_texts event ++ behind) = h.written ∙ texts_split events k event found in
    let ends : end ≡ start + length (event_texts event) =
    is_end ∙ ap (λ n. length (texts_of (take n events))) (add-one k) ∙ texts_taken events k event found ∙ ap (λ n. n + length (event_texts event)) (sym is_start) in
    let size : length bytes ≡ length before + (length (event_texts event) + length behind) =
    ap length whole ∙ length-append before (event_texts event ++ behind) ∙ ap (λ n. length before + n) (length-append (event_texts event) behind) in
    let back : drop start bytes ≡ event_texts event ++ behind =
    ap (λ n. drop n bytes) is_start ∙ ap (drop (length before)) whole ∙ drop-append_seam before (event_texts event ++ behind) in
    let own_size : end - start ≡ length (event_texts event) = omega (arith, ends) in
    record {
      rises = omega (arith, ends);
      within = omega (arith, ends, is_start, size);
      own = ap (λ n. take n (drop start bytes)) own_size ∙ ap (take (length (event_texts event))) back ∙ take-append_seam (event_texts event) behind;
    }

event_within : (bytes : List ℕ) (records : List Record) (k : ℕ) → k < length records → (event : Event) × (slice_get (events_read bytes records) k ≡ Some event)
event_within bytes [] k h = absurd (omega (arith, h))
event_within bytes (r ∷ records) zero h = (event_read bytes r, refl)
event_within bytes (r ∷ records) (suc k) h = event_within bytes records k (omega (arith, h))

pub lies_between : (bytes : List ℕ) (records : List Record) (k start end : ℕ) → IsLog bytes records → k < length records
    → start ≡ length (texts_of (take k (events_read bytes records))) → end ≡ length (texts_of (take (k + 1) (events_read bytes records)))
    → (start ≤ end) × (end ≤ length bytes)
lies_between bytes records k start end h within is_start is_end =
    let there = event_within bytes records k within in
    let lies = lies_at bytes records k start end there.0 h there.1 is_start is_end in
    (lies.rises, lies.within)

pub lies_own : (bytes : List ℕ) (records : List Record) (k start end : ℕ) → IsLog bytes records → k < length records
    → start ≡ length (texts_of (take k (events_read bytes records))) → end ≡ length (texts_of (take (k + 1) (events_read bytes records)))
    → IfSome (slice_get (events_read bytes records) k) (λ event. take (end - start) (drop start bytes) ≡ event_texts event)
lies_own bytes records k start end h within is_start is_end =
    let there = event_within bytes records k within in
    let own = (lies_at bytes records k start end there.0 h there.1 is_start is_end).own in
    rw there.1 own

-- ---- one more event

pub push_log : (bytes new_bytes : List ℕ) (records kept new_records : List Record) (start a : ℕ) (s : StepWith ℕ) (v : Answer) (shape : StepShape) (answer : AnswerShape)
    → IsLog bytes records → HasStepNames s → HasAnswerNames v → kept ≡ records → start ≡ length bytes → shape ≡ step_shape s → answer ≡ answer_shape v
    → new_bytes ≡ bytes ++ (step_texts s ++ answer_texts v)
    → new_records ≡ kept ++ record { start = start; actor = a; step = shape; answer = answer } ∷ []
    → IsLog new_bytes new_records × (events_read new_bytes new_records ≡ events_read bytes records ++ event_with a s v ∷ [])
push_log bytes new_bytes records kept new_records start a s v shape answer log names others is_kept is_start is_shape is_answer is_bytes is_records =
    let event : Event = event_with a s v in
    let at_end : new_records ≡ records ++ record_of (length bytes) event ∷ [] = cc in
    rw (at_end, is_bytes) (log_more bytes records event log (names, others), events_more bytes records event log)

-- ---- an event and its record

got : {X : Type 0} (xs : List X) (k : ℕ) (x : X) → k < length xs → x ≡ get_or xs k x → slice_get xs k ≡ Some x
got [] k x h e = absurd (omega (arith, h))
got (y ∷ xs) zero x h e = ap (λ z. Some z) (sym e)
got (y ∷ xs) (suc k) x h e = got xs k x (omega (arith, h)) e

length_read : (bytes : List ℕ) (records : List Record) → length (events_read bytes records) ≡ length records
length_read bytes [] = refl
length_read bytes (r ∷ records) = ap (λ n. suc n) (length_read bytes records)

read_at : (bytes : List ℕ) (records : List Record) (k : ℕ) (r : Record) → slice_get records k ≡ Some r → slice_get (events_read bytes records) k ≡ Some (event_read bytes r)
read_at bytes [] k r e = absurd (cc)
read_at bytes (q ∷ records) zero r e =
    let same : q ≡ r = cc in
    ap (λ x. Some (event_read bytes x)) same
read_at bytes (q ∷ records) (suc k) r e = read_at bytes records k r e

recorded_at : (start : ℕ) (events : List Event) (k : ℕ) (event : Event) (r : Record) → slice_get events k ≡ Some event → slice_get (records_from start events) k ≡ Some r
    → r ≡ record_of r.start event
recorded_at start [] k event r e f = absurd (cc)
recorded_at start (first ∷ events) zero event r e f =
    let same : first ≡ event = cc in
    let is : record_of start first ≡ r = cc in
    let P : Record → Type 0 = λ x. x ≡ record_of x.start event in
    subst P is (ap (record_of start) same)
recorded_at start (first ∷ events) (suc k) event r e f = recorded_at (start + length (event_texts first)) events k event r e f

-- the event of the record at a place
pub record FoundAt (bytes : List ℕ) (records : List Record) (k : ℕ) (r : Record) : Type 0 where
  pub there : slice_get (events_read bytes records) k ≡ Some (event_read bytes r)
  pub made : r ≡ record_of r.start (event_read bytes r)
  pub named : HasNames (event_read bytes r)

pub start_at : (bytes : List ℕ) (records : List Record) (k : ℕ) (r : Record) → IsLog bytes records → k < length records → r ≡ get_or records k r
    → r.start ≡ length (texts_of (take k (events_read bytes records)))
start_at bytes records k r h within e = start_recorded bytes records k r h (got records k r within e)

pub found_at : (bytes : List ℕ) (records : List Record) (k : ℕ) (r : Record) → IsLog bytes records → k < length records → r ≡ get_or records k r → FoundAt bytes records k r
found_at bytes records k r h within e =
    let there : slice_get (events_read bytes records) k ≡ Some (event_read bytes r) = read_at bytes records k r (got records k r within e) in
    let recorded : slice_get (records_from 0 (events_read bytes records)) k ≡ Some r = ap (λ rs. slice_get rs k) (sym h.recorded) ∙ got records k r within e in
    record {
      there = there;
      made = recorded_at 0 (events_read bytes records) k (event_read bytes r) r there recorded;
      named = all_at HasNames (events_read bytes records) k (event_read bytes r) h.named there;
    }

-- the same, where the events are told beforehand
pub found_in : (bytes : List ℕ) (records : List Record) (events : List Event) (k : ℕ) (r : Record) → IsLog bytes records → events_read bytes records ≡ events
    → k < length events → r ≡ get_or records k r → FoundAt bytes records k r
found_in bytes records events k r h e within f =
    let count : length (events_read bytes records) ≡ length records = length_read bytes records in
    found_at bytes records k r h (omega (arith, within, ap length e, count)) f

-- ---- two events

alike : (start : ℕ) (e f : Event) → IsLike (record_of start e) (record_of start f) → record_of start e ≡ record_of start f
alike start e f like =
    let make : ℕ → StepShape → AnswerShape → Record = λ a s v. record { start = start; actor = a; step = s; answer = v } in
    ap (λ a. make a (step_shape e.step) (answer_shape e.answer)) like.0
    ∙ ap (λ s. make f.actor s (answer_shape e.answer)) like.1 ∙ ap (λ v. make f.actor (step_shape f.step) v) like.2

-- their records are alike and their names and texts the same exactly where they are one event
made_again : (e f : Event) → IsLike (record_of 0 e) (record_of 0 f) → event_texts e ≡ event_texts f → e ≡ f
made_again e f like texts =
    let mine : event_read (event_texts e) (record_of 0 e) ≡ e = event_again (event_texts e) 0 e [] (sym (append-nil (event_texts e))) in
    let other : event_read (event_texts f) (record_of 0 f) ≡ f = event_again (event_texts f) 0 f [] (sym (append-nil (event_texts f))) in
    let records : record_of 0 e ≡ record_of 0 f = alike 0 e f like in
    sym mine ∙ ap (λ r. event_read (event_texts e) r) records ∙ ap (λ bs. event_read bs (record_of 0 f)) texts ∙ other

pub like_from_same : (bytes others : List ℕ) (records theirs : List Record) (k j : ℕ) (r q : Record) → FoundAt bytes records k r → FoundAt others theirs j q
    → slice_get (events_read bytes records) k ≡ slice_get (events_read others theirs) j → IsLike r q
like_from_same bytes others records theirs k j r q mine other same =
    let one : event_read bytes r ≡ event_read others q = cc (mine.there, other.there) in
    let first : r ≡ record_of r.start (event_read bytes r) = mine.made in
    let second : q ≡ record_of q.start (event_read others q) = other.made in (
      ap (λ x. x.actor) one,
      ap (λ x. x.step) first ∙ ap (λ x. step_shape x.step) one ∙ sym (ap (λ x. x.step) second),
      ap (λ x. x.answer) first ∙ ap (λ x. answer_shape x.answer) one ∙ sym (ap (λ x. x.answer) second),
    )

texts_found : (bytes texts : List ℕ) (records : List Record) (k : ℕ) (r : Record) → FoundAt bytes records k r
    → IfSome (slice_get (events_read bytes records) k) (λ event. texts ≡ event_texts event) → texts ≡ event_texts (event_read bytes r)
texts_found bytes texts records k r found h =
    let P : Option Event → Type 0 = λ o. IfSome o (λ event. texts ≡ event_texts event) in
    subst P found.there h

-- where their records are alike, two events are one exactly where their names and texts are the same
pub same_by_texts : (bytes others texts more : List ℕ) (records theirs : List Record) (k j : ℕ) (r q : Record) → FoundAt bytes records k r → FoundAt others theirs j q
    → IfSome (slice_get (events_read bytes records) k) (λ event. texts ≡ event_texts event)
    → IfSome (slice_get (events_read others theirs) j) (λ event. more ≡ event_texts event)
    → IsLike r q → (texts ≡ more → slice_get (events_read bytes records) k ≡ slice_get (events_read others theirs) j)
    × (slice_get (events_read bytes records) k ≡ slice_get (events_read others theirs) j → texts ≡ more)
same_by_texts bytes others texts more records theirs k j r q mine other is_texts is_more like =
    let e = event_read bytes r in
    let f = event_read others q in
    let first : texts ≡ event_texts e = texts_found bytes texts records k r mine is_texts in
    let second : more ≡ event_texts f = texts_found others more theirs j q other is_more in
    let step : step_shape e.step ≡ step_shape f.step = sym (ap (λ x. x.step) mine.made) ∙ like.1 ∙ ap (λ x. x.step) other.made in
    let answer : answer_shape e.answer ≡ answer_shape f.answer = sym (ap (λ x. x.answer) mine.made) ∙ like.2 ∙ ap (λ x. x.answer) other.made in (
      (λ t. mine.there ∙ ap (λ x. Some x) (made_again e f (like.0, step, answer) (sym first ∙ t ∙ second)) ∙ sym other.there),
      (λ s. let one : e ≡ f = cc (mine.there, other.there) in first ∙ ap event_texts one ∙ sym second),
    )
