-- What was written is read again: one step, one answer, one event, and a whole log.
use Rattle.std.proofs.Common.{◌≡◌, ℕ, ◌+◌, List, [], ◌∷◌, ◌++◌, length, take, drop, refl, sym, ap, ◌∙◌, arith}
use Rattle.std.proofs.Math.Seq.{take-append_seam, drop-append_seam}
use Rattle.std.proofs.lemmas.List.{append_assoc, append-nil, length-append}
use Rattle.std.proofs.lemmas.List.Elements.{All-push}
use Rattle.tree_model.specs.declared.answer.Answer.{Answer}
use Rattle.tree_model.specs.declared.answer.Answer.TheVariants.{Opened, Text, Names, NotBelow, Listed, Done, Refused}
use Rattle.tree_model.specs.declared.answer.Event.{Event}
use Rattle.tree_model.specs.StepWith.{StepWith}
use Rattle.tree_model.specs.declared.step.StepOf.TheVariants.{Open, Dup, Parent, ReadLink, NameBelow, List as ListNames, Close, MakeDir, MakeFile, MakeLink, RemoveFile, RemoveDir, Rename}
use Rattle.event_log.specs.declared.shape.Record.{Record}
use Rattle.event_log.specs.Shapes.{step_shape, step_texts, step_read, step_rest, answer_shape, answer_texts, answer_read, pieces_of, pieces_read}
use Rattle.event_log.specs.Records.{event_texts, record_of, event_read, events_read, records_from, texts_of, HasNames, IsLog}

-- ---- one step

front_again : (n rest : List ℕ) → take (length n) (n ++ rest) ≡ n
front_again n rest = take-append_seam n rest

rest_again : (n rest : List ℕ) → drop (length n) (n ++ rest) ≡ rest
rest_again n rest = drop-append_seam n rest

first_of_two : (n m rest : List ℕ) → take (length n) ((n ++ m) ++ rest) ≡ n
first_of_two n m rest = ap (take (length n)) (append_assoc n m rest) ∙ front_again n (m ++ rest)

after_first : (n m rest : List ℕ) → drop (length n) ((n ++ m) ++ rest) ≡ m ++ rest
after_first n m rest = ap (drop (length n)) (append_assoc n m rest) ∙ rest_again n (m ++ rest)

second_of_two : (n m rest : List ℕ) → take (length m) (drop (length n) ((n ++ m) ++ rest)) ≡ m
second_of_two n m rest = ap (take (length m)) (after_first n m rest) ∙ front_again m rest

after_both : (n m rest : List ℕ) → drop (length m) (drop (length n) ((n ++ m) ++ rest)) ≡ rest
after_both n m rest = ap (drop (length m)) (after_first n m rest) ∙ rest_again m rest

pub step_again : (s : StepWith ℕ) (rest : List ℕ) → step_read (step_shape s) (step_texts s ++ rest) ≡ s
step_again (Open h n) rest = ap (Open h) (front_again n rest)
step_again (Dup h) rest = refl
step_again (Parent h) rest = refl
step_again (ReadLink h) rest = refl
step_again (NameBelow r h) rest = refl
step_again (ListNames h) rest = refl
step_again (Close h) rest = refl
step_again (MakeDir h n) rest = ap (MakeDir h) (front_again n rest)
step_again (MakeFile h n) rest = ap (MakeFile h) (front_again n rest)
step_again (MakeLink h n text) rest =
    ap (λ m. MakeLink h m (take (length text) (drop (length n) ((n ++ text) ++ rest)))) (first_of_two n text rest)
    ∙ ap (λ t. MakeLink h n t) (second_of_two n text rest)
step_again (RemoveFile h n) rest = ap (RemoveFile h) (front_again n rest)
step_again (RemoveDir h n) rest = ap (RemoveDir h) (front_again n rest)
step_again (Rename h n k m mode) rest =
    ap (λ o. Rename h o k (take (length m) (drop (length n) ((n ++ m) ++ rest))) mode) (first_of_two n m rest)
    ∙ ap (λ o. Rename h n k o mode) (second_of_two n m rest)

pub step_rest_again : (s : StepWith ℕ) (rest : List ℕ) → step_rest (step_shape s) (step_texts s ++ rest) ≡ rest
step_rest_again (Open h n) rest = rest_again n rest
step_rest_again (Dup h) rest = refl
step_rest_again (Parent h) rest = refl
step_rest_again (ReadLink h) rest = refl
step_rest_again (NameBelow r h) rest = refl
step_rest_again (ListNames h) rest = refl
step_rest_again (Close h) rest = refl
step_rest_again (MakeDir h n) rest = rest_again n rest
step_rest_again (MakeFile h n) rest = rest_again n rest
step_rest_again (MakeLink h n text) rest = after_both n text rest
step_rest_again (RemoveFile h n) rest = rest_again n rest
step_rest_again (RemoveDir h n) rest = rest_again n rest
step_rest_again (Rename h n k m mode) rest = after_both n m rest

-- ---- one answer

pieces_again : (names : List (List ℕ)) (rest : List ℕ) → pieces_read (length names) (pieces_of names ++ rest) ≡ names
pieces_again [] rest = refl
pieces_again (n ∷ names) rest =
    ap (λ m. m ∷ pieces_read (length names) (drop (length n) ((n ++ pieces_of names) ++ rest))) (first_of_two n (pieces_of names) rest)
    ∙ ap (λ bs. n ∷ pieces_read (length names) bs) (after_first n (pieces_of names) rest)
    ∙ ap (λ ns. n ∷ ns) (pieces_again names rest)

pub answer_again : (v : Answer) (rest : List ℕ) → answer_read (answer_shape v) (answer_texts v ++ rest) ≡ v
answer_again (Opened h x kind) rest = refl
answer_again (Text text) rest = ap Text (front_again text rest)
answer_again (Names names) rest = ap Names (pieces_again names rest)
answer_again NotBelow rest = refl
answer_again (Listed names) rest = ap Listed (pieces_again names rest)
answer_again Done rest = refl
answer_again (Refused error) rest = refl

-- ---- one event

event_again_in : (own : List ℕ) (event : Event) (rest : List ℕ) → own ≡ event_texts event ++ rest
    → answer_read (answer_shape event.answer) (step_rest (step_shape event.step) own) ≡ event.answer
event_again_in own event rest e =
    let apart : own ≡ step_texts event.step ++ (answer_texts event.answer ++ rest) = e ∙ append_assoc (step_texts event.step) (answer_texts event.answer) rest in
    ap (λ bs. answer_read (answer_shape event.answer) (step_rest (step_shape event.step) bs)) apart
    ∙ ap (answer_read (answer_shape event.answer)) (step_rest_again event.step (answer_texts event.answer ++ rest))
    ∙ answer_again event.answer rest

step_again_in : (own : List ℕ) (event : Event) (rest : List ℕ) → own ≡ event_texts event ++ rest → step_read (step_shape event.step) own ≡ event.step
step_again_in own event rest e =
    let apart : own ≡ step_texts event.step ++ (answer_texts event.answer ++ rest) = e ∙ append_assoc (step_texts event.step) (answer_texts event.answer) rest in
    ap (step_read (step_shape event.step)) apart ∙ step_again event.step (answer_texts event.answer ++ rest)

pub event_made : (a : ℕ) (s t : StepWith ℕ) (v w : Answer) → s ≡ t → v ≡ w → (let r : Event = record { actor = a; step = s; answer = v } in r) ≡ (record { actor = a; step = t; answer = w })
event_made a s t v w e f =
    ap (λ x. let r : Event = record { actor = a; step = x; answer = v } in r) e
    ∙ ap (λ x. let r : Event = record { actor = a; step = t; answer = x } in r) f

pub event_again : (bytes : List ℕ) (start : ℕ) (event : Event) (rest : List ℕ) → drop start bytes ≡ event_texts event ++ rest
    → event_read bytes (record_of start event) ≡ event
event_again bytes start event rest e =
    event_made event.actor _ _ _ _ (step_again_in (drop start bytes) event rest e) (event_again_in (drop start bytes) event rest e)

-- ---- a log

pub events_again : (before : List ℕ) (events : List Event) (after : List ℕ)
    → events_read (before ++ (texts_of events ++ after)) (records_from (length before) events) ≡ events
events_again before [] after = refl
events_again before (event ∷ events) after =
    let own : drop (length before) (before ++ ((event_texts event ++ texts_of events) ++ after)) ≡ event_texts event ++ (texts_of events ++ after) =
    drop-append_seam before ((event_texts event ++ texts_of events) ++ after) ∙ append_assoc (event_texts event) (texts_of events) after in
    let whole : before ++ ((event_texts event ++ texts_of events) ++ after) ≡ (before ++ event_texts event) ++ (texts_of events ++ after) =
    ap (λ bs. before ++ bs) (append_assoc (event_texts event) (texts_of events) after) ∙ sym (append_assoc before (event_texts event) (texts_of events ++ after)) in
    ap (λ e. e ∷ events_read (before ++ ((event_texts event ++ texts_of events) ++ after)) (records_from (length before + length (event_texts event)) events))
    (event_again (before ++ ((event_texts event ++ texts_of events) ++ after)) (length before) event (texts_of events ++ after) own)
    ∙ ap (λ bs. event ∷ events_read bs (records_from (length before + length (event_texts event)) events)) whole
    ∙ ap (λ k. event ∷ events_read ((before ++ event_texts event) ++ (texts_of events ++ after)) (records_from k events)) (sym (length-append before (event_texts event)))
    ∙ ap (λ es. event ∷ es) (events_again (before ++ event_texts event) events after)

records_more : (start : ℕ) (events : List Event) (event : Event)
    → records_from start (events ++ event ∷ []) ≡ records_from start events ++ record_of (start + length (texts_of events)) event ∷ []
records_more start [] event = ap (λ k. record_of k event ∷ []) (omega arith)
records_more start (first ∷ events) event =
    let further : start + length (event_texts first) + length (texts_of events) ≡ start + length (event_texts first ++ texts_of events) =
    omega (arith, length-append (event_texts first) (texts_of events)) in
    ap (λ rs. record_of start first ∷ rs) (records_more (start + length (event_texts first)) events event)
    ∙ ap (λ k. record_of start first ∷ records_from (start + length (event_texts first)) events ++ record_of k event ∷ []) further

texts_more : (events : List Event) (event : Event) → texts_of (events ++ event ∷ []) ≡ texts_of events ++ event_texts event
texts_more [] event = append-nil (event_texts event)
texts_more (first ∷ events) event =
    ap (λ bs. event_texts first ++ bs) (texts_more events event) ∙ sym (append_assoc (event_texts first) (texts_of events) (event_texts event))

-- the records and the bytes after one more event are those of the events and one more
more_recorded : (bytes : List ℕ) (records : List Record) (event : Event) → IsLog bytes records
    → records ++ record_of (length bytes) event ∷ [] ≡ records_from 0 (events_read bytes records ++ event ∷ [])
more_recorded bytes records event h =
    let size : 0 + length (texts_of (events_read bytes records)) ≡ length bytes = omega (arith, ap length h.written) in
    ap (λ rs. rs ++ record_of (length bytes) event ∷ []) h.recorded
    ∙ ap (λ k. records_from 0 (events_read bytes records) ++ record_of k event ∷ []) (sym size)
    ∙ sym (records_more 0 (events_read bytes records) event)

more_written : (bytes : List ℕ) (records : List Record) (event : Event) → IsLog bytes records
    → bytes ++ event_texts event ≡ texts_of (events_read bytes records ++ event ∷ [])
more_written bytes records event h =
    ap (λ bs. bs ++ event_texts event) h.written ∙ sym (texts_more (events_read bytes records) event)

pub events_more : (bytes : List ℕ) (records : List Record) (event : Event) → IsLog bytes records
    → events_read (bytes ++ event_texts event) (records ++ record_of (length bytes) event ∷ []) ≡ events_read bytes records ++ event ∷ []
events_more bytes records event h =
    let events = events_read bytes records ++ event ∷ [] in
    ap (λ rs. events_read (bytes ++ event_texts event) rs) (more_recorded bytes records event h)
    ∙ ap (λ bs. events_read bs (records_from 0 events)) (more_written bytes records event h ∙ sym (append-nil (texts_of events)))
    ∙ events_again [] events []

pub log_more : (bytes : List ℕ) (records : List Record) (event : Event) → IsLog bytes records → HasNames event
    → IsLog (bytes ++ event_texts event) (records ++ record_of (length bytes) event ∷ [])
log_more bytes records event h named = record {
  recorded = more_recorded bytes records event h ∙ ap (records_from 0) (sym (events_more bytes records event h));
  written = more_written bytes records event h ∙ ap texts_of (sym (events_more bytes records event h));
  named = rw (events_more bytes records event h) (All-push HasNames (events_read bytes records) event h.named named);
}
