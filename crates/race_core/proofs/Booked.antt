-- One event more in a book.
use Rattle.std.proofs.Common.{◌≡◌, ℕ, suc, ◌+◌, ◌-◌, ◌≤◌, ◌<◌, List, [], ◌∷◌, ◌++◌, length, Option, Some, None, is_some, true, false, not, refl, sym, ap, ◌∙◌, arith}
use Rattle.std.proofs.lemmas.Bool.{false≢true}
use Rattle.std.proofs.lemmas.List.{length_push, append-nil}
use Rattle.tree_model.specs.declared.answer.Answer.{Answer}
use Rattle.tree_model.specs.declared.answer.Answer.TheVariants.{Opened, Text, Names, NotBelow, Listed, Done, Refused}
use Rattle.tree_model.specs.declared.answer.Event.{Event}
use Rattle.tree_model.specs.StepWith.{StepWith}
use Rattle.tree_model.specs.declared.step.StepOf.TheVariants.{Open, Dup, Parent, ReadLink, NameBelow, List as ListNames, Close, MakeDir, MakeFile, MakeLink, RemoveFile, RemoveDir, Rename}
use Rattle.tree_model.specs.Entries.{with_some}
use Rattle.tree_model.specs.History.{after_events}
use Rattle.tree_model.specs.State.{State, object_at, is_dir, names_below}
use Rattle.tree_model.specs.declared.inode.Object.{Object}
use Rattle.tree_model.specs.declared.inode.Object.TheVariants as object
use Rattle.path_text.specs.declared.errno.Errno.TheVariants.{BadHandle, NotDir}
use Rattle.tree_model.specs.StepLaws.{open_count, opened_count, closed_count, only_tells, is_on_entries}
use Rattle.tree_model.specs.Steps.{Outcome, outcome, held, reads, shows, refused}
use Rattle.tree_model.proofs.Outcomes.{Does, refuses, tells, opens_on, closes, changes_to, does}
use Rattle.tree_model.proofs.Refusals.{refuse_if-both, with_some-both}
use Rattle.tree_model.proofs.StepLaws.{telling_changes_nothing}
use Rattle.event_log.specs.Shapes.{step_texts, answer_texts}
use Rattle.tree_model.proofs.Counts.{handles_are_counted, tells-opened}
use Rattle.tree_model.proofs.HistoryLaws.{after_events-append, legal_goes_on}
use Rattle.race_core.specs.Book.{tree_now, free_lines, booked, is_close, lines_needed, IsBook}
use Rattle.race_core.specs.BookLaws.{FreeLinesNeverRise}

closed_few : (answer : Answer) (step : StepWith ℕ) → closed_count answer step ≤ 1
closed_few Done (Close h) = omega arith
closed_few Done (Open h n) = omega arith
closed_few Done (Dup h) = omega arith
closed_few Done (Parent h) = omega arith
closed_few Done (ReadLink h) = omega arith
closed_few Done (NameBelow r h) = omega arith
closed_few Done (ListNames h) = omega arith
closed_few Done (MakeDir h n) = omega arith
closed_few Done (MakeFile h n) = omega arith
closed_few Done (MakeLink h n text) = omega arith
closed_few Done (RemoveFile h n) = omega arith
closed_few Done (RemoveDir h n) = omega arith
closed_few Done (Rename h n k m mode) = omega arith
closed_few (Opened h x kind) step = omega arith
closed_few (Text text) step = omega arith
closed_few (Names names) step = omega arith
closed_few NotBelow step = omega arith
closed_few (Listed names) step = omega arith
closed_few (Refused error) step = omega arith

pub free_lines_never_rise : FreeLinesNeverRise
free_lines_never_rise book a step =
    let s = tree_now book in
    let event : Event = record { actor = a; step = step; answer = (outcome s a step).answer } in
    let after : tree_now (booked book a step) ≡ (outcome s a step).after = after_events-append book.opening book.events (event ∷ []) in
    let counted = (handles_are_counted s a step).1 in
    let few = closed_few (outcome s a step).answer step in
    omega (arith, counted, few, ap open_count after, length_push book.events event)

-- a step's event makes a book of a book, where its lines and its memory are had
pub book_more : (opening s after : State) (events more : List Event) (lines count counted room left : ℕ) (a : ℕ) (step : StepWith ℕ) (answer : Answer)
    → IsBook opening s events lines count room
    → answer ≡ (outcome s a step).answer → after ≡ (outcome s a step).after
    → more ≡ events ++ record { actor = a; step = step; answer = answer } ∷ []
    → counted + closed_count answer step ≡ count + opened_count answer
    → length events + 1 + counted ≤ lines → counted ≤ left
    → IsBook opening after more lines counted left
book_more opening s after events more lines count counted room left a step answer h is_answer is_after is_more is_counted in_lines in_room =
    let event : Event = record { actor = a; step = step; answer = answer } in
    let answered : answer ≡ (outcome (after_events opening events) a step).answer = is_answer ∙ ap (λ t. (outcome t a step).answer) h.current in
    let left_tree : after ≡ after_events opening (events ++ event ∷ []) =
    is_after ∙ ap (λ t. (outcome t a step).after) h.current ∙ sym (after_events-append opening events (event ∷ [])) in
    let counts = (handles_are_counted s a step).1 in
    let same_closed : closed_count answer step ≡ closed_count (outcome s a step).answer step = ap (λ v. closed_count v step) is_answer in
    let same_opened : opened_count answer ≡ opened_count (outcome s a step).answer = ap opened_count is_answer in
    record {
      legal = rw is_more ((legal_goes_on opening events event).1 (h.legal, answered));
      current = left_tree ∙ ap (after_events opening) (sym is_more);
      counted = omega (arith, is_counted, counts, same_closed, same_opened, h.counted, ap open_count is_after);
      in_lines = omega (arith, in_lines, ap length is_more, length_push events event);
      in_room = in_room;
      bounded = h.bounded;
    }

-- ---- the lines that a step needs are enough for its event, and for the Close of what it opens

pub opened_few : (answer : Answer) → opened_count answer ≤ 1
opened_few (Opened h x kind) = omega arith
opened_few (Text text) = omega arith
opened_few (Names names) = omega arith
opened_few NotBelow = omega arith
opened_few (Listed names) = omega arith
opened_few Done = omega arith
opened_few (Refused error) = omega arith

entries_open_none : {s : State} {a : ℕ} {step : StepWith ℕ} {o : Outcome} → is_on_entries step ≡ true → Does s a step o → opened_count o.answer ≡ 0
entries_open_none e (refuses error) = refl
entries_open_none e (tells answer t) = tells-opened answer t
entries_open_none e (opens_on x what e1 e2 e3) = absurd (false≢true (sym e1 ∙ e))
entries_open_none e (closes h x e1) = refl
entries_open_none e (changes_to nodes e1 changed) = refl

abbrev OpensNone : Outcome → Type 0
OpensNone o = opened_count o.answer ≡ 0

reads_none : (s : State) (o : Option Object) → OpensNone (reads s o)
reads_none s None = refl
reads_none s (Some object.Dir) = refl
reads_none s (Some object.File) = refl
reads_none s (Some (object.Link text)) = refl

shows_none : (s : State) (o : Option (List (List ℕ))) → OpensNone (shows s o)
shows_none s None = refl
shows_none s (Some names) = refl

on_entries : (s : State) (a : ℕ) (step : StepWith ℕ) → is_on_entries step ≡ true → 1 + opened_count (outcome s a step).answer ≤ 1
on_entries s a step e = omega (arith, entries_open_none e (does s a step))

pub lines_are_enough : (s : State) (a : ℕ) (step : StepWith ℕ) → is_close step ≡ false → 1 + opened_count (outcome s a step).answer ≤ lines_needed step
lines_are_enough s a (Open h n) e = omega (arith, opened_few (outcome s a (Open h n)).answer)
lines_are_enough s a (Dup h) e = omega (arith, opened_few (outcome s a (Dup h)).answer)
lines_are_enough s a (Parent h) e = omega (arith, opened_few (outcome s a (Parent h)).answer)
lines_are_enough s a (ReadLink h) e =
    let none : OpensNone (outcome s a (ReadLink h)) = with_some-both OpensNone (held s a h) (refused s BadHandle) _ refl (λ x q. reads_none s (object_at s.nodes x)) in
    omega (arith, none)
lines_are_enough s a (NameBelow r h) e =
    let none : OpensNone (outcome s a (NameBelow r h)) =
    with_some-both OpensNone (held s a r) (refused s BadHandle) _ refl (λ top q.
    with_some-both OpensNone (held s a h) (refused s BadHandle) _ refl (λ x q. shows_none s (names_below s.nodes top x))) in
    omega (arith, none)
lines_are_enough s a (ListNames h) e =
    let none : OpensNone (outcome s a (ListNames h)) =
    with_some-both OpensNone (held s a h) (refused s BadHandle) _ refl (λ d q. refuse_if-both OpensNone (not (is_dir s.nodes d)) (refused s NotDir) _ refl (λ q. refl)) in
    omega (arith, none)
lines_are_enough s a (Close h) e = absurd (false≢true (sym e))
lines_are_enough s a (MakeDir h n) e = on_entries s a (MakeDir h n) refl
lines_are_enough s a (MakeFile h n) e = on_entries s a (MakeFile h n) refl
lines_are_enough s a (MakeLink h n text) e = on_entries s a (MakeLink h n text) refl
lines_are_enough s a (RemoveFile h n) e = on_entries s a (RemoveFile h n) refl
lines_are_enough s a (RemoveDir h n) e = on_entries s a (RemoveDir h n) refl
lines_are_enough s a (Rename h n k m mode) e = on_entries s a (Rename h n k m mode) refl

pub not_closed : (answer : Answer) (step : StepWith ℕ) → is_close step ≡ false → closed_count answer step ≡ 0
not_closed Done (Close h) e = absurd (false≢true (sym e))
not_closed Done (Open h n) e = refl
not_closed Done (Dup h) e = refl
not_closed Done (Parent h) e = refl
not_closed Done (ReadLink h) e = refl
not_closed Done (NameBelow r h) e = refl
not_closed Done (ListNames h) e = refl
not_closed Done (MakeDir h n) e = refl
not_closed Done (MakeFile h n) e = refl
not_closed Done (MakeLink h n text) e = refl
not_closed Done (RemoveFile h n) e = refl
not_closed Done (RemoveDir h n) e = refl
not_closed Done (Rename h n k m mode) e = refl
not_closed (Opened h x kind) step e = refl
not_closed (Text text) step e = refl
not_closed (Names names) step e = refl
not_closed NotBelow step e = refl
not_closed (Listed names) step e = refl
not_closed (Refused error) step e = refl

-- ---- the three ways on

left_by : (s : State) (o : Option ℕ) (done : ℕ → Outcome) → is_some o ≡ false → (with_some o (refused s BadHandle) done).after ≡ s
left_by s None done e = refl
left_by s (Some x) done e = absurd (false≢true (sym e))

done_by : (s : State) (o : Option ℕ) (done : ℕ → Outcome) → ((x : ℕ) → (done x).answer ≡ Done) → is_some o ≡ true → (with_some o (refused s BadHandle) done).answer ≡ Done
done_by s None done e q = absurd (false≢true q)
done_by s (Some x) done e q = e x

pub close_leaves : (s : State) (a h : ℕ) → is_some (held s a h) ≡ false → (outcome s a (Close h)).after ≡ s
close_leaves s a h e = left_by s (held s a h) _ e

pub close_done : (s : State) (a h : ℕ) → is_some (held s a h) ≡ true → (outcome s a (Close h)).answer ≡ Done
close_done s a h e = done_by s (held s a h) _ (λ x. refl) e

-- a handle was closed: there was one
pub close_frees : (opening s : State) (events : List Event) (lines count room a h : ℕ) → IsBook opening s events lines count room
    → is_some (held s a h) ≡ true → (0 < count) × (0 < room)
close_frees opening s events lines count room a h b is_held =
    let counts = (handles_are_counted s a (Close h)).1 in
    let closed : closed_count (outcome s a (Close h)).answer (Close h) ≡ 1 = ap (λ v. closed_count v (Close h)) (close_done s a h is_held) in
    let opened : opened_count (outcome s a (Close h)).answer ≡ 0 = ap opened_count (close_done s a h is_held) in
    (omega (arith, counts, closed, opened, b.counted), omega (arith, counts, closed, opened, b.counted, b.in_room))

pub book_closed : (opening s after : State) (events more : List Event) (lines count room left a h : ℕ) → IsBook opening s events lines count room
    → is_some (held s a h) ≡ true → after ≡ (outcome s a (Close h)).after
    → more ≡ events ++ record { actor = a; step = Close h; answer = Done } ∷ [] → room ≡ suc left
    → IsBook opening after more lines (count - 1) left
book_closed opening s after events more lines count room left a h b is_held is_after is_more is_room =
    let some = (close_frees opening s events lines count room a h b is_held).0 in
    book_more opening s after events more lines count (count - 1) room left a (Close h) Done b (sym (close_done s a h is_held)) is_after is_more
    (omega (arith, some)) (omega (arith, some, b.in_lines)) (omega (arith, is_room, b.in_room))

pub book_unclosed : (opening s after : State) (events : List Event) (lines count room a h : ℕ) → IsBook opening s events lines count room
    → is_some (held s a h) ≡ false → after ≡ (outcome s a (Close h)).after → IsBook opening after events lines count room
book_unclosed opening s after events lines count room a h b not_held is_after =
    let same : after ≡ s = is_after ∙ close_leaves s a h not_held in
    rw same b

-- another step was made
pub book_made : (opening s after : State) (events more : List Event) (lines count count_opened room left a : ℕ) (step : StepWith ℕ) (answer : Answer) → IsBook opening s events lines count room
    → is_close step ≡ false → lines_needed step ≤ free_lines (record { opening = opening; events = events; lines = lines })
    → answer ≡ (outcome s a step).answer → after ≡ (outcome s a step).after
    → more ≡ events ++ record { actor = a; step = step; answer = answer } ∷ []
    → count_opened ≡ opened_count answer → count + 2 ≤ suc left
    → IsBook opening after more lines (count + count_opened) left
book_made opening s after events more lines count count_opened room left a step answer b no_close free is_answer is_after is_more is_opened is_left =
    let enough = lines_are_enough s a step no_close in
    let few = opened_few answer in
    let held_open : count ≡ open_count (after_events opening events) = b.counted ∙ ap open_count b.current in
    let same : opened_count answer ≡ opened_count (outcome s a step).answer = ap opened_count is_answer in
    book_more opening s after events more lines count (count + count_opened) room left a step answer b is_answer is_after is_more
    (omega (arith, is_opened, not_closed answer step no_close)) (omega (arith, free, enough, same, is_opened, held_open)) (omega (arith, is_opened, few, is_left))

-- an answer without names and texts in the log, or one that leaves the tree
bare_or_telling : (answer : Answer) → (answer_texts answer ≡ [] → ⊥) → only_tells answer ≡ true
bare_or_telling (Opened h x kind) e = absurd (e refl)
bare_or_telling (Text text) e = refl
bare_or_telling (Names names) e = refl
bare_or_telling NotBelow e = absurd (e refl)
bare_or_telling (Listed names) e = refl
bare_or_telling Done e = absurd (e refl)
bare_or_telling (Refused error) e = absurd (e refl)

-- a log with room for a step's names and text had none for the event's: its answer has some
pub not_bare : (step : StepWith ℕ) (answer : Answer) (room text_room : ℕ) (is_ok : Type 0) → 0 < room → length (step_texts step) ≤ text_room → (is_ok → ⊥)
    → (0 < room → length (step_texts step ++ answer_texts answer) ≤ text_room → is_ok) → answer_texts answer ≡ [] → ⊥
not_bare step answer room text_room is_ok some fits refused would e =
    let same : length (step_texts step ++ answer_texts answer) ≡ length (step_texts step) = ap (λ bs. length (step_texts step ++ bs)) e ∙ ap length (append-nil (step_texts step)) in
    refused (would some (omega (arith, same, fits)))

-- the step was made, and its answer found no memory: it changed nothing
pub book_stays : (opening s after : State) (events more : List Event) (lines count room left a : ℕ) (step : StepWith ℕ) (answer : Answer) → IsBook opening s events lines count room
    → answer ≡ (outcome s a step).answer → after ≡ (outcome s a step).after → (answer_texts answer ≡ [] → ⊥) → more ≡ events → count ≤ left
    → IsBook opening after more lines count left
book_stays opening s after events more lines count room left a step answer b is_answer is_after not_bare is_more is_left =
    let telling : only_tells (outcome s a step).answer ≡ true = ap only_tells (sym is_answer) ∙ bare_or_telling answer not_bare in
    let same : after ≡ s = is_after ∙ telling_changes_nothing s a step telling in
    record {
      legal = rw is_more b.legal;
      current = same ∙ b.current ∙ ap (after_events opening) (sym is_more);
      counted = b.counted ∙ ap open_count (sym same);
      in_lines = omega (arith, b.in_lines, ap length is_more);
      in_room = is_left;
      bounded = b.bounded;
    }
