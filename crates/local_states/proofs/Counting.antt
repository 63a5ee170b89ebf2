-- One event more is counted: what it adds to what actors change outside of their roots.
use Rattle.std.specs.Prelude.{◌≡◌, ◌≤◌, ◌<◌, ◌+◌, ℕ, zero, suc, List, [], ◌∷◌, ◌++◌, ◌==◌, ◌&&◌, Bool, true, false, Option, Some, None, Result, Ok, Err, length, nat_lt, slice_get, slice_index_or, refl}
use Rattle.std.proofs.Common.{sym, ap, ◌∙◌, subst, take, get_or, arith}
use Rattle.std.proofs.lemmas.Bool.{true≢false}
use Rattle.std.proofs.lemmas.Option.{same_Some}
use Rattle.std.proofs.lemmas.Bool.Decides.{nat_tests}
use Rattle.std.proofs.lemmas.List.{length-take-le, length_push}
use Rattle.path_text.specs.declared.errno.Errno.{Errno}
use Rattle.path_text.specs.declared.errno.Errno.TheVariants.{BadHandle}
use Rattle.tree_model.specs.declared.answer.Event.{Event}
use Rattle.tree_model.specs.declared.inode.Inode.{Inode}
use Rattle.tree_model.specs.StepWith.{StepWith}
use Rattle.tree_model.specs.declared.step.StepOf.TheVariants as steps
use Rattle.tree_model.specs.Entries.{with_some}
use Rattle.tree_model.specs.History.{after_event, after_events}
use Rattle.tree_model.specs.State.{State}
use Rattle.tree_model.specs.StepLaws.{only_tells, is_on_entries}
use Rattle.tree_model.specs.Steps.{Outcome, refused, held, changes, outcome}
use Rattle.tree_model.proofs.StepLaws.{telling_changes_nothing, nodes_are_left, handles_are_left}
use Rattle.layered_search.proofs.Places.{within_some, get_last, few_plus, take_push}
use Rattle.race_core.specs.declared.seat.Seat.{Seat}
use Rattle.race_core.specs.Book.{BookedHistory, tree_now, is_done, answer_now, booked}
use Rattle.local_states.specs.Outside.{plus, changed_by, any_outside, acts_outside, outside_after, outside_from, roots_from, roots_of, outside_of}
use Rattle.race_core.specs.Renamed.{seat_handles}
use Rattle.race_core.specs.Turns.{Luck}
use Rattle.race_core.specs.Worlds.{WorldView, turn}
use Rattle.race_core.proofs.BookMoves.{tree_booked}
use Rattle.local_states.specs.Counting.{TallyView, IsCounted, IsTally, bumped, IsLatest}
use Rattle.local_states.proofs.Alike.OutsideAlike.{after_push, IsOneOn, as_it_was, one_more, turn_books, roots_stay}

-- ---- no more changes than events

pub few_outside : (a : ℕ) (root : Option ℕ) (s : State) (events : List Event)
    → outside_after a root s events ≤ length events
few_outside a root s [] = omega arith
few_outside a root s (event ∷ events) =
    few_plus ((event.actor == a) && acts_outside root s event) (outside_after a root (after_event s event) events)
    (length events)
    (few_outside a root (after_event s event) events)

pub few_counts : (book : BookedHistory) (k : ℕ) (roots : List (Option ℕ)) (i : ℕ)
    → slice_index_or (outside_from book k roots) i 0 ≤ length book.events
few_counts book k [] zero = omega arith
few_counts book k [] (suc i) = omega arith
few_counts book k (root ∷ roots) zero = few_outside k root book.opening book.events
few_counts book k (root ∷ roots) (suc i) = few_counts book (suc k) roots i

pub counts_long : (book : BookedHistory) (k : ℕ) (roots : List (Option ℕ))
    → length (outside_from book k roots) ≡ length roots
counts_long book k [] = refl
counts_long book k (root ∷ roots) = ap suc (counts_long book (suc k) roots)

-- ---- who is counted

differ : (a k : ℕ) → a < k → (a == k) ≡ false
differ a k lt = grind (arith, nat_tests)

beyond : (a k i : ℕ) → a ≡ k + suc i → (a == k) ≡ false
beyond a k i e = grind (arith, nat_tests)

own : (a k : ℕ) → a ≡ k + 0 → (a == k) ≡ true
own a k e = grind (arith, nat_tests)

plus_not : (b c : Bool) (n : ℕ) → b ≡ false → plus (b && c) n ≡ n
plus_not b c n e = ap (λ d. plus (d && c) n) e

pub bumped_none : (b : Bool) (i : ℕ) → bumped b i [] ≡ []
bumped_none true i = refl
bumped_none false i = refl

pub bumped_first : (b : Bool) (n : ℕ) (rest : List ℕ) → bumped b 0 (n ∷ rest) ≡ plus b n ∷ rest
bumped_first true n rest = refl
bumped_first false n rest = refl

pub bumped_next : (b : Bool) (i n : ℕ) (rest : List ℕ) → bumped b (suc i) (n ∷ rest) ≡ n ∷ bumped b i rest
bumped_next true i n rest = refl
bumped_next false i n rest = refl

-- ---- changes that weren't made

and_true : (b c : Bool) → c ≡ true → (b && c) ≡ b
and_true true c e = e
and_true false c e = refl

and_first : (b c : Bool) → (b && c) ≡ true → b ≡ true
and_first true c e = refl
and_first false c e = absurd (true≢false (sym e))

and_second : (b c : Bool) → (b && c) ≡ true → c ≡ true
and_second true c e = e
and_second false c e = absurd (true≢false (sym e))

changes_tell : (s : State) (r : Result (List Inode) Errno) → is_done (changes s r).answer ≡ false
    → only_tells (changes s r).answer ≡ true
changes_tell s (Ok nodes) e = absurd (true≢false e)
changes_tell s (Err error) e = refl

on_tells : (s : State) (d : Option ℕ) (go : ℕ → Outcome)
    → ((x : ℕ) → is_done (go x).answer ≡ false → only_tells (go x).answer ≡ true)
    → is_done (with_some d (refused s BadHandle) go).answer ≡ false
    → only_tells (with_some d (refused s BadHandle) go).answer ≡ true
on_tells s None go each e = refl
on_tells s (Some x) go each e = each x e

entries_tell : (s : State) (a : ℕ) (x : StepWith ℕ) → is_on_entries x ≡ true → is_done (outcome s a x).answer ≡ false
    → only_tells (outcome s a x).answer ≡ true
entries_tell s a (steps.MakeDir h n) e f = on_tells s (held s a h) _ (λ d. changes_tell s _) f
entries_tell s a (steps.MakeFile h n) e f = on_tells s (held s a h) _ (λ d. changes_tell s _) f
entries_tell s a (steps.MakeLink h n text) e f = on_tells s (held s a h) _ (λ d. changes_tell s _) f
entries_tell s a (steps.RemoveFile h n) e f = on_tells s (held s a h) _ (λ d. changes_tell s _) f
entries_tell s a (steps.RemoveDir h n) e f = on_tells s (held s a h) _ (λ d. changes_tell s _) f
entries_tell s a (steps.Rename h n k m mode) e f =
    on_tells s (held s a h) _ (λ d. on_tells s (held s a k) _ (λ f. changes_tell s _)) f
entries_tell s a (steps.Open h n) e f = absurd (true≢false (sym e))
entries_tell s a (steps.Dup h) e f = absurd (true≢false (sym e))
entries_tell s a (steps.Parent h) e f = absurd (true≢false (sym e))
entries_tell s a (steps.ReadLink h) e f = absurd (true≢false (sym e))
entries_tell s a (steps.NameBelow r h) e f = absurd (true≢false (sym e))
entries_tell s a (steps.List h) e f = absurd (true≢false (sym e))
entries_tell s a (steps.Close h) e f = absurd (true≢false (sym e))

-- ---- one event more

module _ (b : BookedHistory) (a : ℕ) (x : StepWith ℕ) where
  abbrev pub latest : Event
  latest = record { actor = a; step = x; answer = answer_now b a x }

  -- actors after that one
  later : (k : ℕ) (roots : List (Option ℕ)) → a < k → outside_from (booked b a x) k roots ≡ outside_from b k roots
  later k [] lt = refl
  later k (root ∷ roots) lt =
      let first = after_push k root b.opening b.events latest
      ∙ plus_not (a == k) (acts_outside root (tree_now b) latest) (outside_after k root b.opening b.events)
      (differ a k lt) in
      let rest = later (suc k) roots (omega arith) in
      λ i. first i ∷ rest i

  -- whether it is outside of its actor's root is added to that actor's count
  pub counted_more : (k i : ℕ) (roots : List (Option ℕ)) → a ≡ k + i
      → outside_from (booked b a x) k roots ≡ bumped (acts_outside (slice_index_or roots i None) (tree_now b) latest) i
      (outside_from b k roots)
  counted_more k i [] e = sym (bumped_none (acts_outside (slice_index_or [] i None) (tree_now b) latest) i)
  counted_more k zero (root ∷ roots) e =
      let acts = acts_outside root (tree_now b) latest in
      let first = after_push k root b.opening b.events latest
      ∙ ap (λ own. plus (own && acts) (outside_after k root b.opening b.events)) (own a k e) in
      let rest = later (suc k) roots (omega (arith, e)) in
      (λ i. first i ∷ rest i)
      ∙ sym (bumped_first acts (outside_after k root b.opening b.events) (outside_from b (suc k) roots))
  counted_more k (suc i) (root ∷ roots) e =
      let acts = acts_outside (slice_index_or roots i None) (tree_now b) latest in
      let first = after_push k root b.opening b.events latest
      ∙ plus_not (a == k) (acts_outside root (tree_now b) latest) (outside_after k root b.opening b.events)
      (beyond a k i e) in
      let rest = counted_more (suc k) i roots (omega (arith, e)) in
      (λ j. first j ∷ rest j)
      ∙ sym (bumped_next acts i (outside_after k root b.opening b.events) (outside_from b (suc k) roots))

  -- ---- the tree

  pub handles_stay : is_on_entries x ≡ true → (tree_now (booked b a x)).handles ≡ (tree_now b).handles
  handles_stay e = ap (λ (s : State). s.handles) (tree_booked b a x) ∙ handles_are_left (tree_now b) a x e

  pub nodes_stay : (is_done (answer_now b a x) && is_on_entries x) ≡ false
      → (tree_now (booked b a x)).nodes ≡ (tree_now b).nodes
  nodes_stay e = ap (λ (s : State). s.nodes) (tree_booked b a x) ∙ by (is_on_entries x) refl
    where
      by : (on : Bool) → is_on_entries x ≡ on → (outcome (tree_now b) a x).after.nodes ≡ (tree_now b).nodes
      by false f = nodes_are_left (tree_now b) a x f
      by true f =
          ap (λ (s : State). s.nodes) (telling_changes_nothing (tree_now b) a x (entries_tell (tree_now b) a x f
          (sym (and_true (is_done (answer_now b a x)) (is_on_entries x) f) ∙ e)))

-- ---- whether an event is one

pub none_changed : (x : StepWith ℕ) → is_on_entries x ≡ false → changed_by x ≡ []
none_changed (steps.MakeDir h n) e = absurd (true≢false e)
none_changed (steps.MakeFile h n) e = absurd (true≢false e)
none_changed (steps.MakeLink h n text) e = absurd (true≢false e)
none_changed (steps.RemoveFile h n) e = absurd (true≢false e)
none_changed (steps.RemoveDir h n) e = absurd (true≢false e)
none_changed (steps.Rename h n k m mode) e = absurd (true≢false e)
none_changed (steps.Open h n) e = refl
none_changed (steps.Dup h) e = refl
none_changed (steps.Parent h) e = refl
none_changed (steps.ReadLink h) e = refl
none_changed (steps.NameBelow r h) e = refl
none_changed (steps.List h) e = refl
none_changed (steps.Close h) e = refl

-- an event that is no change, or isn't made, is none
pub no_change : (root : Option ℕ) (s : State) (event : Event)
    → (is_done event.answer && is_on_entries event.step) ≡ false → acts_outside root s event ≡ false
no_change root s event e = by (is_on_entries event.step) refl
  where
    and_false : (b : Bool) → (b && false) ≡ false
    and_false true = refl
    and_false false = refl

    by : (on : Bool) → is_on_entries event.step ≡ on → acts_outside root s event ≡ false
    by false f =
        ap (λ hs. is_done event.answer && any_outside s root event.actor hs) (none_changed event.step f)
        ∙ and_false (is_done event.answer)
    by true f =
        ap (λ b. b && any_outside s root event.actor (changed_by event.step))
        (sym (and_true (is_done event.answer) (is_on_entries event.step) f) ∙ e)

-- ---- an event is counted

-- the event at the end of the book
last_is : (before book : BookedHistory) (latest : IsLatest before book) (at : ℕ) (event : Event)
    → at ≡ length before.events → slice_get book.events at ≡ Some event
    → event ≡ record { actor = latest.actor; step = latest.step; answer = answer_now before latest.actor latest.step }
last_is before book latest at event e there =
    let last : Event = record
    { actor = latest.actor; step = latest.step; answer = answer_now before latest.actor latest.step } in
    sym (same_Some last event
    (sym (get_last before.events last) ∙ ap (λ n. slice_get (before.events ++ last ∷ []) n) (sym e)
    ∙ ap (λ (b : BookedHistory). slice_get b.events at) (sym latest.is) ∙ there))

pub count_room : (before : BookedHistory) (tally : TallyView) (at i : ℕ) → IsCounted before tally
    → at ≡ length before.events → slice_index_or tally.counts i 0 ≤ at
count_room before tally at i counted e =
    let few = few_counts before 0 tally.roots i in
    subst (λ counts. slice_index_or counts i 0 ≤ at) (sym counted.counts_are) (omega (arith, few, e))

pub count_none : (before book : BookedHistory) (latest : IsLatest before book) (tally : TallyView) (at : ℕ)
    (event : Event) → IsCounted before tally
    → at ≡ length before.events → slice_get book.events at ≡ Some event
    → (is_done event.answer && is_on_entries event.step) ≡ false → IsCounted book tally
count_none before book latest tally at event counted e there none =
    let last : Event = record
    { actor = latest.actor; step = latest.step; answer = answer_now before latest.actor latest.step } in
    let is : event ≡ last = last_is before book latest at event e there in
    let none' : (is_done last.answer && is_on_entries last.step) ≡ false =
    ap (λ (x : Event). is_done x.answer && is_on_entries x.step) (sym is) ∙ none in
    subst (λ (b : BookedHistory). IsCounted b tally) (sym latest.is) (record {
      counts_are =
          counted.counts_are
          ∙ sym (counted_more before latest.actor latest.step 0 latest.actor tally.roots (omega arith)
          ∙ ap (λ b. bumped b latest.actor (outside_from before 0 tally.roots))
          (no_change (slice_index_or tally.roots latest.actor None) (tree_now before) last none'));
      nodes_are = λ told. counted.nodes_are told ∙ sym (nodes_stay before latest.actor latest.step none');
    })

pub count_change : (before book : BookedHistory) (latest : IsLatest before book) (tally new : TallyView) (at : ℕ)
    (event : Event) (after : State) (outside : Bool)
    → tally.told ≡ true → IsCounted before tally → at ≡ length before.events → slice_get book.events at ≡ Some event
    → (is_done event.answer && is_on_entries event.step) ≡ true → after ≡ tree_now book
    → outside ≡ any_outside (record { nodes = tally.nodes; handles = after.handles })
    (slice_index_or tally.roots event.actor None) event.actor (changed_by event.step)
    → new.roots ≡ tally.roots → new.counts ≡ bumped outside event.actor tally.counts → new.nodes ≡ after.nodes
    → IsCounted book new
count_change before book latest tally new at event after outside told counted e there change is_after is_outside roots
    counts nodes =
    record {
      counts_are =
          counts
          ∙ (λ i. bumped (all_outside i) (is_actor i) (counted.counts_are i))
          ∙ sym (counted_more before latest.actor latest.step 0 latest.actor tally.roots (omega arith))
          ∙ (let books = sym latest.is in let same = sym roots in λ i. outside_from (books i) 0 (same i));
      nodes_are = λ _. nodes ∙ ap (λ (s : State). s.nodes) is_after;
    }
  where
    last : Event
    last = record { actor = latest.actor; step = latest.step; answer = answer_now before latest.actor latest.step }

    is : event ≡ last
    is = last_is before book latest at event e there

    is_actor : event.actor ≡ latest.actor
    is_actor = ap (λ (x : Event). x.actor) is

    change' : (is_done last.answer && is_on_entries last.step) ≡ true
    change' = ap (λ (x : Event). is_done x.answer && is_on_entries x.step) (sym is) ∙ change

    handles : after.handles ≡ (tree_now before).handles
    handles =
        ap (λ (s : State). s.handles) is_after ∙ ap (λ (b : BookedHistory). (tree_now b).handles) latest.is
        ∙ handles_stay before latest.actor latest.step
        (and_second (is_done last.answer) (is_on_entries last.step) change')

    all_outside : outside ≡ acts_outside (slice_index_or tally.roots latest.actor None) (tree_now before) last
    all_outside =
        is_outside
        ∙ (λ i. any_outside (record { nodes = counted.nodes_are told i; handles = handles i })
        (slice_index_or tally.roots (is i).actor None) (is i).actor (changed_by (is i).step))
        ∙ ap (λ b. b && any_outside (tree_now before) (slice_index_or tally.roots latest.actor None) latest.actor
        (changed_by latest.step))
        (sym (and_first (is_done last.answer) (is_on_entries last.step) change'))

-- ---- a turn is counted

-- the turn made no step
pub follow_same : (before after : WorldView) (luck : Luck) (i : ℕ) (tally : TallyView) → IsTally before tally
    → after ≡ turn luck before i
    → length after.book.events ≡ length before.book.events → IsTally after tally
follow_same before after luck i tally is turned same =
    subst (λ (w : WorldView). IsTally w tally) (sym turned) (record {
      roots_are = is.roots_are ∙ sym (roots_stay tally.told luck before i);
      counted = subst (λ (b : BookedHistory). IsCounted b tally)
          (sym (by (turn luck before i).book (turn_books luck before i)
          (ap (λ (w : WorldView). length w.book.events) (sym turned) ∙ same))) is.counted;
    })
  where
    by : (book : BookedHistory) → IsOneOn before.book book → length book.events ≡ length before.book.events
        → book ≡ before.book
    by book as_it_was e = refl
    by book (one_more a step) e =
        let long = length_push before.book.events
        (record { actor = a; step = step; answer = answer_now before.book a step }) in
        absurd (omega (arith, long, e))

-- the turn made one
pub follow_one : (before after : WorldView) (luck : Luck) (i : ℕ) → after ≡ turn luck before i
    → (length after.book.events ≡ length before.book.events → ⊥)
    → IsLatest before.book after.book × (length after.book.events ≡ length before.book.events + 1)
follow_one before after luck i turned other =
    subst (λ (w : WorldView). IsLatest before.book w.book × (length w.book.events ≡ length before.book.events + 1))
    (sym turned)
    (by (turn luck before i).book (turn_books luck before i)
    (λ e. other (ap (λ (w : WorldView). length w.book.events) turned ∙ e)))
  where
    by : (book : BookedHistory) → IsOneOn before.book book → (length book.events ≡ length before.book.events → ⊥)
        → IsLatest before.book book × (length book.events ≡ length before.book.events + 1)
    by book as_it_was e = absurd (e refl)
    by book (one_more a step) e = (
      record { actor = a; step = step; is = refl },
      length_push before.book.events (record { actor = a; step = step; answer = answer_now before.book a step }),
    )

pub follow_tally : (before after : WorldView) (luck : Luck) (i : ℕ) (old new : TallyView) → IsTally before old
    → after ≡ turn luck before i
    → new.told ≡ old.told → new.roots ≡ old.roots → IsCounted after.book new → IsTally after new
follow_tally before after luck i old new is turned told roots counted = record {
  roots_are = roots ∙ is.roots_are ∙ sym (roots_stay old.told luck before i)
      ∙ (λ i. roots_of (sym told i) (sym turned i));
  counted = counted;
}

-- ---- a tally

-- the counts of a world's tally are the world's
pub counts_there : (w : WorldView) (tally : TallyView) (counts : List ℕ) → IsTally w tally → counts ≡ tally.counts
    → counts ≡ outside_of tally.told w
counts_there w tally counts is e = e ∙ is.counted.counts_are ∙ ap (λ roots. outside_from w.book 0 roots) is.roots_are

roots_push : (s : State) (a m : ℕ) (seats : List Seat) (seat : Seat) → m ≡ a + length seats
    → roots_from s a (seats ++ seat ∷ []) ≡ roots_from s a seats ++ held s m seat.ledger.root.handle ∷ []
roots_push s a m [] seat e = let same : a ≡ m = omega (arith, e) in ap (λ k. held s k seat.ledger.root.handle ∷ []) same
roots_push s a m (first ∷ seats) seat e =
    ap (λ rest. held s a first.ledger.root.handle ∷ rest) (roots_push s (suc a) m seats seat (omega (arith, e)))

counts_push : (book : BookedHistory) (a : ℕ) (roots : List (Option ℕ)) (root : Option ℕ) → book.events ≡ []
    → outside_from book a (roots ++ root ∷ []) ≡ outside_from book a roots ++ 0 ∷ []
counts_push book a [] root none = ap (λ events. outside_after a root book.opening events ∷ []) none
counts_push book a (first ∷ roots) root none =
    ap (λ rest. outside_after a first book.opening book.events ∷ rest) (counts_push book (suc a) roots root none)

-- of a world without a step: one actor more
pub roots_more : (w : WorldView) (opening : State) (n : ℕ) (old new : List (Option ℕ)) (root : Option ℕ)
    → opening ≡ tree_now w.book → w.book.events ≡ []
    → n < length w.seats → new ≡ old ++ root ∷ []
    → ((seat : Seat) → slice_get w.seats n ≡ Some seat → root ≡ held opening n seat.ledger.root.handle)
    → old ≡ roots_from w.book.opening 0 (take n w.seats) → new ≡ roots_from w.book.opening 0 (take (n + 1) w.seats)
roots_more w opening n old new root opens none lt is own was =
    let seat = within_some w.seats n lt in
    let up : suc n ≡ n + 1 = omega arith in
    let tree : opening ≡ w.book.opening = opens ∙ ap (λ events. after_events w.book.opening events) none in
    is ∙ (λ i. was i ++ (own seat.0 seat.1 ∙ ap (λ s. held s n seat.0.ledger.root.handle) tree) i ∷ [])
    ∙ sym (roots_push w.book.opening 0 n (take n w.seats) seat.0
    (let long = length-take-le n w.seats (omega (arith, lt)) in omega (arith, long)))
    ∙ ap (λ seats. roots_from w.book.opening 0 seats)
    (sym (take_push w.seats n seat.0 seat.1) ∙ ap (λ (k : ℕ). take k w.seats) up)

pub counts_more : (book : BookedHistory) (old new : List (Option ℕ)) (root : Option ℕ) (counts after : List ℕ)
    → book.events ≡ [] → new ≡ old ++ root ∷ []
    → after ≡ counts ++ 0 ∷ [] → counts ≡ outside_from book 0 old → after ≡ outside_from book 0 new
counts_more book old new root counts after none is then was =
    then ∙ ap (λ xs. xs ++ 0 ∷ []) was ∙ sym (counts_push book 0 old root none)
    ∙ ap (λ roots. outside_from book 0 roots) (sym is)

-- an actor's first handle is its root's
pub first_is : (handles : List ℕ) (h : ℕ) (seat : Seat) → handles ≡ seat_handles seat → h ≡ get_or handles 0 h
    → h ≡ seat.ledger.root.handle
first_is handles h seat are is = is ∙ ap (λ hs. get_or hs 0 h) are

nat_some : (n : ℕ) → nat_lt 0 (suc n) ≡ true
nat_some n = grind (arith, nat_tests)

none_cons : (y : ℕ) (ys hs : List ℕ) → hs ≡ y ∷ ys → false ≡ nat_lt 0 (length hs) → ⊥
none_cons y ys hs e none = true≢false (sym (nat_some (length ys)) ∙ sym (none ∙ ap (λ xs. nat_lt 0 (length xs)) e))

pub none_first : (handles : List ℕ) (seat : Seat) → handles ≡ seat_handles seat → false ≡ nat_lt 0 (length handles) → ⊥
none_first handles seat are none = none_cons _ _ handles are none
