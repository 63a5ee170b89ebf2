-- What one turn leaves as it was, and by how much the rest grows.
use Rattle.std.specs.Prelude.{◌≡◌, ◌<◌, ℕ, zero, suc, ◌+◌, List, [], ◌∷◌, ◌&&◌, Bool, true, false, length, nat_lt, Some, None, slice_index_or, refl}
use Rattle.std.specs.Int.{from_bool}
use Rattle.std.proofs.Common.{sym, ap, ◌∙◌, subst, length-append, length-set, arith}
use Rattle.std.proofs.lemmas.Bool.{true≢false}
use Rattle.std.proofs.lemmas.Bool.Decides.{nat_tests}
use Rattle.std.proofs.lemmas.List.{length_push}
use Rattle.tree_model.specs.declared.answer.Event.{Event}
use Rattle.tree_model.specs.StepWith.{StepWith}
use Rattle.tree_model.specs.State.{State}
use Rattle.tree_model.specs.StepLaws.{open_count, opened_count, closed_count}
use Rattle.tree_model.specs.Steps.{Outcome, outcome}
use Rattle.tree_model.proofs.Counts.{handles_are_counted}
use Rattle.tree_model.proofs.HistoryLaws.{after_events-append}
use Rattle.tree_model.proofs.Outcomes.{Does, refuses, tells, opens_on, closes, changes_to, does}
use Rattle.layered_search.proofs.Places.{within_some}
use Rattle.race_core.specs.declared.seat.Seat.{Seat}
use Rattle.race_core.specs.Book.{BookedHistory, tree_now, answer_now, booked}
use Rattle.race_core.specs.Turns.{Luck, turned}
use Rattle.race_core.specs.Worlds.{WorldView, turn_of, turn}
use Rattle.local_states.specs.declared.keys.Effect.{Effect}
use Rattle.local_states.specs.Counting.{bumped}
use Rattle.explore.specs.Effects.{HasGrown}
use Rattle.local_states.specs.Local.{AreNumbered}
use Rattle.local_states.specs.Outside.{acts_outside, outside_from, outside_of, roots_from, roots_of}
use Rattle.local_states.proofs.Alike.OutsideAlike.{IsOneOn, as_it_was, one_more, turn_books, roots_stay}
use Rattle.local_states.proofs.Counting.{bumped_none, bumped_next, counts_long, counted_more}
use Rattle.local_states.proofs.Local.Parts as parts
use Rattle.local_states.proofs.Local.Parts.{IsOneBy, turned_books, turn_is}
use Rattle.local_states.proofs.Local.Wholes.{same_turns}
use Rattle.local_states.proofs.Parted.SameKeys.{same_itself}

-- ---- what stays

one_lines : (book after : BookedHistory) → IsOneOn book after → after.lines ≡ book.lines
one_lines book after as_it_was = refl
one_lines book after (one_more a step) = refl

pub lines_stay : (luck : Luck) (w : WorldView) (i : ℕ) → (turn luck w i).book.lines ≡ w.book.lines
lines_stay luck w i = one_lines w.book (turn luck w i).book (turn_books luck w i)

pub numbered_stays : (luck : Luck) (w : WorldView) (i : ℕ) → AreNumbered w.seats → AreNumbered (turn luck w i).seats
numbered_stays luck w i numbered = (same_turns w w luck i (same_itself w numbered)).numbered

-- ---- handles

-- A handle more was given, which is open; or one that was open was closed; or none of it.
pub record HandlesGrow (s t : State) : Type 0 where
  pub opens : Bool
  pub closes : Bool
  pub one : (opens && closes) ≡ false
  pub numbers : length t.handles ≡ length s.handles + from_bool opens
  pub open_handles : open_count t + from_bool closes ≡ open_count s + from_bool opens

none_grow : (s t : State) → length t.handles ≡ length s.handles → open_count t ≡ open_count s → HandlesGrow s t
none_grow s t e e' =
    record { opens = false; closes = false; one = refl; numbers = omega arith; open_handles = omega arith }

by_step : {s : State} {a : ℕ} {step : StepWith ℕ} {o : Outcome} → Does s a step o
    → open_count o.after + closed_count o.answer step ≡ open_count s + opened_count o.answer → HandlesGrow s o.after
by_step {s} (refuses error) counted = none_grow s s refl refl
by_step {s} (tells answer e) counted = none_grow s s refl refl
by_step {s} {a} (opens_on x what e1 e2 e3) counted = record {
  opens = true;
  closes = false;
  one = refl;
  numbers = length-append s.handles (Some (record { actor = a; node = x }) ∷ []);
  open_handles = counted;
}
by_step {s} (closes h x e1) counted = record {
  opens = false;
  closes = true;
  one = refl;
  numbers = length-set s.handles h None ∙ omega arith;
  open_handles = counted;
}
by_step {s} (changes_to nodes e1 changed) counted =
    none_grow s (record { nodes = nodes; handles = s.handles }) refl refl

pub handles_grow : (s : State) (a : ℕ) (step : StepWith ℕ) → HandlesGrow s (outcome s a step).after
handles_grow s a step = by_step (does s a step) (handles_are_counted s a step).1

-- ---- a turn

-- some numbers by which all has grown, and no handle was given and another closed at once
pub record GrowsBy (told : Bool) (i : ℕ) (v after : WorldView) : Type 0 where
  pub effect : Effect
  pub one : (effect.opens && effect.closes) ≡ false
  pub grown : HasGrown told i v after effect

and_told : (told acts : Bool) → told ≡ false → (told && acts) ≡ false
and_told told acts e = ap (λ t. t && acts) e

module _ (told : Bool) (luck : Luck) (v : WorldView) (i : ℕ) where
  by_book : (after : BookedHistory) (seats : List Seat) → IsOneBy i v.book after
      → roots_of told (record { book = after; seats = seats; spent = v.spent }) ≡ roots_of told v
      → GrowsBy told i v (record { book = after; seats = seats; spent = v.spent })
  by_book after seats parts.as_it_was roots = record {
    effect = record { nodes = 0; part = 0; event = false; opens = false; closes = false; outside = false };
    one = refl;
    grown = record {
      events = omega arith;
      numbers = omega arith;
      open_handles = refl;
      outside = ap (λ roots. outside_from v.book 0 roots) roots;
      untold = λ e. refl;
    };
  }
  by_book after seats (parts.one_more step) roots =
      let event : Event = record { actor = i; step = step; answer = answer_now v.book i step } in
      let tree : tree_now (booked v.book i step) ≡ (outcome (tree_now v.book) i step).after =
      after_events-append v.book.opening v.book.events (event ∷ []) in
      let handles : HandlesGrow (tree_now v.book) (tree_now (booked v.book i step)) =
      subst (λ t. HandlesGrow (tree_now v.book) t) (sym tree) (handles_grow (tree_now v.book) i step) in
      let acts : Bool = acts_outside (slice_index_or (roots_of told v) i None) (tree_now v.book) event in
      record {
        effect = record {
          nodes = 0;
          part = 0;
          event = true;
          opens = handles.opens;
          closes = handles.closes;
          outside = told && acts;
        };
        one = handles.one;
        grown = record {
          events = length_push v.book.events event;
          numbers = handles.numbers;
          open_handles = handles.open_handles;
          outside =
              ap (λ roots. outside_from (booked v.book i step) 0 roots) roots
              ∙ counted_more v.book i step 0 i (roots_of told v) (omega arith) ∙ where_told told acts;
          untold = λ e. and_told told acts e;
        };
      }
    where
      where_told : (told acts : Bool) → bumped acts i (outside_of told v) ≡ bumped (told && acts) i (outside_of told v)
      where_told true acts = refl
      where_told false acts = bumped_none acts i

  -- the turn of one who is there
  pub turn_grows : AreNumbered v.seats → i < length v.seats → GrowsBy told i v (turn luck v i)
  turn_grows numbered lt =
      let x = within_some v.seats i lt in
      let is : turn luck v i ≡ turn_of luck v i (Some x.0) = turn_is luck v i x.0 x.1 in
      subst (λ u. GrowsBy told i v u) (sym is)
      (by_book (turned luck v.book x.0.ledger x.0.doing).book (turn_of luck v i (Some x.0)).seats
      (subst (λ a. IsOneBy a v.book (turned luck v.book x.0.ledger x.0.doing).book) (numbered i x.0 x.1)
      (turned_books luck v.book x.0))
      (ap (λ u. roots_of told u) (sym is) ∙ roots_stay told luck v i))

-- ---- what comparisons tell of it

lt_by : (so : Bool) (m n : ℕ) → n ≡ m + from_bool so → nat_lt m n ≡ so
lt_by true m n e = grind (arith, nat_tests)
lt_by false m n e = grind (arith, nat_tests)

lt_closed : (opens closes : Bool) (m n : ℕ) → (opens && closes) ≡ false → n + from_bool closes ≡ m + from_bool opens
    → nat_lt n m ≡ closes
lt_closed true true m n both e = absurd (true≢false both)
lt_closed true false m n both e = grind (arith, nat_tests)
lt_closed false true m n both e = grind (arith, nat_tests)
lt_closed false false m n both e = grind (arith, nat_tests)

roots_long : (s : State) (a : ℕ) (seats : List Seat) → length (roots_from s a seats) ≡ length seats
roots_long s a [] = refl
roots_long s a (seat ∷ seats) = ap suc (roots_long s (suc a) seats)

bumped_own : (so : Bool) (i : ℕ) (counts : List ℕ) → i < length counts
    → slice_index_or (bumped so i counts) i 0 ≡ slice_index_or counts i 0 + from_bool so
bumped_own so i [] lt = absurd (omega arith)
bumped_own true zero (n ∷ counts) lt = omega arith
bumped_own false zero (n ∷ counts) lt = omega arith
bumped_own so (suc i) (n ∷ counts) lt =
    ap (λ ns. slice_index_or ns (suc i) 0) (bumped_next so i n counts) ∙ bumped_own so i counts (omega (arith, lt))

outside_lt : (told : Bool) (so : Bool) (i : ℕ) (v : WorldView) → i < length v.seats → (told ≡ false → so ≡ false)
    → nat_lt (slice_index_or (outside_of told v) i 0) (slice_index_or (bumped so i (outside_of told v)) i 0) ≡ so
outside_lt true so i v lt untold =
    let long = counts_long v.book 0 (roots_of true v) ∙ roots_long v.book.opening 0 v.seats in
    lt_by so _ _ (bumped_own so i (outside_of true v) (subst (λ n. i < n) (sym long) lt))
outside_lt false so i v lt untold = ap (λ ns. nat_lt 0 (slice_index_or ns i 0)) (bumped_none so i)
    ∙ (none_here i ∙ sym (untold refl))
  where
    none_here : (i : ℕ) → nat_lt (slice_index_or [] i 0) (slice_index_or [] i 0) ≡ false
    none_here zero = refl
    none_here (suc i) = refl

-- an effect by comparisons of the numbers before and after
pub grown_by : (told : Bool) (luck : Luck) (i : ℕ) (v : WorldView) (effect : Effect) → AreNumbered v.seats
    → i < length v.seats
    → effect.event ≡ nat_lt (length v.book.events) (length (turn luck v i).book.events)
    → effect.opens ≡ nat_lt (length (tree_now v.book).handles) (length (tree_now (turn luck v i).book).handles)
    → effect.closes ≡ nat_lt (open_count (tree_now (turn luck v i).book)) (open_count (tree_now v.book))
    → effect.outside ≡ nat_lt (slice_index_or (outside_of told v) i 0)
    (slice_index_or (outside_of told (turn luck v i)) i 0)
    → HasGrown told i v (turn luck v i) effect
grown_by told luck i v effect numbered lt event opens closed outside = record {
  events = subst (λ so. length after.book.events ≡ length v.book.events + from_bool so) event_is by.grown.events;
  numbers = subst (λ so. length (tree_now after.book).handles ≡ length (tree_now v.book).handles + from_bool so)
      opens_is by.grown.numbers;
  open_handles =
      subst (λ so. open_count (tree_now after.book) + from_bool so ≡ open_count
      (tree_now v.book) + from_bool effect.opens) closes_is
      (subst (λ so. open_count (tree_now after.book) + from_bool by.effect.closes ≡ open_count
      (tree_now v.book) + from_bool so) opens_is by.grown.open_handles);
  outside = subst (λ so. outside_of told after ≡ bumped so i (outside_of told v)) outside_is by.grown.outside;
  untold = λ e. sym outside_is ∙ by.grown.untold e;
}
  where
    after : WorldView
    after = turn luck v i

    by : GrowsBy told i v after
    by = turn_grows told luck v i numbered lt

    event_is : by.effect.event ≡ effect.event
    event_is = sym (event ∙ lt_by by.effect.event _ _ by.grown.events)

    opens_is : by.effect.opens ≡ effect.opens
    opens_is = sym (opens ∙ lt_by by.effect.opens _ _ by.grown.numbers)

    closes_is : by.effect.closes ≡ effect.closes
    closes_is = sym (closed ∙ lt_closed by.effect.opens by.effect.closes _ _ by.one by.grown.open_handles)

    outside_is : by.effect.outside ≡ effect.outside
    outside_is =
        sym (outside ∙ ap (λ ns. nat_lt (slice_index_or (outside_of told v) i 0) (slice_index_or ns i 0))
        by.grown.outside
        ∙ outside_lt told by.effect.outside i v lt by.grown.untold)
