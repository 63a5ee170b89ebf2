-- A full list of turns without its longest tail that rises: a run of it goes on by that tail.
use Rattle.std.specs.Prelude.{◌≡◌, ◌≢◌, ◌<◌, ◌≤◌, ◌==◌, ℕ, ◌+◌, zero, suc, List, [], ◌∷◌, ◌++◌, Bool, true, false, length, Option, Some, None, slice_get, nat_lt, nat_le, if◌then◌else◌, refl}
use Rattle.std.proofs.Common.{sym, ap, ◌∙◌, subst, arith, eqb-true, eq-eqb}
use Rattle.std.proofs.lemmas.Bool.{false≢true, leb-true, le-leb, and_parts, and_from}
use Rattle.tree_model.proofs.StepLaws.{slice_get-set_other}
use Rattle.race_core.specs.declared.seat.Seat.{Seat}
use Rattle.race_core.specs.Turns.{turned}
use Rattle.race_core.specs.Worlds.{WorldView, turn, turn_of, is_busy_in, is_busy_at, Runs, AllGoToEnd, numbers_below, first_beyond}
use Rattle.local_states.specs.Worlds.{full, after_turns}
use Rattle.explore.specs.Search.{IsFull}
use Rattle.explore.proofs.Lists.Replayed.{full_over}
use Rattle.local_states.proofs.Lists.Runs.{all_over, actors_stay}
use Rattle.local_states.proofs.Worlds.System.{busy_within}
use Rattle.outcome_text.specs.Schedule.{rises, without_tail}
use Rattle.explore_command.specs.Replayed.{WrittenSchedulesLeadThere}

-- ---- who has something left to do is an actor, and another's turn leaves that

others_stay : (w : WorldView) (i j : ℕ) → i ≢ j → is_busy_at (turn full w i).seats j ≡ is_busy_at w.seats j
others_stay w i j apart = ap is_busy_in (by (slice_get w.seats i))
  where
    by : (o : Option Seat) → slice_get (turn_of full w i o).seats j ≡ slice_get w.seats j
    by None = refl
    by (Some seat) = slice_get-set_other w.seats i (turned full w.book seat.ledger seat.doing).seat j
        (λ e. apart (sym e))

full_runs : (w : WorldView) (is : List ℕ) → Runs w is (after_turns w is)
full_runs w [] = refl
full_runs w (i ∷ is) = (full, full_runs (turn full w i) is)

-- ---- a full list that rises: each actor goes to its end, one after another

-- whoever comes before the first of the list has nothing left to do
before_first : (a i : ℕ) (w : WorldView) (is : List ℕ) → a < i → rises (i ∷ is) ≡ true → IsFull w (i ∷ is)
    → is_busy_at w.seats a ≡ false
before_first a i w [] less e whole = sym (others_stay w i a (λ q. absurd (omega (arith, less, q)))) ∙ whole.1 a
before_first a i w (j ∷ is) less e whole =
    let next : i ≤ j = leb-true i j (and_parts (nat_le i j) (rises (j ∷ is)) e).0 in
    sym (others_stay w i a (λ q. absurd (omega (arith, less, q))))
    ∙ before_first a j (turn full w i) is (omega (arith, less, next))
    (and_parts (nat_le i j) (rises (j ∷ is)) e).1 whole.1

-- so many numbers from one on
abbrev from : ℕ → ℕ → List ℕ
from a zero = []
from a (suc k) = a ∷ from (suc a) k

from_more : (a k : ℕ) → from a (suc k) ≡ from a k ++ (a + k) ∷ []
from_more a zero = ap (λ n. n ∷ []) (omega arith)
from_more a (suc k) = ap (λ ns. a ∷ ns) (from_more (suc a) k ∙ ap (λ n. from (suc a) k ++ n ∷ []) (omega arith))

below_from : (n : ℕ) → numbers_below n ≡ from 0 n
below_from zero = refl
below_from (suc n) =
    let same : n ≡ 0 + n = omega arith in
    ap (λ ns. ns ++ n ∷ []) (below_from n) ∙ (ap (λ m. from 0 n ++ m ∷ []) same ∙ sym (from_more 0 n))

-- the actors of these numbers go to their ends by this list
abbrev GoesOn : ℕ → ℕ → Type 0
GoesOn a k = (w : WorldView) (is : List ℕ) → IsFull w is → rises (a ∷ is) ≡ true → length w.seats ≤ a + k
    → AllGoToEnd w (from a k) (after_turns w is)

one_turn_more : (w v : WorldView) (a k : ℕ) → AllGoToEnd (turn full w a) (from a (suc k)) v
    → AllGoToEnd w (from a (suc k)) v
one_turn_more w v a k gone =
    (gone.0, record { turns = suc gone.1.turns; run = (full, gone.1.run); over = gone.1.over }, gone.2)

no_turn : (w v : WorldView) (a k : ℕ) → is_busy_at w.seats a ≡ false → AllGoToEnd w (from (suc a) k) v
    → AllGoToEnd w (from a (suc k)) v
no_turn w v a k idle gone = (w, record { turns = 0; run = refl; over = idle }, gone)

turn_keeps : (w : WorldView) (i : ℕ) → length (turn full w i).seats ≡ length w.seats
turn_keeps w i = actors_stay w (i ∷ [])

nobody_left : (a : ℕ) → GoesOn a zero
nobody_left a w [] whole e few = refl
nobody_left a w (i ∷ is) whole e few =
    let actor = busy_within w.seats i whole.0 in
    let late : a ≤ i = leb-true a i (and_parts (nat_le a i) (rises (i ∷ is)) e).0 in
    absurd (omega (arith, actor, late, few))

one_after_another : (a k : ℕ) → GoesOn (suc a) k → GoesOn a (suc k)
one_after_another a k others w [] whole e few = no_turn w w a k (whole a) (others w [] whole refl (omega (arith, few)))
one_after_another a k others w (i ∷ is) whole e few =
    by (λ u more rising enough. one_after_another a k others u is more rising enough) (i == a) refl
  where
    late : a ≤ i
    late = leb-true a i (and_parts (nat_le a i) (rises (i ∷ is)) e).0

    onward : rises (i ∷ is) ≡ true
    onward = (and_parts (nat_le a i) (rises (i ∷ is)) e).1

    by : ((u : WorldView) → IsFull u is → rises (a ∷ is) ≡ true → length u.seats ≤ a + suc k
        → AllGoToEnd u (from a (suc k)) (after_turns u is))
        → (b : Bool) → (i == a) ≡ b → AllGoToEnd w (from a (suc k)) (after_turns (turn full w i) is)
    by rest true same =
        let q : i ≡ a = eqb-true i a same in
        subst (λ (j : ℕ). AllGoToEnd w (from a (suc k)) (after_turns (turn full w j) is)) (sym q)
        (one_turn_more w (after_turns (turn full w a) is) a k
        (rest (turn full w a) (subst (λ (j : ℕ). IsFull (turn full w j) is) q whole.1)
        (subst (λ (j : ℕ). rises (j ∷ is) ≡ true) q onward)
        (subst (λ (n : ℕ). n ≤ a + suc k) (sym (turn_keeps w a)) few)))
    by rest false apart =
        let ne : i ≢ a = λ q. false≢true (sym apart ∙ eq-eqb i a q) in
        let less : a < i = omega (arith, late, ne) in
        no_turn w (after_turns w (i ∷ is)) a k (before_first a i w is less onward whole)
        (others w (i ∷ is) whole (and_from (nat_le (suc a) i) (rises (i ∷ is)) (le-leb (suc a) i less) onward)
        (omega (arith, few)))

all_go_on : (k a : ℕ) → GoesOn a k
all_go_on zero a = nobody_left a
all_go_on (suc k) a = one_after_another a k (all_go_on k (suc a))

rising_ends : (w : WorldView) (is : List ℕ) → IsFull w is → rises is ≡ true
    → AllGoToEnd w (numbers_below (length w.seats)) (after_turns w is)
rising_ends w is whole e =
    subst (λ (ns : List ℕ). AllGoToEnd w ns (after_turns w is)) (sym (below_from (length w.seats)))
    (all_go_on (length w.seats) 0 w is whole (begins is e) (omega arith))
  where
    begins : (js : List ℕ) → rises js ≡ true → rises (0 ∷ js) ≡ true
    begins [] p = refl
    begins (j ∷ js) p = and_from (nat_le 0 j) (rises (j ∷ js)) (le-leb 0 j (omega arith)) p

-- ---- the tail of any full list

record Parted (w : WorldView) (is : List ℕ) : Type 0 where
  pub tail : List ℕ
  pub rising : rises tail ≡ true
  pub whole : IsFull (after_turns w (without_tail is)) tail
  pub same : after_turns (after_turns w (without_tail is)) tail ≡ after_turns w is

parted : (w : WorldView) (is : List ℕ) → IsFull w is → Parted w is
parted w [] whole = record { tail = []; rising = refl; whole = whole; same = refl }
parted w (i ∷ is) whole = by (parted (turn full w i) is whole.1) (rises (i ∷ is)) refl
  where
    Here : List ℕ → Type 0
    Here js = (tail : List ℕ)
        × ((rises tail ≡ true)
        × (IsFull (after_turns w js) tail × (after_turns (after_turns w js) tail ≡ after_turns w (i ∷ is))))

    make : (js : List ℕ) → without_tail (i ∷ is) ≡ js → Here js → Parted w (i ∷ is)
    make js e here =
        let h : Here (without_tail (i ∷ is)) = subst Here (sym e) here in
        record { tail = h.0; rising = h.1.0; whole = h.1.1.0; same = h.1.1.1 }

    by : Parted (turn full w i) is → (b : Bool) → rises (i ∷ is) ≡ b → Parted w (i ∷ is)
    by rest true e = make [] (ap (λ (b : Bool). if b then [] else i ∷ without_tail is) e) (i ∷ is, (e, (whole, refl)))
    by rest false e =
        make (i ∷ without_tail is) (ap (λ (b : Bool). if b then [] else i ∷ without_tail is) e)
        (rest.tail, (rest.rising, (rest.whole, rest.same)))

-- each turn of a full list is an actor's
all_within : (n : ℕ) (w : WorldView) (is : List ℕ) → length w.seats ≡ n → IsFull w is
    → first_beyond n (without_tail is) ≡ None
all_within n w [] many whole = refl
all_within n w (i ∷ is) many whole =
    by (all_within n (turn full w i) is (turn_keeps w i ∙ many) whole.1) (rises (i ∷ is)) refl
  where
    actor : nat_lt i n ≡ true
    actor = subst (λ (m : ℕ). nat_lt i m ≡ true) many (le-leb (suc i) (length w.seats) (busy_within w.seats i whole.0))

    by : first_beyond n (without_tail is) ≡ None → (b : Bool) → rises (i ∷ is) ≡ b
        → first_beyond n (without_tail (i ∷ is)) ≡ None
    by rest true e = ap (λ (b : Bool). first_beyond n (if b then [] else i ∷ without_tail is)) e
    by rest false e =
        ap (λ (b : Bool). first_beyond n (if b then [] else i ∷ without_tail is)) e
        ∙ (ap (λ (b : Bool). if b then first_beyond n (without_tail is) else Some i) actor ∙ rest)

pub written_lead_there : WrittenSchedulesLeadThere
written_lead_there w scope ending memory is =
    let turns = ending.turns in
    let parts = parted w turns is.asked.whole in
    let middle = after_turns w (without_tail turns) in
    let gone : AllGoToEnd middle (numbers_below (length middle.seats)) (after_turns middle parts.tail) =
    rising_ends middle parts.tail parts.whole parts.rising in
    let ended : AllGoToEnd middle (numbers_below (length w.seats)) (after_turns w turns) =
    subst (λ (n : ℕ). AllGoToEnd middle (numbers_below n) (after_turns w turns)) (actors_stay w (without_tail turns))
    (subst (λ (v : WorldView). AllGoToEnd middle (numbers_below (length middle.seats)) v) parts.same gone) in
    record {
      had_memory = memory;
      within = all_within (length w.seats) w turns refl is.asked.whole;
      end = after_turns w turns;
      runs = record { middle = middle; scheduled = full_runs w (without_tail turns); rest = ended };
      over = all_over (after_turns w turns).seats (full_over w turns is.asked.whole);
      reports = is.report;
    }
