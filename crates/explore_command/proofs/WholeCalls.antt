-- In a list without a cut only the last turn's actor may have a call under way.
use Rattle.std.specs.Prelude.{◌≡◌, ◌≢◌, ◌==◌, ◌&&◌, ℕ, List, [], ◌∷◌, Bool, true, false, not, Option, Some, None, slice_get, refl}
use Rattle.std.proofs.Common.{sym, ap, ◌∙◌, subst, arith, eqb-true, eq-eqb}
use Rattle.std.proofs.lemmas.Bool.{false≢true}
use Rattle.tree_model.proofs.StepLaws.{slice_get-set_other}
use Rattle.race_core.specs.declared.seat.Seat.{Seat}
use Rattle.race_core.specs.Turns.{turned}
use Rattle.race_core.specs.Worlds.{WorldView, turn, turn_of, is_within_in, is_within_at}
use Rattle.local_states.specs.Worlds.{full}
use Rattle.explore.specs.Explored.{plus, is_cut, cuts_after}
use Rattle.explore_command.specs.WholeCalls.{AreWholeCalls, OutcomesWithoutCutsAreOfWholeCalls}

none_of : (b : Bool) (n : ℕ) → plus b n ≡ 0 → (b ≡ false) × (n ≡ 0)
none_of true n e = absurd (omega (arith, e))
none_of false n e = (refl, e)

others_stay : (w : WorldView) (i j : ℕ) → i ≢ j → is_within_at (turn full w i).seats j ≡ is_within_at w.seats j
others_stay w i j apart = ap is_within_in (by (slice_get w.seats i))
  where
    by : (o : Option Seat) → slice_get (turn_of full w i o).seats j ≡ slice_get w.seats j
    by None = refl
    by (Some seat) = slice_get-set_other w.seats i (turned full w.book seat.ledger seat.doing).seat j (λ e. apart (sym e))

-- nobody but the last turn's actor has a call under way
abbrev OnlyLast : Option ℕ → WorldView → Type 0
OnlyLast last w = (j : ℕ) → last ≢ Some j → is_within_at w.seats j ≡ false

-- where the next turn cuts no call, the last turn's actor has none under way either, unless the turn is its own
no_cut : (w : WorldView) (last : Option ℕ) (i j : ℕ) → OnlyLast last w → is_cut w last i ≡ false → j ≢ i
    → is_within_at w.seats j ≡ false
no_cut w None i j only e apart = only j (λ q. cc (q))
no_cut w (Some k) i j only e apart = by (k == j) refl
  where
    within_alone : (b : Bool) → not (k == i) ≡ true → (not (k == i) && b) ≡ false → b ≡ false
    within_alone b q p = ap (λ (x : Bool). x && b) (sym q) ∙ p

    another : k ≡ j → not (k == i) ≡ true
    another same = ap not (is_false (k == i) refl)
      where
        is_false : (b : Bool) → (k == i) ≡ b → (k == i) ≡ false
        is_false true p = absurd (apart (sym same ∙ eqb-true k i p))
        is_false false p = p

    by : (b : Bool) → (k == j) ≡ b → is_within_at w.seats j ≡ false
    by true p =
        let same : k ≡ j = eqb-true k j p in
        subst (λ (n : ℕ). is_within_at w.seats n ≡ false) same (within_alone (is_within_at w.seats k) (another same) e)
    by false p = only j (λ q. false≢true (sym p ∙ eq-eqb k j (some_same q)))
      where
        some_same : Some k ≡ Some j → k ≡ j
        some_same q = ap (λ (o : Option ℕ). value o) q
          where
            value : Option ℕ → ℕ
            value None = 0
            value (Some n) = n

whole_after : (w : WorldView) (last : Option ℕ) (is : List ℕ) → OnlyLast last w → cuts_after w last is ≡ 0 → AreWholeCalls w is
whole_after w last [] only none = tt
whole_after w last (i ∷ is) only none =
    let parts = none_of (is_cut w last i) (cuts_after (turn full w i) (Some i) is) none in
    let idle : (j : ℕ) → j ≢ i → is_within_at w.seats j ≡ false = λ j apart. no_cut w last i j only parts.0 apart in (
      idle,
      whole_after (turn full w i) (Some i) is
          (λ j other. let apart : j ≢ i = λ q. other (ap Some (sym q)) in others_stay w i j (λ q. apart (sym q)) ∙ idle j apart) parts.1,
    )

pub without_cuts_whole : OutcomesWithoutCutsAreOfWholeCalls
without_cuts_whole w scope ending nobody is none =
    whole_after w None ending.turns (λ j other. nobody j) (sym (ap (λ r. r.cuts) is.ranked) ∙ none)
