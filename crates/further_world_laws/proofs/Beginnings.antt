-- All beginnings of one length part all lists.
use Rattle.std.specs.Prelude.{◌≡◌, ◌<◌, ◌≤◌, ◌⊎◌, ◌++◌, ℕ, zero, suc, List, [], ◌∷◌, Bool, true, false, length, take, Option, Some, None, refl}
use Rattle.std.proofs.Common.{◌∙◌, inl, inr, sym, ap, subst, ⊎_elim, arith, drop}
use Rattle.std.proofs.lemmas.Bool.{true≢false}
use Rattle.std.proofs.lemmas.List.{append-nil, take-append-drop, length-take-le, take_all, take_at}
use Rattle.race_core.specs.Worlds.{WorldView, turn}
use Rattle.local_states.specs.Worlds.{full}
use Rattle.explore.specs.Explored.{plus, is_cut, cuts_after, IsWithin, AreBusy}
use Rattle.explore.specs.Search.{IsFull}
use Rattle.further_world_laws.specs.Parts.{AllBeginningsCover}

busy_first : (w : WorldView) (is : List ℕ) (n : ℕ) → IsFull w is → AreBusy w (take n is)
busy_first w is zero whole = tt
busy_first w [] (suc n) whole = tt
busy_first w (i ∷ is) (suc n) whole = (whole.0, busy_first (turn full w i) is n whole.1)

pub plus_more : (b : Bool) (m n : ℕ) → m ≤ n → plus b m ≤ plus b n
plus_more true m n le = omega arith
plus_more false m n le = le

pub none_fewer : (n : ℕ) → 0 ≤ n
none_fewer n = omega arith

cuts_first : (w : WorldView) (last : Option ℕ) (is : List ℕ) (n : ℕ) → cuts_after w last (take n is) ≤ cuts_after w last is
cuts_first w last is zero = none_fewer (cuts_after w last is)
cuts_first w last [] (suc n) = none_fewer 0
cuts_first w last (i ∷ is) (suc n) =
    plus_more (is_cut w last i) (cuts_after (turn full w i) (Some i) (take n is)) (cuts_after (turn full w i) (Some i) is) (cuts_first (turn full w i) (Some i) is n)

pub within_fewer : (most : Option ℕ) (m n : ℕ) → m ≤ n → IsWithin most n → IsWithin most m
within_fewer None m n le few = tt
within_fewer (Some k) m n le few = at_most k m n le few
  where
    at_most : (k m n : ℕ) → m ≤ n → n ≤ k → m ≤ k
    at_most k m n le few = omega arith

-- a full list doesn't go on
pub ends_there : (w : WorldView) (is rest : List ℕ) → IsFull w is → IsFull w (is ++ rest) → rest ≡ []
ends_there w [] [] over whole = refl
ends_there w [] (i ∷ rest) over whole = absurd (true≢false (sym whole.0 ∙ over i))
ends_there w (i ∷ is) rest first whole = ends_there (turn full w i) is rest first.1 whole.1

reaches : (m n : ℕ) → (m ≤ n) ⊎ (n < m)
reaches m n = grind arith

at_last : (m n : ℕ) → m < n → m ≤ n
at_last m n lt = omega arith

pub all_beginnings_cover : AllBeginningsCover
all_beginnings_cover w scope n is asked = record {
  begin = take n is;
  chosen = record {
    busy = busy_first w is n asked.whole;
    few_cuts = within_fewer scope.cuts (cuts_after w None (take n is)) (cuts_after w None is) (cuts_first w None is n) asked.few_cuts;
    long = ⊎_elim (λ le. inl (length-take-le n is le))
        (λ lt. inr (subst (λ (js : List ℕ). (length js < n) × IsFull w js) (sym (take_all n is (at_last (length is) n lt))) (lt, asked.whole)))
        (reaches n (length is));
  };
  begins = (drop n is, sym (take-append-drop n is));
  only = λ other chosen begins.
      ⊎_elim (λ e. sym (ap (λ (js : List ℕ). take n js) begins.1 ∙ take_at other begins.0 n e))
      (λ short.
      let none : begins.0 ≡ [] = ends_there w other begins.0 short.1 (subst (λ (js : List ℕ). IsFull w js) begins.1 asked.whole) in
      let same : is ≡ other = begins.1 ∙ (ap (λ (rest : List ℕ). other ++ rest) none ∙ append-nil other) in
      sym same ∙ sym (take_all n is (subst (λ (js : List ℕ). length js ≤ n) (sym same) (at_last (length other) n short.0))))
      chosen.long;
}
