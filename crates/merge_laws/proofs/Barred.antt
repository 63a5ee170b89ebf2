-- No list begins with turns that can't be taken.
use Rattle.std.specs.Prelude.{◌≡◌, ◌≤◌, ◌++◌, ℕ, zero, suc, List, [], ◌∷◌, true, take, slice_get, Option, Some, None, refl}
use Rattle.std.proofs.Common.{◌∙◌, inl, sym, subst, ⊎_elim}
use Rattle.std.proofs.lemmas.Bool.{true≢false}
use Rattle.std.proofs.lemmas.Option.{same_Some, none-some}
use Rattle.local_states.specs.Worlds.{full, after_turns}
use Rattle.explore.specs.Explored.{Scope, IsWithin, is_cut, cuts, cuts_after}
use Rattle.explore.specs.Search.{IsFull}
use Rattle.explore_command.specs.Part.{IsBarred}
use Rattle.race_core.specs.Worlds.{WorldView, turn, is_busy_at}
use Rattle.schedule_graph.specs.declared.count.TheConstants.{COUNT_CAP}
use Rattle.further_world_laws.specs.Parts.{IsAskedFrom, part_with, IsPart}
use Rattle.further_world_laws.proofs.Beginnings.{plus_more, none_fewer, within_fewer}
use Rattle.schedule_graph.proofs.Summing.{none_capped}

-- a turn of a full list is of an actor who has something left to do then
pub busy_there : (w : WorldView) (begin rest : List ℕ) (at actor : ℕ) → IsFull w (begin ++ rest) → slice_get begin at ≡ Some actor
    → is_busy_at (after_turns w (take at begin)).seats actor ≡ true
busy_there w [] rest at actor whole there = absurd (none-some actor there)
busy_there w (i ∷ is) rest zero actor whole there = subst (λ (j : ℕ). is_busy_at w.seats j ≡ true) (same_Some i actor there) whole.0
busy_there w (i ∷ is) rest (suc at) actor whole there = busy_there (turn full w i) is rest at actor whole.1 there

-- the first turns have no more cuts
cuts_more : (w : WorldView) (last : Option ℕ) (begin rest : List ℕ) (n : ℕ) → cuts_after w last (take n begin) ≤ cuts_after w last (begin ++ rest)
cuts_more w last begin rest zero = none_fewer (cuts_after w last (begin ++ rest))
cuts_more w last [] rest (suc n) = none_fewer (cuts_after w last rest)
cuts_more w last (i ∷ is) rest (suc n) =
    plus_more (is_cut w last i) (cuts_after (turn full w i) (Some i) (take n is)) (cuts_after (turn full w i) (Some i) (is ++ rest))
    (cuts_more (turn full w i) (Some i) is rest n)

module _ (w : WorldView) (scope own : Scope) (begin : List ℕ) (bound : scope.cuts ≡ own.cuts) (barred : IsBarred w own begin) where
  pub none_begins : (is : List ℕ) → IsAskedFrom w scope begin is → ⊥
  none_begins is from =
      let whole : IsFull w (begin ++ from.1.0) = subst (λ (js : List ℕ). IsFull w js) from.1.1 from.0.whole in
      let few : IsWithin own.cuts (cuts w (begin ++ from.1.0)) =
      subst (λ (js : List ℕ). IsWithin own.cuts (cuts w js)) from.1.1 (subst (λ (most : Option ℕ). IsWithin most (cuts w is)) bound from.0.few_cuts) in
      ⊎_elim
      (λ idle. true≢false (sym (busy_there w begin from.1.0 barred.0 idle.actor whole idle.there) ∙ idle.idle))
      (λ many. many (within_fewer own.cuts (cuts w (take (suc barred.0) begin)) (cuts w (begin ++ from.1.0)) (cuts_more w None begin from.1.0 (suc barred.0)) few))
      barred.1

  pub barred_part : IsPart w scope (part_with begin [] 0 0)
  barred_part = record {
    counted = record {
      words = [];
      are_all = record { each = λ is h. absurd h; all = λ is h. none_begins is h; once = tt };
      count = none_capped COUNT_CAP;
    };
    longest = record { bounded = λ is h. absurd (none_begins is h); reached = inl (refl, none_begins) };
    told = λ is h. absurd (none_begins is h);
    apart = λ k l c d here there agree. absurd (none-some c here);
    each = λ k c there. absurd (none-some c there);
  }
