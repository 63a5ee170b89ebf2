-- How ranks compare, and what a sort by them gives.
use Rattle.std.proofs.Common.{◌≡◌, Bool, true, false, not, List, [], ◌∷◌, refl, sym, ap, ◌∙◌}
use Rattle.std.specs.Prelude.{if◌then◌else◌}
use Rattle.std.specs.Cmp.{IsStrictWeakOrder}
use Rattle.std.specs.List.Sorted.{IsSortedBy, IsStableBy}
use Rattle.std.proofs.lemmas.Bool.{false≢true, true≢false}
use Rattle.schedule_graph.proofs.Ranks.{ranks_total, ranks_chain}
use Rattle.outcome_text.specs.declared.survey.Told.{Told}
use Rattle.outcome_text.specs.Order.{rank_of, comes_before, put, in_order}
use Rattle.outcome_text.proofs.Stable.{less, put_in, all_in, sorted_is_all_in}

-- ---- outcomes put in their places are put in order

put_same : (told : Told) (all : List Told) → put told all ≡ put_in comes_before told all
put_same told [] = refl
put_same told (other ∷ all) = ap (λ (rest : List Told). if comes_before told other then told ∷ other ∷ all else other ∷ rest) (put_same told all)

in_order_same : (all : List Told) → in_order all ≡ all_in comes_before all
in_order_same [] = refl
in_order_same (told ∷ all) = ap (put told) (in_order_same all) ∙ put_same told (all_in comes_before all)

pub sorts : IsStrictWeakOrder (less comes_before)
sorts = record {
  one_way = λ told other e. by (comes_before other told) (comes_before told other) e (ranks_total (rank_of other) (rank_of told));
  chain = λ told other last p q. by_both (comes_before other told) (comes_before last other) p q
      (ranks_chain (rank_of last) (rank_of other) (rank_of told));
}
  where
    by : (b c : Bool) → not b ≡ true → (b ≡ false → c ≡ true) → not c ≡ false
    by true c e total = absurd (false≢true e)
    by false c e total = ap not (total refl)

    by_both : {d : Bool} (b c : Bool) → not b ≡ false → not c ≡ false → (c ≡ true → b ≡ true → d ≡ true) → not d ≡ false
    by_both true true p q chain = ap not (chain refl refl)
    by_both true false p q chain = absurd (true≢false q)
    by_both false c p q chain = absurd (true≢false p)

-- what a stable sort of outcomes gives
pub sorted_in_order : (all sorted : List Told) → IsSortedBy (less comes_before) sorted → IsStableBy (less comes_before) all sorted → sorted ≡ in_order all
sorted_in_order all sorted up stable =
    sorted_is_all_in comes_before (λ told other. ranks_total (rank_of told) (rank_of other)) (λ told other last. ranks_chain (rank_of told) (rank_of other) (rank_of last))
    all sorted up stable ∙ sym (in_order_same all)
