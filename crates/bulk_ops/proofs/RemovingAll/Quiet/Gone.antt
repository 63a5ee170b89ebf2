-- Nodes of which some stand nowhere any more.
use Rattle.std.specs.Prelude.{◌≡◌, ℕ, zero, suc, ◌+◌, List, [], ◌∷◌, Bool, true, false, if◌then◌else◌, length, slice_get, Option, Some, None, is_some, refl}
use Rattle.std.specs.Option.{option_map, option_and_then}
use Rattle.std.proofs.Common.{ap, ◌∙◌, arith}
use Rattle.std.proofs.lemmas.Option.{none-some, same_Some}
use Rattle.tree_model.specs.declared.inode.Inode.{Inode}
use Rattle.tree_model.specs.declared.inode.Place.{Place}
use Rattle.tree_model.specs.State.{object_at, place_at, at_place, put_at}
use Rattle.bulk_ops.specs.RemoveAllTells.{one_more_if}
use Rattle.bulk_ops.specs.RemoveAllQuiet.{without_from, how_many_from}

-- nodes that are the same and stand at one place are one
pub same_node : (xs ys : List Inode) (x : ℕ) → object_at xs x ≡ object_at ys x → place_at xs x ≡ place_at ys x → slice_get xs x ≡ slice_get ys x
same_node xs ys x object place = on (slice_get xs x) (slice_get ys x) object place
  where
    on : (o p : Option Inode) → option_map (λ inode. inode.object) o ≡ option_map (λ inode. inode.object) p
        → option_and_then (λ inode. inode.place) o ≡ option_and_then (λ inode. inode.place) p → o ≡ p
    on None None e q = refl
    on None (Some y) e q = cc (e)
    on (Some x) None e q = cc (e)
    on (Some x) (Some y) e q =
        let object : x.object ≡ y.object = same_Some x.object y.object e in
        let place : x.place ≡ y.place = q in
        λ i. Some (record { object = object i; place = place i })

-- lists of nodes that are the same at each number are one
pub same_nodes : (xs ys : List Inode) → length xs ≡ length ys → ((x : ℕ) → object_at xs x ≡ object_at ys x) → ((x : ℕ) → place_at xs x ≡ place_at ys x) → xs ≡ ys
same_nodes [] [] e objects places = refl
same_nodes [] (y ∷ ys) e objects places = cc (e)
same_nodes (x ∷ xs) [] e objects places = cc (e)
same_nodes (x ∷ xs) (y ∷ ys) e objects places =
    let object : x.object ≡ y.object = same_Some x.object y.object (objects 0) in
    let place : x.place ≡ y.place = places 0 in
    let rest = same_nodes xs ys (omega arith) (λ k. objects (suc k)) (λ k. places (suc k)) in
    λ i. record { object = object i; place = place i } ∷ rest i

module _ (goes : ℕ → Bool) where
  pub length-without : (k : ℕ) (nodes : List Inode) → length (without_from goes k nodes) ≡ length nodes
  length-without k [] = refl
  length-without k (inode ∷ nodes) = ap suc (length-without (suc k) nodes)

  object_stays : (b : Bool) (inode : Inode) → (if b then at_place None inode else inode).object ≡ inode.object
  object_stays true inode = refl
  object_stays false inode = refl

  pub object_at-without : (k : ℕ) (nodes : List Inode) (x : ℕ) → object_at (without_from goes k nodes) x ≡ object_at nodes x
  object_at-without k [] x = refl
  object_at-without k (inode ∷ nodes) zero = ap Some (object_stays (goes k) inode)
  object_at-without k (inode ∷ nodes) (suc x) = object_at-without (suc k) nodes x

  place_goes : (b : Bool) (inode : Inode) → (if b then at_place None inode else inode).place ≡ (if b then None else inode.place)
  place_goes true inode = refl
  place_goes false inode = refl

  none_anyway : (b : Bool) (place : Option Place) → place ≡ None → place ≡ (if b then None else place)
  none_anyway true place e = e
  none_anyway false place e = refl

  pub place_at-without : (k : ℕ) (nodes : List Inode) (x j : ℕ) → j ≡ k + x
      → place_at (without_from goes k nodes) x ≡ (if goes j then None else place_at nodes x)
  place_at-without k [] x j e = none_anyway (goes j) None refl
  place_at-without k (inode ∷ nodes) zero j e =
      place_goes (goes k) inode ∙ ap (λ i. if goes i then None else inode.place) (omega arith)
  place_at-without k (inode ∷ nodes) (suc x) j e = place_at-without (suc k) nodes x j (omega arith)

-- ---- how many stand somewhere

abbrev pub placed : List Inode → ℕ
placed [] = 0
placed (inode ∷ nodes) = one_more_if (is_some inode.place) (placed nodes)

pub one_more_add : (b : Bool) (m n k : ℕ) → k ≡ m + n → one_more_if b k ≡ one_more_if b m + n
one_more_add true m n k e = omega arith
one_more_add false m n k e = e

one_more_suc : (b : Bool) (n : ℕ) → one_more_if b (suc n) ≡ suc (one_more_if b n)
one_more_suc true n = refl
one_more_suc false n = refl

pub placed-put_none : (nodes : List Inode) (x : ℕ) (place : Place) → place_at nodes x ≡ Some place → placed nodes ≡ suc (placed (put_at nodes x None))
placed-put_none [] x place p = absurd (none-some place p)
placed-put_none (inode ∷ nodes) zero place p = ap (λ o. one_more_if (is_some o) (placed nodes)) p
placed-put_none (inode ∷ nodes) (suc x) place p =
    ap (one_more_if (is_some inode.place)) (placed-put_none nodes x place p) ∙ one_more_suc (is_some inode.place) (placed (put_at nodes x None))

module _ (goes : ℕ → Bool) where
  one_counted : (s : Bool) (h m n : ℕ) → n ≡ h + m → one_more_if s n ≡ h + one_more_if s m
  one_counted true h m n e = omega arith
  one_counted false h m n e = e

  counted : (b : Bool) (inode : Inode) (h m n : ℕ) → (b ≡ true → is_some inode.place ≡ true) → n ≡ h + m
      → one_more_if (is_some inode.place) n ≡ one_more_if b h + one_more_if (is_some (if b then at_place None inode else inode).place) m
  counted true inode h m n stands e = ap (λ s. one_more_if s n) (stands refl) ∙ one_more_add true h m n e
  counted false inode h m n stands e = one_counted (is_some inode.place) h m n e

  -- those that stand somewhere are those that go and those that still do
  pub placed-without : (k : ℕ) (nodes : List Inode) → ((x j : ℕ) → j ≡ k + x → goes j ≡ true → is_some (place_at nodes x) ≡ true)
      → placed nodes ≡ how_many_from goes k nodes + placed (without_from goes k nodes)
  placed-without k [] stand = refl
  placed-without k (inode ∷ nodes) stand =
      counted (goes k) inode (how_many_from goes (suc k) nodes) (placed (without_from goes (suc k) nodes)) (placed nodes) (stand 0 k (omega arith))
      (placed-without (suc k) nodes (λ x j e. stand (suc x) j (omega arith)))
