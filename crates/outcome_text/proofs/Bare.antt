-- Outcomes that no property judges are told the same with their lines and without.
use Rattle.std.proofs.Common.{◌≡◌, ◌+◌, ℕ, suc, Bool, true, false, List, [], ◌∷◌, ◌++◌, length, refl, sym, ap, ◌∙◌}
use Rattle.std.specs.Prelude.{◌||◌, map, min, not, sum_by, if◌then◌else◌, Option}
use Rattle.std.specs.List.{list_any}
use Rattle.std.proofs.lemmas.List.{map-append, length-map}
use Rattle.std.proofs.lemmas.List.Sums.{sum_by-cons}
use Rattle.report_text.specs.Report.{numbered}
use Rattle.outcome_text.specs.declared.counts.TheConstants.{COUNT_MAX}
use Rattle.outcome_text.specs.declared.survey.Told.{Told}
use Rattle.outcome_text.specs.Conditions.{counted, told_text}
use Rattle.outcome_text.specs.Order.{comes_before, put, in_order}
use Rattle.outcome_text.specs.Survey.{looks_like, is_new, new_among, new_ones, lists_to, witness_words, block_words, block_text, blocks_text, numbers_text}

-- an outcome without its lines
abbrev pub bare : Told → Told
bare told = record told { lines = [] }

-- ---- their order

put_bare : (x : Told) (ys : List Told) → put (bare x) (map bare ys) ≡ map bare (put x ys)
put_bare x [] = refl
put_bare x (y ∷ ys) = go (comes_before x y) (put_bare x ys)
  where
    go : (b : Bool) → put (bare x) (map bare ys) ≡ map bare (put x ys)
        → (if b then bare x ∷ bare y ∷ map bare ys else bare y ∷ put (bare x) (map bare ys)) ≡ map bare (if b then x ∷ y ∷ ys else y ∷ put x ys)
    go true rest = refl
    go false rest = ap (λ (zs : List Told). bare y ∷ zs) rest

pub order_bare : (xs : List Told) → in_order (map bare xs) ≡ map bare (in_order xs)
order_bare [] = refl
order_bare (x ∷ xs) = ap (put (bare x)) (order_bare xs) ∙ put_bare x (in_order xs)

-- ---- their text

pub mapped_sum : {A : Type 0} (told : A → Told) (f : Told → ℕ) (xs : List A) → sum_by f (map told xs) ≡ sum_by (λ x. f (told x)) xs
mapped_sum told f [] = refl
mapped_sum told f (x ∷ xs) =
    sum_by-cons f (told x) (map told xs) ∙ (ap (λ (n : ℕ). f (told x) + n) (mapped_sum told f xs) ∙ sym (sum_by-cons (λ y. f (told y)) x xs))

counted_bare : (xs : List Told) → counted [] (map bare xs) ≡ map bare (counted [] xs)
counted_bare [] = refl
counted_bare (x ∷ xs) = ap (λ (zs : List Told). bare x ∷ zs) (counted_bare xs)

any_bare : (told : Told) (xs : List Told) → list_any (looks_like (bare told)) (map bare xs) ≡ list_any (looks_like told) xs
any_bare told [] = refl
any_bare told (x ∷ xs) = ap (λ (b : Bool). looks_like told x || b) (any_bare told xs)

new_bare : (earlier xs : List Told) → new_among (map bare earlier) (map bare xs) ≡ map bare (new_among earlier xs)
new_bare earlier [] = refl
new_bare earlier (x ∷ xs) =
    let more = sym (map-append bare earlier (x ∷ [])) in
    (λ i. (if not (any_bare x earlier i) then bare x ∷ [] else []) ++ new_among (more i) (map bare xs))
    ∙ go (is_new earlier x) (new_bare (earlier ++ x ∷ []) xs)
  where
    go : (b : Bool) → new_among (map bare (earlier ++ x ∷ [])) (map bare xs) ≡ map bare (new_among (earlier ++ x ∷ []) xs)
        → (if b then bare x ∷ [] else []) ++ new_among (map bare (earlier ++ x ∷ [])) (map bare xs) ≡ map bare ((if b then x ∷ [] else []) ++ new_among (earlier ++ x ∷ []) xs)
    go true rest = ap (λ (zs : List Told). bare x ∷ zs) rest
    go false rest = rest

block_bare : (k lists : ℕ) (told : Told) → block_words k lists (bare told) ≡ block_words k lists told
unfolding block_words witness_words
block_bare k lists told = refl

lists_bare : (all : List Told) (told : Told) → lists_to (map bare all) (bare told) ≡ lists_to all told
lists_bare all told = ap (λ (n : ℕ). min n COUNT_MAX) (mapped_sum bare (λ (t : Told). if looks_like (bare told) t then t.lists else 0) all)

blocks_bare : (all : List Told) (k : ℕ) (xs : List Told) → numbered (block_text (map bare all)) k (map bare xs) ≡ numbered (block_text all) k xs
blocks_bare all k [] = refl
blocks_bare all k (x ∷ xs) =
    let block : block_text (map bare all) k (bare x) ≡ block_text all k x =
    ap (λ (n : ℕ). block_words k n (bare x)) (lists_bare all x) ∙ block_bare k (lists_to all x) x in
    λ i. block i ++ blocks_bare all (suc k) xs i

pub text_bare : (lists : ℕ) (states : Option ℕ) (longest : ℕ) (xs : List Told) → told_text lists states longest (map bare xs) [] ≡ told_text lists states longest xs []
text_bare lists states longest xs =
    let few = counted [] xs in
    let new = new_bare [] few in
    let outcomes : length (new_ones (counted [] (map bare xs))) ≡ length (new_ones few) =
    ap (λ (ts : List Told). length (new_ones ts)) (counted_bare xs) ∙ (ap length new ∙ length-map (new_ones few) bare) in
    let blocks : blocks_text (counted [] (map bare xs)) ≡ blocks_text few =
    ap blocks_text (counted_bare xs) ∙ (ap (numbered (block_text (map bare few)) 0) new ∙ blocks_bare few 0 (new_ones few)) in
    λ i. numbers_text lists states longest (outcomes i) ++ (blocks i ++ [])
