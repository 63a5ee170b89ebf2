-- Lists with the same members, each once, differ in their order alone.
use Rattle.std.specs.Prelude.{◌≡◌, ℕ, zero, suc, min, List, [], ◌∷◌, ◌++◌, slice_get, Some, IsPermutation, refl}
use Rattle.std.proofs.Common.{◌∙◌, inl, inr, sym, ap, subst, ⊎_elim, arith}
use Rattle.std.proofs.lemmas.Option.{same_Some, none-some}
use Rattle.std.proofs.lemmas.List.Sorted.{IsPermutation-refl, IsPermutation-sym, IsPermutation-cons, IsPermutation-trans, IsPermutation-middle, length_permutation}
use Rattle.schedule_graph.specs.declared.count.TheConstants.{COUNT_CAP}
use Rattle.schedule_graph.specs.Counted.{IsAmong, EachOnce, AreSoMany}
use Rattle.schedule_graph.proofs.Among.{among_left, among_right, among_split}

-- ---- where a member stands

record Stands {A : Type 0} (x : A) (ys : List A) : Type 0 where
  before : List A
  after : List A
  is : ys ≡ before ++ x ∷ after

stands : {A : Type 0} (x : A) (ys : List A) → IsAmong x ys → Stands x ys
stands x [] h = absurd h
stands x (y ∷ ys) h =
    ⊎_elim
    (λ e. record { before = []; after = ys; is = ap (λ z. z ∷ ys) (sym e) })
    (λ q. let rest : Stands x ys = stands x ys q in record { before = y ∷ rest.before; after = rest.after; is = ap (λ zs. y ∷ zs) rest.is })
    h

among_more : {A : Type 0} (x y : A) (bs cs : List A) → IsAmong x (bs ++ cs) → IsAmong x (bs ++ y ∷ cs)
among_more x y bs cs h = ⊎_elim (λ l. among_left x bs (y ∷ cs) l) (λ r. among_right x bs (y ∷ cs) (inr r)) (among_split x bs cs h)

among_others : {A : Type 0} (x y : A) (bs cs : List A) → (x ≡ y → ⊥) → IsAmong x (bs ++ y ∷ cs) → IsAmong x (bs ++ cs)
among_others x y bs cs ne h =
    ⊎_elim (λ l. among_left x bs cs l) (λ r. ⊎_elim (λ e. absurd (ne e)) (λ q. among_right x bs cs q) r) (among_split x bs (y ∷ cs) h)

once_without : {A : Type 0} (x : A) (bs cs : List A) → EachOnce (bs ++ x ∷ cs) → EachOnce (bs ++ cs) × (IsAmong x (bs ++ cs) → ⊥)
once_without x [] cs h = (h.1, h.0)
once_without x (b ∷ bs) cs h =
    let rest = once_without x bs cs h.1 in
    (((λ q. h.0 (among_more b x bs cs q)), rest.0), (λ q. ⊎_elim (λ e. h.0 (among_right b bs (x ∷ cs) (inl (sym e)))) (λ r. rest.1 r) q))

-- ---- the same members

pub permuted : {A : Type 0} (xs ys : List A) → EachOnce xs → EachOnce ys → ((x : A) → IsAmong x xs → IsAmong x ys)
    → ((x : A) → IsAmong x ys → IsAmong x xs) → IsPermutation xs ys
permuted [] [] once other to from = IsPermutation-refl []
permuted [] (y ∷ ys) once other to from = absurd (from y (inl refl))
permuted (x ∷ xs) ys once other to from =
    let at : Stands x ys = stands x ys (to x (inl refl)) in
    let rest = once_without x at.before at.after (subst (λ zs. EachOnce zs) at.is other) in
    let less : IsPermutation xs (at.before ++ at.after) =
    permuted xs (at.before ++ at.after) once.1 rest.0
    (λ y h. among_others y x at.before at.after (λ e. once.0 (subst (λ z. IsAmong z xs) e h)) (subst (λ zs. IsAmong y zs) at.is (to y (inr h))))
    (λ y h. ⊎_elim (λ e. absurd (rest.1 (subst (λ z. IsAmong z (at.before ++ at.after)) e h))) (λ q. q)
    (from y (subst (λ zs. IsAmong y zs) (sym at.is) (among_more y x at.before at.after h)))) in
    subst (λ zs. IsPermutation (x ∷ xs) zs) (sym at.is)
    (IsPermutation-trans (x ∷ xs) (x ∷ (at.before ++ at.after)) (at.before ++ x ∷ at.after) (IsPermutation-cons x xs (at.before ++ at.after) less)
    (IsPermutation-sym (at.before ++ x ∷ at.after) (x ∷ (at.before ++ at.after)) (IsPermutation-middle at.before x at.after)))

-- lists that are counted twice are as many each time
pub same_many : (P Q : List ℕ → Type 0) (m n : ℕ) → ((is : List ℕ) → P is → Q is) → ((is : List ℕ) → Q is → P is)
    → AreSoMany P m → AreSoMany Q n → m ≡ n
same_many P Q m n to from so many =
    let moved : IsPermutation so.words many.words =
    permuted so.words many.words so.are_all.once many.are_all.once (λ is h. many.are_all.all is (to is (so.are_all.each is h)))
    (λ is h. so.are_all.all is (from is (many.are_all.each is h))) in
    so.count ∙ (ap (λ k. min k COUNT_CAP) (sym (length_permutation so.words many.words moved)) ∙ sym many.count)

-- ---- members and places

pub among_at : {A : Type 0} (xs : List A) (k : ℕ) (x : A) → slice_get xs k ≡ Some x → IsAmong x xs
among_at [] k x e = absurd (none-some x e)
among_at (y ∷ ys) zero x e = inl (sym (same_Some y x e))
among_at (y ∷ ys) (suc k) x e = inr (among_at ys k x e)

pub place_of : {A : Type 0} (x : A) (xs : List A) → IsAmong x xs → (k : ℕ) × (slice_get xs k ≡ Some x)
place_of x [] h = absurd h
place_of x (y ∷ ys) h = ⊎_elim (λ e. (0, ap Some (sym e))) (λ q. let at = place_of x ys q in (suc at.0, at.1)) h

not_first : (k : ℕ) → 0 ≡ suc k → ⊥
not_first k e = omega arith

same_before : (k l : ℕ) → suc k ≡ suc l → k ≡ l
same_before k l e = omega arith

pub once_by_places : {A : Type 0} (xs : List A) → ((k l : ℕ) (x : A) → slice_get xs k ≡ Some x → slice_get xs l ≡ Some x → k ≡ l) → EachOnce xs
once_by_places [] apart = tt
once_by_places (x ∷ xs) apart = (
  (λ h. let at = place_of x xs h in not_first at.0 (apart 0 (suc at.0) x refl at.1)),
  once_by_places xs (λ k l y e f. same_before k l (apart (suc k) (suc l) y e f)),
)
