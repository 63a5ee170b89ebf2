-- Lists that are counted part by part are counted together.
use Rattle.std.specs.Prelude.{◌≡◌, ◌<◌, ◌≤◌, ◌+◌, ◌⊎◌, ℕ, min, max, List, [], ◌∷◌, ◌++◌, length, sum_by, refl}
use Rattle.std.proofs.Common.{◌∙◌, inl, inr, sym, ap, subst, ⊎_elim, arith, length-append}
use Rattle.std.proofs.lemmas.List.Sums.{sum_by-cons}
use Rattle.schedule_graph.specs.declared.count.TheConstants.{COUNT_CAP}
use Rattle.schedule_graph.specs.Counted.{IsAmong, EachOnce, AreSoMany, IsLongest}
use Rattle.schedule_graph.proofs.Among.{among_left, among_right, among_split, once_joined}
use Rattle.schedule_graph.proofs.Summing.{so_many_as, capped_sum, longer}
use Rattle.further_world_laws.specs.Parts.{greatest_by}

-- ---- the same lists

pub longest_as : {P Q : List ℕ → Type 0} (n : ℕ) → ((is : List ℕ) → P is → Q is) → ((is : List ℕ) → Q is → P is) → IsLongest P n → IsLongest Q n
longest_as n to from is = record {
  bounded = λ js q. is.bounded js (from js q);
  reached = ⊎_elim (λ none. inl (none.0, λ js q. none.1 js (from js q))) (λ one. inr (one.0, (to one.0 one.1.0, one.1.1))) is.reached;
}

-- ---- none, and some

none_many : (P : List ℕ → Type 0) → ((is : List ℕ) → P is → ⊥) → AreSoMany P (min 0 COUNT_CAP)
none_many P none = record {
  words = [];
  are_all = record { each = λ is h. absurd h; all = λ is h. none is h; once = tt };
  count = refl;
}

has_one : (is : List ℕ) (words : List (List ℕ)) → IsAmong is words → 0 < length words
has_one is [] h = absurd h
has_one is (word ∷ words) h = omega arith

one_capped : (cap n m : ℕ) → 0 < cap → 0 < n → m ≡ min n cap → 0 < m
one_capped cap n m wide lt e = omega arith

cap_wide : 0 < COUNT_CAP
cap_wide = omega arith

pub some_counted : (P : List ℕ → Type 0) (n : ℕ) → AreSoMany P n → (is : List ℕ) → P is → 0 < n
some_counted P n so is h = one_capped COUNT_CAP (length so.words) n cap_wide (has_one is so.words (so.are_all.all is h)) so.count

zero_capped : (cap n : ℕ) → n ≡ min 0 cap → 0 < n → ⊥
zero_capped cap n e lt = omega arith

pub counted_some : (P : List ℕ → Type 0) (n : ℕ) → AreSoMany P n → 0 < n → (is : List ℕ) × P is
counted_some P n so lt = by so.words so.are_all.each so.count
  where
    by : (words : List (List ℕ)) → ((is : List ℕ) → IsAmong is words → P is) → n ≡ min (length words) COUNT_CAP → (is : List ℕ) × P is
    by [] each e = absurd (zero_capped COUNT_CAP n e lt)
    by (word ∷ words) each e = (word, each word (inl refl))

-- ---- of either kind

capped_more : (cap m n : ℕ) → min (m + min n cap) cap ≡ min (m + n) cap
capped_more cap m n = omega arith

both_many : (P Q : List ℕ → Type 0) (m n : ℕ) → AreSoMany P m → AreSoMany Q n → ((is : List ℕ) → P is → Q is → ⊥)
    → AreSoMany (λ is. P is ⊎ Q is) (min (m + n) COUNT_CAP)
both_many P Q m n so many apart = record {
  words = so.words ++ many.words;
  are_all = record {
    each = λ is h. ⊎_elim (λ a. inl (so.are_all.each is a)) (λ b. inr (many.are_all.each is b)) (among_split is so.words many.words h);
    all = λ is h. ⊎_elim (λ a. among_left is so.words many.words (so.are_all.all is a)) (λ b. among_right is so.words many.words (many.are_all.all is b)) h;
    once = once_joined so.words many.words so.are_all.once many.are_all.once (λ is a b. apart is (so.are_all.each is a) (many.are_all.each is b));
  };
  count = capped_sum COUNT_CAP (length so.words) (length many.words) m n so.count many.count
      ∙ ap (λ k. min k COUNT_CAP) (sym (length-append so.words many.words));
}

at_left : (k m n : ℕ) → k ≤ m → k ≤ max m n
at_left k m n le = omega arith

at_right : (k m n : ℕ) → k ≤ n → k ≤ max m n
at_right k m n le = omega arith

none_left : (k m n : ℕ) → m ≡ 0 → k ≡ n → k ≡ max m n
none_left k m n e f = omega arith

none_right : (k m n : ℕ) → n ≡ 0 → k ≡ m → k ≡ max m n
none_right k m n e f = omega arith

none_at_all : (m n : ℕ) → m ≡ 0 → n ≡ 0 → max m n ≡ 0
none_at_all m n e f = omega arith

module _ (P Q : List ℕ → Type 0) (m n : ℕ) (is : IsLongest P m) (are : IsLongest Q n) where
  both_longest : IsLongest (λ js. P js ⊎ Q js) (max m n)
  both_longest = record {
    bounded = λ js h. ⊎_elim (λ p. at_left (length js) m n (is.bounded js p)) (λ q. at_right (length js) m n (are.bounded js q)) h;
    reached =
        ⊎_elim
        (λ none. ⊎_elim
        (λ also. inl (none_at_all m n none.0 also.0, λ js h. ⊎_elim (λ p. none.1 js p) (λ q. also.1 js q) h))
        (λ one. inr (one.0, (inr one.1.0, none_left (length one.0) m n none.0 one.1.1)))
        are.reached)
        (λ one. ⊎_elim
        (λ none. inr (one.0, (inl one.1.0, none_right (length one.0) m n none.0 one.1.1)))
        (λ other. ⊎_elim
        (λ e. inr (one.0, (inl one.1.0, one.1.1 ∙ sym e)))
        (λ e. inr (other.0, (inr other.1.0, other.1.1 ∙ sym e)))
        (longer m n))
        are.reached)
        is.reached;
  }

-- ---- of one of many kinds

abbrev pub InSome : {A : Type 0} → (A → List ℕ → Type 0) → List A → List ℕ → Type 0
InSome {A} P xs is = (x : A) × (IsAmong x xs × P x is)

module _ {A : Type 0} (P : A → List ℕ → Type 0) (number : A → ℕ) where
  to_some : (x : A) (xs : List A) (is : List ℕ) → P x is ⊎ InSome P xs is → InSome P (x ∷ xs) is
  to_some x xs is h = ⊎_elim (λ p. (x, (inl refl, p))) (λ q. (q.0, (inr q.1.0, q.1.1))) h

  from_some : (x : A) (xs : List A) (is : List ℕ) → InSome P (x ∷ xs) is → P x is ⊎ InSome P xs is
  from_some x xs is h = ⊎_elim (λ e. inl (subst (λ y. P y is) e h.1.1)) (λ q. inr (h.0, (q, h.1.1))) h.1.0

  -- numbers of lists add up, where none is of two kinds
  pub sum_many : (xs : List A) → EachOnce xs → ((x : A) → IsAmong x xs → AreSoMany (P x) (number x))
      → ((x y : A) (is : List ℕ) → IsAmong x xs → IsAmong y xs → P x is → P y is → x ≡ y)
      → AreSoMany (InSome P xs) (min (sum_by number xs) COUNT_CAP)
  sum_many [] once many alone = none_many (InSome P []) (λ is h. h.1.0)
  sum_many (x ∷ xs) once many alone =
      let rest : AreSoMany (InSome P xs) (min (sum_by number xs) COUNT_CAP) =
      sum_many xs once.1 (λ y h. many y (inr h)) (λ y z is h k p q. alone y z is (inr h) (inr k) p q) in
      subst (λ n. AreSoMany (InSome P (x ∷ xs)) n)
      (capped_more COUNT_CAP (number x) (sum_by number xs) ∙ ap (λ n. min n COUNT_CAP) (sym (sum_by-cons number x xs)))
      (so_many_as (min (number x + min (sum_by number xs) COUNT_CAP) COUNT_CAP) (to_some x xs) (from_some x xs)
      (both_many (P x) (InSome P xs) (number x) (min (sum_by number xs) COUNT_CAP) (many x (inl refl)) rest
      (λ is p q. once.0 (subst (λ y. IsAmong y xs) (sym (alone x q.0 is (inl refl) (inr q.1.0) p q.1.1)) q.1.0))))

  -- and the longest of all is the longest of the longest
  pub sum_longest : (xs : List A) → ((x : A) → IsAmong x xs → IsLongest (P x) (number x)) → IsLongest (InSome P xs) (greatest_by number xs)
  sum_longest [] each = record { bounded = λ is h. absurd h.1.0; reached = inl (refl, λ is h. h.1.0) }
  sum_longest (x ∷ xs) each =
      longest_as (max (number x) (greatest_by number xs)) (to_some x xs) (from_some x xs)
      (both_longest (P x) (InSome P xs) (number x) (greatest_by number xs) (each x (inl refl)) (sum_longest xs (λ y h. each y (inr h))))
