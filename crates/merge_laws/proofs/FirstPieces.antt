-- The first pieces of outcomes, where all pieces are put in the order of their least lists.
use Rattle.std.proofs.Common.{◌≡◌, ◌+◌, ℕ, Bool, true, false, List, [], ◌∷◌, ◌++◌, ◌⊎◌, arith, refl, sym, ap, ◌∙◌, inl, inr, subst, ⊎_elim}
use Rattle.std.specs.Prelude.{⊤, map, sum_by, if◌then◌else◌}
use Rattle.std.proofs.lemmas.Bool.{true≢false}
use Rattle.std.proofs.lemmas.List.{map-append}
use Rattle.std.proofs.lemmas.List.Sums.{sum_by-cons}
use Rattle.schedule_graph.specs.Counted.{IsAmong}
use Rattle.schedule_graph.proofs.Among.{among_left, among_right, among_split}
use Rattle.schedule_graph.proofs.Ranks.{ranks_total, ranks_chain}
use Rattle.outcome_text.specs.declared.survey.Told.{Told}
use Rattle.outcome_text.specs.Order.{rank_of, comes_before, put, in_order}
use Rattle.outcome_text.specs.InPieces.{AreAlike, AreOneBut, AreFirst}

module _ {A : Type 0} (told : A → Told) where
  abbrev pub Before : A → A → Type 0
  Before x y = comes_before (told x) (told y) ≡ true

  before_on : (x y z : A) → Before x y → Before y z → Before x z
  before_on x y z e f = ranks_chain (rank_of (told x)) (rank_of (told y)) (rank_of (told z)) e f

  -- ---- in order

  abbrev put_by : A → List A → List A
  put_by x [] = x ∷ []
  put_by x (y ∷ ys) = if comes_before (told x) (told y) then x ∷ y ∷ ys else y ∷ put_by x ys

  abbrev pub order_by : List A → List A
  order_by [] = []
  order_by (x ∷ xs) = put_by x (order_by xs)

  put_mapped : (x : A) (ys : List A) → put (told x) (map told ys) ≡ map told (put_by x ys)
  put_mapped x [] = refl
  put_mapped x (y ∷ ys) = go (comes_before (told x) (told y)) (put_mapped x ys)
    where
      go : (b : Bool) → put (told x) (map told ys) ≡ map told (put_by x ys)
          → (if b then told x ∷ told y ∷ map told ys else told y ∷ put (told x) (map told ys)) ≡ map told (if b then x ∷ y ∷ ys else y ∷ put_by x ys)
      go true rest = refl
      go false rest = ap (λ (zs : List Told). told y ∷ zs) rest

  pub order_mapped : (xs : List A) → in_order (map told xs) ≡ map told (order_by xs)
  order_mapped [] = refl
  order_mapped (x ∷ xs) = ap (put (told x)) (order_mapped xs) ∙ put_mapped x (order_by xs)

  put_split : (z x : A) (ys : List A) → IsAmong z (put_by x ys) → (z ≡ x) ⊎ IsAmong z ys
  put_split z x [] h = h
  put_split z x (y ∷ ys) h = go (comes_before (told x) (told y)) h (λ q. put_split z x ys q)
    where
      go : (b : Bool) → IsAmong z (if b then x ∷ y ∷ ys else y ∷ put_by x ys) → (IsAmong z (put_by x ys) → (z ≡ x) ⊎ IsAmong z ys) → (z ≡ x) ⊎ IsAmong z (y ∷ ys)
      go true at rest = at
      go false at rest = ⊎_elim (λ e. inr (inl e)) (λ q. ⊎_elim (λ e. inl e) (λ r. inr (inr r)) (rest q)) at

  put_among : (z x : A) (ys : List A) → (z ≡ x) ⊎ IsAmong z ys → IsAmong z (put_by x ys)
  put_among z x [] h = h
  put_among z x (y ∷ ys) h = go (comes_before (told x) (told y)) (λ q. put_among z x ys q)
    where
      go : (b : Bool) → ((z ≡ x) ⊎ IsAmong z ys → IsAmong z (put_by x ys)) → IsAmong z (if b then x ∷ y ∷ ys else y ∷ put_by x ys)
      go true rest = h
      go false rest = ⊎_elim (λ e. inr (rest (inl e))) (λ q. ⊎_elim (λ e. inl e) (λ r. inr (rest (inr r))) q) h

  pub of_order : (z : A) (xs : List A) → IsAmong z (order_by xs) → IsAmong z xs
  of_order z [] h = h
  of_order z (x ∷ xs) h = ⊎_elim (λ e. inl e) (λ q. inr (of_order z xs q)) (put_split z x (order_by xs) h)

  pub in_order_too : (z : A) (xs : List A) → IsAmong z xs → IsAmong z (order_by xs)
  in_order_too z [] h = h
  in_order_too z (x ∷ xs) h = put_among z x (order_by xs) (⊎_elim (λ e. inl e) (λ q. inr (in_order_too z xs q)) h)

  -- no two come before one another
  abbrev pub HaveNoTies : List A → Type 0
  HaveNoTies [] = ⊤
  HaveNoTies (x ∷ xs) = ((z : A) → IsAmong z xs → Before x z → Before z x → ⊥) × HaveNoTies xs

  -- each comes before all that are behind it, and none of them before it
  abbrev AreStrict : List A → Type 0
  AreStrict [] = ⊤
  AreStrict (x ∷ xs) = ((z : A) → IsAmong z xs → Before x z × (Before z x → ⊥)) × AreStrict xs

  put_strict : (x : A) (ys : List A) → ((z : A) → IsAmong z ys → Before x z → Before z x → ⊥) → AreStrict ys → AreStrict (put_by x ys)
  put_strict x [] untied strict = ((λ z h. absurd h), tt)
  put_strict x (y ∷ ys) untied strict = go (comes_before (told x) (told y)) refl (put_strict x ys (λ z r. untied z (inr r)) strict.1)
    where
      ahead : Before x y → (z : A) → IsAmong z (y ∷ ys) → Before x z
      ahead e z h = ⊎_elim (λ q. subst (λ (v : A). Before x v) (sym q) e) (λ r. before_on x y z e (strict.0 z r).0) h

      go : (b : Bool) → comes_before (told x) (told y) ≡ b → AreStrict (put_by x ys) → AreStrict (if b then x ∷ y ∷ ys else y ∷ put_by x ys)
      go true e rest = ((λ z h. (ahead e z h, λ back. untied z h (ahead e z h) back)), strict)
      go false e rest = (
        (λ z h.
            ⊎_elim
            (λ q. subst (λ (v : A). Before y v × (Before v y → ⊥)) (sym q)
            (ranks_total (rank_of (told x)) (rank_of (told y)) e, (λ f. true≢false (sym f ∙ e))))
            (λ r. strict.0 z r) (put_split z x ys h)),
        rest,
      )

  order_strict : (xs : List A) → HaveNoTies xs → AreStrict (order_by xs)
  order_strict [] untied = tt
  order_strict (x ∷ xs) untied = put_strict x (order_by xs) (λ z h. untied.0 z (of_order z xs h)) (order_strict xs untied.1)

  -- ---- the first pieces

  mapped_among : (x : A) (xs : List A) → IsAmong x xs → IsAmong (told x) (map told xs)
  mapped_among x [] h = absurd h
  mapped_among x (y ∷ ys) h = ⊎_elim (λ e. inl (ap told e)) (λ q. inr (mapped_among x ys q)) h

  module _ (Same : A → A → Type 0) (alike : (x y : A) → Same x y → AreAlike (told x) (told y)) (turned : (x y : A) → Same x y → Same y x)
      (on : (x y z : A) → Same x y → Same y z → Same x z) where
    -- no two are the same
    abbrev pub AreOthers : List A → Type 0
    AreOthers [] = ⊤
    AreOthers (y ∷ ys) = ((z : A) → IsAmong z ys → Same y z → ⊥) × AreOthers ys

    -- the piece is the whole's first
    pub record IsFirstOf (x y : A) : Type 0 where
      pub one : AreOneBut (told x) (told y)
      pub same : Same x y
      pub before : Before x y
      pub behind : Before y x

    -- the whole is of that piece, and not behind it
    abbrev pub IsWholeOf : A → A → Type 0
    IsWholeOf y x = Same y x × Before y x

    record AreLeft (earlier pieces whole : List A) : Type 0 where
      wholes : (x : A) → IsAmong x pieces → ((z : A) × (IsAmong z earlier × Same z x)) ⊎ ((y : A) × (IsAmong y whole × IsWholeOf y x))
      firsts : (y : A) → IsAmong y whole → (x : A) × (IsAmong x pieces × IsFirstOf x y)
      others : AreOthers whole
      fresh : (z y : A) → IsAmong z earlier → IsAmong y whole → Same z y → ⊥
      strict : AreStrict pieces
      ordered : AreStrict whole

    next_again : (earlier : List A) (e : A) (es whole : List A) → AreLeft earlier (e ∷ es) whole → (z : A) → IsAmong z earlier → Same z e → AreLeft (earlier ++ e ∷ []) es whole
    next_again earlier e es whole left z h same = record {
      wholes = λ x k. ⊎_elim (λ a. inl (a.0, (among_left a.0 earlier (e ∷ []) a.1.0, a.1.1))) (λ b. inr b) (left.wholes x (inr k));
      firsts = λ y k.
          let at = left.firsts y k in
          ⊎_elim (λ q. absurd (left.fresh z y h k (on z e y same (subst (λ (v : A). Same v y) q at.1.1.same)))) (λ r. (at.0, (r, at.1.1))) at.1.0;
      others = left.others;
      fresh = λ v y k l m.
          ⊎_elim (λ a. left.fresh v y a l m)
          (λ b. ⊎_elim (λ q. left.fresh z y h l (on z e y same (subst (λ (u : A). Same u y) q m))) (λ none. absurd none) b)
          (among_split v earlier (e ∷ []) k);
      strict = left.strict.1;
      ordered = left.ordered;
    }

    next_first : (earlier : List A) (e t : A) (es ts : List A) → AreLeft earlier (e ∷ es) (t ∷ ts) → Same e t → AreLeft (earlier ++ e ∷ []) es ts
    next_first earlier e t es ts left same = record {
      wholes = λ x k.
          ⊎_elim (λ a. inl (a.0, (among_left a.0 earlier (e ∷ []) a.1.0, a.1.1)))
          (λ b. ⊎_elim (λ q. inl (e, (among_right e earlier (e ∷ []) (inl refl), on e t x same (subst (λ (v : A). Same v x) q b.1.1.0))))
          (λ r. inr (b.0, (r, b.1.1))) b.1.0)
          (left.wholes x (inr k));
      firsts = λ y k.
          let at = left.firsts y (inr k) in
          ⊎_elim (λ q. absurd (left.others.0 y k (on t e y (turned e t same) (subst (λ (v : A). Same v y) q at.1.1.same)))) (λ r. (at.0, (r, at.1.1))) at.1.0;
      others = left.others.1;
      fresh = λ v y k l m.
          ⊎_elim (λ a. left.fresh v y a (inr l) m)
          (λ b. ⊎_elim (λ q. left.others.0 y l (on t e y (turned e t same) (subst (λ (u : A). Same u y) q m))) (λ none. absurd none) b)
          (among_split v earlier (e ∷ []) k);
      strict = left.strict.1;
      ordered = left.ordered.1;
    }

    -- a piece whose whole is still to come is the next one's first
    is_first : (earlier : List A) (e t : A) (es ts : List A) → AreLeft earlier (e ∷ es) (t ∷ ts) → (y : A) → IsAmong y (t ∷ ts) → Before y e → IsFirstOf e t
    is_first earlier e t es ts left y h before =
        let at = left.firsts t (inl refl) in
        ⊎_elim (λ q. subst (λ (v : A). IsFirstOf v t) q at.1.1)
        (λ r.
        let first : Before t e = ⊎_elim (λ q. subst (λ (v : A). Before v e) q before) (λ k. before_on t y e (left.ordered.0 y k).0 before) h in
        absurd ((left.strict.0 at.0 r).1 (before_on at.0 t e at.1.1.before first)))
        at.1.0

    pushed : (earlier : List A) (e : A) (pieces whole : List Told) → AreFirst (map told (earlier ++ e ∷ [])) pieces whole → AreFirst (map told earlier ++ told e ∷ []) pieces whole
    pushed earlier e pieces whole h = subst (λ (xs : List Told). AreFirst xs pieces whole) (map-append told earlier (e ∷ [])) h

    are_first : (earlier pieces whole : List A) → AreLeft earlier pieces whole → AreFirst (map told earlier) (map told pieces) (map told whole)
    are_first earlier [] [] left = tt
    are_first earlier [] (t ∷ ts) left = absurd (left.firsts t (inl refl)).1.0
    are_first earlier (e ∷ es) [] left =
        ⊎_elim
        (λ a. (
          (told a.0, (mapped_among a.0 earlier a.1.0, alike a.0 e a.1.1)),
          pushed earlier e (map told es) [] (are_first (earlier ++ e ∷ []) es [] (next_again earlier e es [] left a.0 a.1.0 a.1.1)),
        ))
        (λ b. absurd b.1.0)
        (left.wholes e (inl refl))
    are_first earlier (e ∷ es) (t ∷ ts) left =
        ⊎_elim
        (λ a. inr (
          (told a.0, (mapped_among a.0 earlier a.1.0, alike a.0 e a.1.1)),
          pushed earlier e (map told es) (map told (t ∷ ts)) (are_first (earlier ++ e ∷ []) es (t ∷ ts) (next_again earlier e es (t ∷ ts) left a.0 a.1.0 a.1.1)),
        ))
        (λ b.
        let is : IsFirstOf e t = is_first earlier e t es ts left b.0 b.1.0 b.1.1.1 in
        inl (is.one, pushed earlier e (map told es) (map told ts) (are_first (earlier ++ e ∷ []) es ts (next_first earlier e t es ts left is.same))))
        (left.wholes e (inl refl))

    others_put : (x : A) (ys : List A) → ((z : A) → IsAmong z ys → Same x z → ⊥) → AreOthers ys → AreOthers (put_by x ys)
    others_put x [] untied others = ((λ z h. absurd h), tt)
    others_put x (y ∷ ys) untied others = go (comes_before (told x) (told y)) (others_put x ys (λ z r. untied z (inr r)) others.1)
      where
        go : (b : Bool) → AreOthers (put_by x ys) → AreOthers (if b then x ∷ y ∷ ys else y ∷ put_by x ys)
        go true rest = (untied, others)
        go false rest = (
          (λ z h m. ⊎_elim (λ q. untied y (inl refl) (turned y x (subst (λ (v : A). Same y v) q m))) (λ r. others.0 z r m) (put_split z x ys h)),
          rest,
        )

    others_ordered : (xs : List A) → AreOthers xs → AreOthers (order_by xs)
    others_ordered [] others = tt
    others_ordered (x ∷ xs) others = others_put x (order_by xs) (λ z h m. others.0 z (of_order z xs h) m) (others_ordered xs others.1)

    pub first_in_order : (pieces whole : List A) → ((x : A) → IsAmong x pieces → (y : A) × (IsAmong y whole × IsWholeOf y x))
        → ((y : A) → IsAmong y whole → (x : A) × (IsAmong x pieces × IsFirstOf x y)) → AreOthers whole → HaveNoTies pieces → HaveNoTies whole
        → AreFirst [] (in_order (map told pieces)) (in_order (map told whole))
    first_in_order pieces whole wholes firsts others untied none =
        subst (λ (xs : List Told). AreFirst [] xs (in_order (map told whole))) (sym (order_mapped pieces))
        (subst (λ (xs : List Told). AreFirst [] (map told (order_by pieces)) xs) (sym (order_mapped whole))
        (are_first [] (order_by pieces) (order_by whole) (record {
          wholes = λ x h. let at = wholes x (of_order x pieces h) in inr (at.0, (in_order_too at.0 whole at.1.0, at.1.1));
          firsts = λ y h. let at = firsts y (of_order y whole h) in (at.0, (in_order_too at.0 pieces at.1.0, at.1.1));
          others = others_ordered whole others;
          fresh = λ z y h k m. absurd h;
          strict = order_strict pieces untied;
          ordered = order_strict whole none;
        })))

-- ---- sums in any order

put_sum : (f : Told → ℕ) (told : Told) (others : List Told) → sum_by f (put told others) ≡ f told + sum_by f others
put_sum f told [] = sum_by-cons f told []
put_sum f told (other ∷ others) = go (comes_before told other) (put_sum f told others)
  where
    go : (b : Bool) → sum_by f (put told others) ≡ f told + sum_by f others
        → sum_by f (if b then told ∷ other ∷ others else other ∷ put told others) ≡ f told + sum_by f (other ∷ others)
    go true rest = sum_by-cons f told (other ∷ others)
    go false rest =
        let first = sum_by-cons f other (put told others) in
        let also = sum_by-cons f other others in
        omega (arith, rest, first, also)

pub order_sum : (f : Told → ℕ) (all : List Told) → sum_by f (in_order all) ≡ sum_by f all
order_sum f [] = refl
order_sum f (told ∷ all) = put_sum f told (in_order all) ∙ (ap (λ (n : ℕ). f told + n) (order_sum f all) ∙ sym (sum_by-cons f told all))
