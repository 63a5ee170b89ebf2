-- Counts of words put together.
use Rattle.std.specs.Prelude.{◌≡◌, ◌≤◌, ◌+◌, ◌++◌, ℕ, suc, min, max, List, [], ◌∷◌, map, length, Bool, true, false, Option, Some, None, if◌then◌else◌, refl}
use Rattle.std.specs.Global.{Vec}
use Rattle.std.proofs.Common.{◌⊎◌, ◌∙◌, inl, inr, sym, ap, subst, ⊎_elim, arith, length-append}
use Rattle.std.proofs.lemmas.List.{append_cancel_right, length-map}
use Rattle.schedule_graph.specs.declared.graph.Edge.{Edge}
use Rattle.schedule_graph.specs.declared.graph.Node.{Node}
use Rattle.schedule_graph.specs.declared.count.Count.{Count}
use Rattle.schedule_graph.specs.declared.count.TheConstants.{COUNT_CAP}
use Rattle.schedule_graph.specs.Words.{Rank, is_at_most, rank}
use Rattle.schedule_graph.specs.Counted.{IsAmong, AreSoMany, IsLongest, IsLeastWord, IsLeast, IsCount}
use Rattle.schedule_graph.specs.Adding.{went, lesser, added}
use Rattle.schedule_graph.proofs.Among.{among_left, among_right, among_split, once_joined, among_mapped, among_unmapped, once_mapped}
use Rattle.schedule_graph.proofs.Ranks.{ranks_total, ranks_chain, went_at_most}

-- ---- the same words

least_moved : (rk : List ℕ → Rank) (P Q : List ℕ → Type 0) → ((w : List ℕ) → P w → Q w) → ((w : List ℕ) → Q w → P w) → (least : Option Rank) → IsLeast rk P least → IsLeast rk Q least
least_moved rk P Q to from None is = λ w h. is w (from w h)
least_moved rk P Q to from (Some r) is = record { is = to r.turns is.is; ranked = is.ranked; below = λ w h. is.below w (from w h) }

pub moved : (rk : List ℕ → Rank) (P Q : List ℕ → Type 0) (c : Count) → ((w : List ℕ) → P w → Q w) → ((w : List ℕ) → Q w → P w) → IsCount rk P c → IsCount rk Q c
moved rk P Q c to from is = record {
  words = record {
    words = is.words.words;
    are_all = record {
      each = λ w h. to w (is.words.are_all.each w h);
      all = λ w h. is.words.are_all.all w (from w h);
      once = is.words.are_all.once;
    };
    count = is.words.count;
  };
  longest = record {
    bounded = λ w h. is.longest.bounded w (from w h);
    reached = ⊎_elim (λ none. inl (none.0, λ w h. none.1 w (from w h))) (λ some. inr (some.0, (to some.0 some.1.0, some.1.1))) is.longest.reached;
  };
  least = least_moved rk P Q to from c.least is.least;
}

-- ---- none, and the word of no labels

pub none_capped : (cap : ℕ) → 0 ≡ min 0 cap
none_capped cap = grind arith

pub counted_none : (rk : List ℕ → Rank) (P : List ℕ → Type 0) → ((w : List ℕ) → P w → ⊥) → IsCount rk P (record { words = 0; longest = 0; least = None })
counted_none rk P none = record {
  words = record {
    words = [];
    are_all = record { each = λ w h. absurd h; all = λ w h. none w h; once = tt };
    count = none_capped COUNT_CAP;
  };
  longest = record { bounded = λ w h. absurd (none w h); reached = inl (refl, none) };
  least = none;
}

-- ---- the same words

pub so_many_as : {P Q : List ℕ → Type 0} (n : ℕ) → ((is : List ℕ) → P is → Q is) → ((is : List ℕ) → Q is → P is) → AreSoMany P n → AreSoMany Q n
so_many_as n to from so = record {
  words = so.words;
  are_all = record {
    each = λ is h. to is (so.are_all.each is h);
    all = λ is q. so.are_all.all is (from is q);
    once = so.are_all.once;
  };
  count = so.count;
}

-- ---- words of two kinds

pub longer : (m n : ℕ) → (max m n ≡ m) ⊎ (max m n ≡ n)
longer m n = grind arith

pub capped_sum : (cap a b m n : ℕ) → m ≡ min a cap → n ≡ min b cap → min (m + n) cap ≡ min (a + b) cap
capped_sum cap a b m n e f = omega arith

module _ (rk : List ℕ → Rank) (P Q : List ℕ → Type 0) (c m : Count) (r : Rank) (is : IsCount rk P c) (more : IsCount rk Q m)
    (least : m.least ≡ Some r) (long : (w : List ℕ) → Q w → length w ≡ length r.turns) (apart : (w : List ℕ) → P w → Q w → ⊥) where
  own : IsLeastWord rk Q r
  own = subst (IsLeast rk Q) least more.least

  both_many : AreSoMany (λ w. P w ⊎ Q w) (min (c.words + m.words) COUNT_CAP)
  both_many = record {
    words = is.words.words ++ more.words.words;
    are_all = record {
      each = λ w h. ⊎_elim (λ a. inl (is.words.are_all.each w a)) (λ b. inr (more.words.are_all.each w b)) (among_split w is.words.words more.words.words h);
      all = λ w h. ⊎_elim (λ a. among_left w is.words.words more.words.words (is.words.are_all.all w a))
          (λ b. among_right w is.words.words more.words.words (more.words.are_all.all w b)) h;
      once = once_joined is.words.words more.words.words is.words.are_all.once more.words.are_all.once
          (λ w a b. apart w (is.words.are_all.each w a) (more.words.are_all.each w b));
    };
    count = capped_sum COUNT_CAP (length is.words.words) (length more.words.words) c.words m.words is.words.count more.words.count
        ∙ ap (λ n. min n COUNT_CAP) (sym (length-append is.words.words more.words.words));
  }

  both_longest : IsLongest (λ w. P w ⊎ Q w) (max c.longest (length r.turns))
  both_longest = record {
    bounded = λ w h. ⊎_elim (λ a. at_left (length w) c.longest (length r.turns) (is.longest.bounded w a)) (λ b. at_right (length w) c.longest (length r.turns) (long w b)) h;
    reached = inr (⊎_elim
        (λ none. (r.turns, (inr own.is, none_left c.longest (length r.turns) none.0)))
        (λ some. ⊎_elim (λ e. (some.0, (inl some.1.0, some.1.1 ∙ sym e))) (λ e. (r.turns, (inr own.is, sym e))) (longer c.longest (length r.turns)))
        is.longest.reached);
  }
    where
      at_left : (a m n : ℕ) → a ≤ m → a ≤ max m n
      at_left a m n le = omega arith

      at_right : (a m n : ℕ) → a ≡ n → a ≤ max m n
      at_right a m n e = omega arith

      none_left : (m n : ℕ) → m ≡ 0 → n ≡ max m n
      none_left m n e = omega arith

  -- the kept one is less
  kept : (q : Rank) → IsLeastWord rk P q → is_at_most q r ≡ true → IsLeastWord rk (λ w. P w ⊎ Q w) q
  kept q old e = record {
    is = inl old.is;
    ranked = old.ranked;
    below = λ w h. ⊎_elim (λ a. old.below w a)
        (λ b. ranks_chain (rk q.turns) (rk r.turns) (rk w)
        (subst (λ s. is_at_most (rk q.turns) s ≡ true) own.ranked (subst (λ s. is_at_most s r ≡ true) old.ranked e)) (own.below w b)) h;
  }

  -- the new one is less
  new_least : (q : Rank) → IsLeastWord rk P q → is_at_most q r ≡ false → IsLeastWord rk (λ w. P w ⊎ Q w) r
  new_least q old e = record {
    is = inr own.is;
    ranked = own.ranked;
    below = λ w h. ⊎_elim
        (λ a. ranks_chain (rk r.turns) (rk q.turns) (rk w)
        (subst (λ s. is_at_most (rk r.turns) s ≡ true) old.ranked (subst (λ s. is_at_most s q ≡ true) own.ranked (ranks_total q r e))) (old.below w a))
        (λ b. own.below w b) h;
  }

  first_least : ((w : List ℕ) → P w → ⊥) → IsLeastWord rk (λ w. P w ⊎ Q w) r
  first_least none = record { is = inr own.is; ranked = own.ranked; below = λ w h. ⊎_elim (λ a. absurd (none w a)) (λ b. own.below w b) h }

  both_least : (old : Option Rank) → IsLeast rk P old → IsLeastWord rk (λ w. P w ⊎ Q w) (lesser old r)
  both_least None none = first_least none
  both_least (Some q) old = by (is_at_most q r) refl
    where
      by : (b : Bool) → is_at_most q r ≡ b → IsLeastWord rk (λ w. P w ⊎ Q w) (if b then q else r)
      by true e = kept q old e
      by false e = new_least q old e

  -- words of the second kind are counted with those of the first
  pub counted_both : IsCount rk (λ w. P w ⊎ Q w) (added c m.words r)
  counted_both = record { words = both_many; longest = both_longest; least = both_least c.least is.least }

-- ---- words that go on by an edge

-- such a word, and that label
abbrev pub Onward : (List ℕ → Type 0) → ℕ → List ℕ → Type 0
Onward Q label w = (q : List ℕ) × (Q q × (w ≡ q ++ label ∷ []))

module _ (layers : List (Vec Node)) (Q : List ℕ → Type 0) (m : Count) (r : Rank) (edge : Edge) (n : ℕ) (is : IsCount (rank layers) Q m) (least : m.least ≡ Some r)
    (long : (w : List ℕ) → Q w → length w ≡ n) (goes : (w : List ℕ) → Q w → rank layers (w ++ edge.label ∷ []) ≡ went (rank layers w) edge) where
  old : IsLeastWord (rank layers) Q r
  old = subst (IsLeast (rank layers) Q) least is.least

  onward_many : AreSoMany (Onward Q edge.label) m.words
  onward_many = record {
    words = map (λ v. v ++ edge.label ∷ []) is.words.words;
    are_all = record {
      each = λ w h. let found = among_unmapped (λ v. v ++ edge.label ∷ []) w is.words.words h in (found.0, (is.words.are_all.each found.0 found.1.0, found.1.1));
      all = λ w h. subst (λ v. IsAmong v (map (λ u. u ++ edge.label ∷ []) is.words.words)) (sym h.1.1)
          (among_mapped (λ v. v ++ edge.label ∷ []) h.0 is.words.words (is.words.are_all.all h.0 h.1.0));
      once = once_mapped (λ v. v ++ edge.label ∷ []) (λ x y e. append_cancel_right x y (edge.label ∷ []) e) is.words.words is.words.are_all.once;
    };
    count = is.words.count ∙ ap (λ k. min k COUNT_CAP) (sym (length-map is.words.words (λ v. v ++ edge.label ∷ [])));
  }

  one_more : (q : List ℕ) → Q q → length (q ++ edge.label ∷ []) ≡ suc n
  one_more q h = let l = length-append q (edge.label ∷ []) in let k = long q h in omega arith

  onward_longest : IsLongest (Onward Q edge.label) (suc n)
  onward_longest = record {
    bounded = λ w h. let e : length w ≡ suc n = ap length h.1.1 ∙ one_more h.0 h.1.0 in omega arith;
    reached = inr (r.turns ++ edge.label ∷ [], ((r.turns, (old.is, refl)), one_more r.turns old.is));
  }

  onward_below : (q : List ℕ) → Q q → is_at_most (rank layers (r.turns ++ edge.label ∷ [])) (rank layers (q ++ edge.label ∷ [])) ≡ true
  onward_below q h =
      subst (λ s. is_at_most s (rank layers (q ++ edge.label ∷ [])) ≡ true) (sym (goes r.turns old.is))
      (subst (λ s. is_at_most (went (rank layers r.turns) edge) s ≡ true) (sym (goes q h))
      (went_at_most (rank layers r.turns) (rank layers q) edge (long r.turns old.is ∙ sym (long q h)) (old.below q h)))

  onward_least : IsLeastWord (rank layers) (Onward Q edge.label) (went r edge)
  onward_least = record {
    is = (r.turns, (old.is, refl));
    ranked = ap (λ s. went s edge) old.ranked ∙ sym (goes r.turns old.is);
    below = λ w h. subst (λ v. is_at_most (rank layers (r.turns ++ edge.label ∷ [])) (rank layers v) ≡ true) (sym h.1.1) (onward_below h.0 h.1.0);
  }

  -- they are as many, and the least is the one before that goes on
  pub counted_onward : IsCount (rank layers) (Onward Q edge.label) (record { words = m.words; longest = suc n; least = Some (went r edge) })
  counted_onward = record { words = onward_many; longest = onward_longest; least = onward_least }
