-- By paired handles of its own an actor's step comes to the same on the same nodes.
use Rattle.std.proofs.Common.{◌≡◌, ◌≢◌, ⊎_elim, ◌⊎◌, inl, inr, ℕ, ◌+◌, zero, suc, ◌<◌, Bool, true, false, not, ◌==◌, List, [], ◌∷◌, ◌++◌, length, Option, Some, None, slice_get, slice_set, refl, sym, ap, ◌∙◌, subst, eqb-true, eq-eqb, length-append, length-set, arith}
use Rattle.std.proofs.lemmas.Bool.{false≢true, cases_eq}
use Rattle.path_text.specs.declared.errno.Errno.TheVariants.{NotFound, NotDir}
use Rattle.tree_model.specs.declared.answer.Answer.TheVariants.{Opened, Listed}
use Rattle.tree_model.specs.declared.inode.Inode.{Inode}
use Rattle.tree_model.specs.declared.inode.Object.TheVariants as object
use Rattle.tree_model.specs.declared.inode.OpenHandle.{OpenHandle}
use Rattle.tree_model.specs.StepWith.{StepWith}
use Rattle.tree_model.specs.State.{State, object_at, child, parent, is_dir, names_below, names_in, sorted_names}
use Rattle.tree_model.specs.Entries.{makes, makes_link, removes_file, removes_dir, renames}
use Rattle.tree_model.specs.StepLaws.{open_count}
use Rattle.tree_model.specs.Steps.{Outcome, kind_of, node_held, held, held_count, is_full, with_handle, outcome}
use Rattle.tree_model.proofs.Counts.{handles_are_counted}
use Rattle.tree_model.proofs.Places.{slice_get-last}
use Rattle.tree_model.proofs.StepLaws.{slice_get-set_other, held_closed}
use Rattle.bulk_ops.proofs.WalkParts.{in_front}
use Rattle.local_states.specs.Alike.{Pairs, SameSteps, SameAnswers}
use Rattle.local_states.specs.Local.{GivenAlike, IsOwnPair}
use Rattle.local_states.specs.Paired.{AreApart}
use Rattle.local_states.proofs.Alike.Paired.{below_or}
use Rattle.local_states.proofs.Alike.Steps.{SameNumbers, code, decode, bit, unbit, Paired, open', dup', parent', read', below', list', close', make_dir', make_file', make_link', remove_file', remove_dir', rename', paired_of, AlikeEnds, tells, opens_on, closes, changes_to, other, on_both, some_both, if_both, opens_both, reads_both, shows_both, changes_both, grown, grown_old, grown_cases, grown_new, blind_answer, same_close, counts_alike}

-- the two trees have the same nodes, and the actor has as many handles open; it holds the same by the numbers of each
-- pair, and each pair is apart from the others
pub record PartBy (a : ℕ) (pairs : Pairs) (s t : State) : Type 0 where
  pub nodes : s.nodes ≡ t.nodes
  pub held_handles : held_count s a ≡ held_count t a
  pub paired : (h k : ℕ) → pairs h k ≡ true → IsOwnPair a s t h k
  pub apart : (h k j l : ℕ) → pairs h k ≡ true → pairs j l ≡ true → AreApart h k j l

same_tests : (h k j l : ℕ) → AreApart h k j l → (h == j) ≡ (k == l)
same_tests h k j l both = go (h == j) (k == l) refl refl
  where
    go : (b c : Bool) → (h == j) ≡ b → (k == l) ≡ c → (h == j) ≡ (k == l)
    go true true e e' = e ∙ sym e'
    go false false e e' = e ∙ sym e'
    go true false e e' = absurd (false≢true (sym e' ∙ eq-eqb k l (both.0 (eqb-true h j e))))
    go false true e e' = absurd (false≢true (sym e ∙ eq-eqb h j (both.1 (eqb-true k l e'))))

module _ (a : ℕ) (pairs : Pairs) (s t : State) (part : PartBy a pairs s t) where
  pub own_held : (h k : ℕ) → SameNumbers pairs h k → held s a h ≡ held t a k
  own_held h k same =
      decode (held s a h) (held t a k)
      (same (λ j. code (held s a j)) (λ l. code (held t a l)) (λ j l p. ap code (part.paired j l p).holds))

  -- one of the pair is a number that is in a pair just where the other is
  own_together : (h k : ℕ) → SameNumbers pairs h k → (j l : ℕ) → pairs j l ≡ true → AreApart h k j l
  own_together h k same j l p =
      let equal : (h == j) ≡ (k == l) =
      unbit (h == j) (k == l)
      (same (λ x. bit (x == j)) (λ y. bit (y == l))
      (λ x y q. ap bit (same_tests x y j l (part.apart x y j l q p)))) in
      ((λ e. eqb-true k l (sym equal ∙ eq-eqb h j e)), (λ e. eqb-true h j (equal ∙ eq-eqb k l e)))

-- ---- what a step comes to in both trees

module _ (a : ℕ) (pairs : Pairs) (s : State) (handles : List (Option OpenHandle))
    (part : PartBy a pairs s (other s handles)) where
  own_both : (x y : StepWith ℕ) → is_full s a ≡ is_full (other s handles) a → Paired pairs x y
      → AlikeEnds s (other s handles) a pairs (outcome s a x) (outcome (other s handles) a y)
  own_both x y same (open' h k n p) =
      on_both pairs s handles a _ _ (own_held a pairs s (other s handles) part h k p) _ _ (λ d.
      if_both pairs s handles a (not (is_dir s.nodes d)) _ refl NotDir _ _
      (some_both pairs s handles a (child s.nodes d n) NotFound _ _ (λ c. opens_both pairs s handles a same c)))
  own_both x y same (dup' h k p) =
      on_both pairs s handles a _ _ (own_held a pairs s (other s handles) part h k p) _ _
      (λ d. opens_both pairs s handles a same d)
  own_both x y same (parent' h k p) =
      on_both pairs s handles a _ _ (own_held a pairs s (other s handles) part h k p) _ _ (λ d.
      if_both pairs s handles a (not (is_dir s.nodes d)) _ refl NotDir _ _
      (some_both pairs s handles a (parent s.nodes d) NotFound _ _ (λ c. opens_both pairs s handles a same c)))
  own_both x y same (read' h k p) =
      on_both pairs s handles a _ _ (own_held a pairs s (other s handles) part h k p) _ _
      (λ d. reads_both pairs s handles a (object_at s.nodes d))
  own_both x y same (below' r q h k p p') =
      on_both pairs s handles a _ _ (own_held a pairs s (other s handles) part r q p) _ _ (λ end_class.
      on_both pairs s handles a _ _ (own_held a pairs s (other s handles) part h k p') _ _
      (λ d. shows_both pairs s handles a (names_below s.nodes end_class d)))
  own_both x y same (list' h k p) =
      on_both pairs s handles a _ _ (own_held a pairs s (other s handles) part h k p) _ _ (λ d.
      if_both pairs s handles a (not (is_dir s.nodes d)) _ refl NotDir _ _
      (tells (Listed (sorted_names (names_in s.nodes d))) refl))
  own_both x y same (close' h k p) =
      on_both pairs s handles a _ _ (own_held a pairs s (other s handles) part h k p) _ _
      (λ d. closes h k (own_together a pairs s (other s handles) part h k p))
  own_both x y same (make_dir' h k n p) =
      on_both pairs s handles a _ _ (own_held a pairs s (other s handles) part h k p) _ _
      (λ d. changes_both pairs s handles a (makes s.nodes d n object.Dir))
  own_both x y same (make_file' h k n p) =
      on_both pairs s handles a _ _ (own_held a pairs s (other s handles) part h k p) _ _
      (λ d. changes_both pairs s handles a (makes s.nodes d n object.File))
  own_both x y same (make_link' h k n text p) =
      on_both pairs s handles a _ _ (own_held a pairs s (other s handles) part h k p) _ _
      (λ d. changes_both pairs s handles a (makes_link s.nodes d n text))
  own_both x y same (remove_file' h k n p) =
      on_both pairs s handles a _ _ (own_held a pairs s (other s handles) part h k p) _ _
      (λ d. changes_both pairs s handles a (removes_file s.nodes d n))
  own_both x y same (remove_dir' h k n p) =
      on_both pairs s handles a _ _ (own_held a pairs s (other s handles) part h k p) _ _
      (λ d. changes_both pairs s handles a (removes_dir s.nodes d n))
  own_both x y same (rename' h k n j l m mode p p') =
      on_both pairs s handles a _ _ (own_held a pairs s (other s handles) part h k p) _ _ (λ d.
      on_both pairs s handles a _ _ (own_held a pairs s (other s handles) part j l p') _ _
      (λ e. changes_both pairs s handles a (renames s.nodes d n e m mode)))

own_ends : (a : ℕ) (pairs : Pairs) (s t : State) → PartBy a pairs s t → is_full s a ≡ is_full t a → (x y : StepWith ℕ)
    → Paired pairs x y
    → AlikeEnds s t a pairs (outcome s a x) (outcome t a y)
own_ends a pairs s t part full x y p = go t.nodes part.nodes part
  where
    go : (nodes : List Inode) → s.nodes ≡ nodes → PartBy a pairs s (record { nodes = nodes; handles = t.handles })
        → AlikeEnds s (record { nodes = nodes; handles = t.handles }) a pairs (outcome s a x)
        (outcome (record { nodes = nodes; handles = t.handles }) a y)
    go nodes e =
        subst (λ nodes. PartBy a pairs s (record { nodes = nodes; handles = t.handles })
        → AlikeEnds s (record { nodes = nodes; handles = t.handles }) a pairs (outcome s a x)
        (outcome (record { nodes = nodes; handles = t.handles }) a y))
        e (λ same. own_both a pairs s t.handles same x y full p)

-- ---- a handle more

beyond : {A : Type 0} (xs : List A) (y : A) (i : ℕ) → length xs < i → slice_get (xs ++ y ∷ []) i ≡ None
beyond [] y zero lt = absurd (omega arith)
beyond [] y (suc i) lt = refl
beyond (x ∷ xs) y zero lt = absurd (omega arith)
beyond (x ∷ xs) y (suc i) lt = beyond xs y i (omega arith)

module _ (a x : ℕ) (s t : State) where
  abbrev entry : Option OpenHandle
  entry = Some (record { actor = a; node = x })

  old_holds : (h k : ℕ) → h < length s.handles → k < length t.handles → held s a h ≡ held t a k
      → held (with_handle s a x) a h ≡ held (with_handle t a x) a k
  old_holds h k lt lt' same =
      ap (node_held a) (in_front s.handles (entry ∷ []) h lt)
      ∙ (same ∙ sym (ap (node_held a) (in_front t.handles (entry ∷ []) k lt')))

  new_holds : (h k : ℕ) → h ≡ length s.handles → k ≡ length t.handles
      → held (with_handle s a x) a h ≡ held (with_handle t a x) a k
  new_holds h k e e' =
      ap (λ n. node_held a (slice_get (s.handles ++ entry ∷ []) n)) e
      ∙ (ap (node_held a) (slice_get-last s.handles entry) ∙ (sym (ap (node_held a) (slice_get-last t.handles entry))
      ∙ sym (ap (λ n. node_held a (slice_get (t.handles ++ entry ∷ []) n)) e')))

  none_holds : (h k : ℕ) → length s.handles < h → length t.handles < k
      → held (with_handle s a x) a h ≡ held (with_handle t a x) a k
  none_holds h k lt lt' = ap (node_held a) (beyond s.handles entry h lt)
      ∙ sym (ap (node_held a) (beyond t.handles entry k lt'))

  more_here : length (with_handle s a x).handles ≡ length s.handles + 1
  more_here = length-append s.handles (entry ∷ [])

  more_there : length (with_handle t a x).handles ≡ length t.handles + 1
  more_there = length-append t.handles (entry ∷ [])

  old_more : (h k : ℕ) → IsOwnPair a s t h k → IsOwnPair a (with_handle s a x) (with_handle t a x) h k
  old_more h k old = by old.given old.holds
    where
      by : GivenAlike s t h k → held s a h ≡ held t a k → IsOwnPair a (with_handle s a x) (with_handle t a x) h k
      by (inl lt) same = record {
        given = inl (omega (arith, lt.0, more_here), omega (arith, lt.1, more_there));
        holds = old_holds h k lt.0 lt.1 same;
      }
      by (inr one) same = record {
        given = inr (one.0, more_here ∙ (ap (λ n. n + 1) one.1 ∙ sym more_there));
        holds = ⊎_elim (λ lt. old_holds h k lt (omega (arith, lt, one.0, one.1)) same)
            (λ or. ⊎_elim (λ e. new_holds h k e (sym one.0 ∙ (e ∙ one.1)))
            (λ lt. none_holds h k lt (omega (arith, lt, one.0, one.1))) or)
            (below_or h (length s.handles));
      }

  new_more : (h k : ℕ) → h ≡ length s.handles → k ≡ length t.handles
      → IsOwnPair a (with_handle s a x) (with_handle t a x) h k
  new_more h k e e' = record {
    given = inl (omega (arith, e, more_here), omega (arith, e', more_there));
    holds = new_holds h k e e';
  }

-- what is given alike is apart from the numbers to come
apart_new : (s t : State) (h k j l : ℕ) → GivenAlike s t h k → j ≡ length s.handles → l ≡ length t.handles
    → AreApart h k j l
apart_new s t h k j l (inl lt) e e' =
    ((λ q. absurd (omega (arith, lt.0, e, q))), (λ q. absurd (omega (arith, lt.1, e', q))))
apart_new s t h k j l (inr one) e e' =
    ((λ q. sym one.0 ∙ (q ∙ (e ∙ (one.1 ∙ sym e')))), (λ q. one.0 ∙ (q ∙ (e' ∙ (sym one.1 ∙ sym e)))))

own_apart_more : {a : ℕ} {pairs : Pairs} {s t : State} → PartBy a pairs s t → (h k j l : ℕ)
    → (pairs h k ≡ true) ⊎ ((h ≡ length s.handles) × (k ≡ length t.handles))
    → (pairs j l ≡ true) ⊎ ((j ≡ length s.handles) × (l ≡ length t.handles))
    → AreApart h k j l
own_apart_more part h k j l (inl p) (inl q) = part.apart h k j l p q
own_apart_more {s = s} {t = t} part h k j l (inl p) (inr new) =
    apart_new s t h k j l (part.paired h k p).given new.0 new.1
own_apart_more {s = s} {t = t} part h k j l (inr new) (inl q) =
    let both = apart_new s t j l h k (part.paired j l q).given new.0 new.1 in
    ((λ e. sym (both.0 (sym e))), (λ e. sym (both.1 (sym e))))
own_apart_more part h k j l (inr new) (inr newer) = ((λ e. new.1 ∙ sym newer.1), (λ e. new.0 ∙ sym newer.0))

-- ---- a handle less in both

abbrev closed_at : State → ℕ → State
closed_at s h = record { nodes = s.nodes; handles = slice_set s.handles h None }

given_fewer : (s t : State) (h k j l : ℕ) → GivenAlike s t j l → GivenAlike (closed_at s h) (closed_at t k) j l
given_fewer s t h k j l (inl lt) =
    let same = length-set s.handles h None in
    let same' = length-set t.handles k None in
    inl (omega (arith, lt.0, same), omega (arith, lt.1, same'))
given_fewer s t h k j l (inr one) =
    inr (one.0, length-set s.handles h None ∙ (one.1 ∙ sym (length-set t.handles k None)))

own_fewer : (a : ℕ) (s t : State) (h k j l : ℕ) → AreApart h k j l → IsOwnPair a s t j l
    → IsOwnPair a (closed_at s h) (closed_at t k) j l
own_fewer a s t h k j l both old = record {
  given = given_fewer s t h k j l old.given;
  holds = ⊎_elim closed another (cases_eq h j);
}
  where
    closed : h ≡ j → held (closed_at s h) a j ≡ held (closed_at t k) a l
    closed q =
        subst (λ j. held (closed_at s h) a j ≡ None) q (held_closed s.handles h a)
        ∙ sym (subst (λ l. held (closed_at t k) a l ≡ None) (both.0 q) (held_closed t.handles k a))

    another : h ≢ j → held (closed_at s h) a j ≡ held (closed_at t k) a l
    another ne =
        ap (node_held a) (slice_get-set_other s.handles h None j (λ q. ne (sym q)))
        ∙ (old.holds ∙ sym (ap (node_held a) (slice_get-set_other t.handles k None l (λ q. ne (both.1 (sym q))))))

-- ---- the trees after it

-- What was paired still is, and what is paired besides was given; the answers are the same but for pairs; and as many
-- numbers and open handles have come.
pub record AfterOwnStep (a : ℕ) (pairs : Pairs) (s t : State) (o u : Outcome) : Type 0 where
  pub more : Pairs
  pub grows : (h k : ℕ) → pairs h k ≡ true → more h k ≡ true
  pub news : (h k : ℕ) → more h k ≡ true
      → (pairs h k ≡ true) ⊎ ((h < length o.after.handles) × (k < length u.after.handles))
  pub trees : PartBy a more o.after u.after
  pub answers : SameAnswers more o.answer u.answer
  pub numbers : length o.after.handles + length t.handles ≡ length u.after.handles + length s.handles
  pub open_handles : open_count o.after + open_count t ≡ open_count u.after + open_count s

pub either_way : (m n : ℕ) → m + n ≡ n + m
either_way m n = omega arith

pub one_each : (m' n' m n : ℕ) → m' ≡ m + 1 → n' ≡ n + 1 → m' + n ≡ n' + m
one_each m' n' m n e e' = omega arith

none_each : (m' n' m n : ℕ) → m' ≡ m → n' ≡ n → m' + n ≡ n' + m
none_each m' n' m n e e' = omega arith

after_own_ends : {a : ℕ} {pairs : Pairs} {s t : State} {o u : Outcome} → PartBy a pairs s t → AlikeEnds s t a pairs o u
    → held_count o.after a ≡ held_count u.after a
    → open_count o.after + open_count t ≡ open_count u.after + open_count s → AfterOwnStep a pairs s t o u
after_own_ends {a} {pairs} {s} {t} part (tells answer e) held_handles open_handles = record {
  more = pairs;
  grows = λ h k p. p;
  news = λ h k p. inl p;
  trees = part;
  answers = λ f g agree. blind_answer answer e f ∙ sym (blind_answer answer e g);
  numbers = either_way (length s.handles) (length t.handles);
  open_handles = open_handles;
}
after_own_ends {a} {pairs} {s} {t} part (opens_on x what) held_handles open_handles = record {
  more = grown pairs (length s.handles) (length t.handles);
  grows = λ h k p. grown_old pairs (length s.handles) (length t.handles) h k p;
  news = λ h k p. ⊎_elim (λ old. inl old)
      (λ new. inr (omega (arith, new.0, more_here a x s t), omega (arith, new.1, more_there a x s t)))
      (grown_cases pairs (length s.handles) (length t.handles) h k p);
  trees = record {
    nodes = part.nodes;
    held_handles = held_handles;
    paired = λ h k p. ⊎_elim (λ old. old_more a x s t h k (part.paired h k old))
        (λ new. new_more a x s t h k new.0 new.1)
        (grown_cases pairs (length s.handles) (length t.handles) h k p);
    apart = λ h k j l p q. own_apart_more part h k j l
        (grown_cases pairs (length s.handles) (length t.handles) h k p)
        (grown_cases pairs (length s.handles) (length t.handles) j l q);
  };
  answers = λ f g agree. ap (λ h. Opened h x (kind_of what))
      (agree (length s.handles) (length t.handles) (grown_new pairs (length s.handles) (length t.handles)));
  numbers = one_each _ _ (length s.handles) (length t.handles) (more_here a x s t) (more_there a x s t);
  open_handles = open_handles;
}
after_own_ends {a} {pairs} {s} {t} part (closes h k both) held_handles open_handles = record {
  more = pairs;
  grows = λ h k p. p;
  news = λ h k p. inl p;
  trees = record {
    nodes = part.nodes;
    held_handles = held_handles;
    paired = λ j l p. own_fewer a s t h k j l (both j l p) (part.paired j l p);
    apart = part.apart;
  };
  answers = λ f g agree. refl;
  numbers = none_each _ _ (length s.handles) (length t.handles) (length-set s.handles h None)
      (length-set t.handles k None);
  open_handles = open_handles;
}
after_own_ends {a} {pairs} {s} {t} part (changes_to nodes) held_handles open_handles = record {
  more = pairs;
  grows = λ h k p. p;
  news = λ h k p. inl p;
  trees = record {
    nodes = refl;
    held_handles = held_handles;
    paired = λ h k p. let old = part.paired h k p in record { given = old.given; holds = old.holds };
    apart = part.apart;
  };
  answers = λ f g agree. refl;
  numbers = either_way (length s.handles) (length t.handles);
  open_handles = open_handles;
}

-- By paired handles a step of the actor comes to the same.
pub own_steps : (a : ℕ) (pairs : Pairs) (s t : State) → PartBy a pairs s t → is_full s a ≡ is_full t a
    → (x y : StepWith ℕ) → SameSteps pairs x y
    → AfterOwnStep a pairs s t (outcome s a x) (outcome t a y)
own_steps a pairs s t part full x y same =
    let ends = own_ends a pairs s t part full x y (paired_of pairs x y same) in
    let counts = counts_alike x y (same_close pairs x y same) ends in
    let here = handles_are_counted s a x in
    let there = handles_are_counted t a y in
    after_own_ends part ends
    (omega (arith, here.0, there.0, counts.0, counts.1, part.held_handles))
    (omega (arith, here.1, there.1, counts.0, counts.1))
