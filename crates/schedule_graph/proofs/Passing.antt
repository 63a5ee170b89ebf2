-- From a layer to the next: what leads to each node, and the words that end on the way.
use Rattle.std.specs.Prelude.{◌≡◌, ◌<◌, ◌+◌, ◌++◌, ℕ, zero, suc, List, [], ◌∷◌, length, replicate, true, Some, None, slice_get, slice_set, refl}
use Rattle.std.specs.Global.{Vec}
use Rattle.std.proofs.Common.{◌⊎◌, ◌∙◌, inl, inr, sym, ap, subst, ⊎_elim, arith, take, drop, get_or, length-append}
use Rattle.std.proofs.lemmas.List.{length-replicate, get_or-replicate}
use Rattle.std.proofs.lemmas.Option.{same_Some, none-some, slice_get_within, get_or_from_slice_get}
use Rattle.schedule_graph.specs.declared.graph.Node.{Node}
use Rattle.schedule_graph.specs.declared.graph.Node.TheVariants.{Ends}
use Rattle.schedule_graph.specs.declared.count.Count.{Count}
use Rattle.schedule_graph.specs.declared.count.Counts.{Counts}
use Rattle.schedule_graph.specs.Words.{Rank, is_at_most, node_at, IsWord, IsWordOf, IsSomeWord, rank}
use Rattle.schedule_graph.specs.Counted.{IsCount, AreCounts}
use Rattle.schedule_graph.specs.Adding.{added}
use Rattle.schedule_graph.specs.Led.{width_at, led, LeadsTo, IsTable, Came, IsBefore, IsNext, Ended, AreTold}
use Rattle.schedule_graph.proofs.Summing.{moved, counted_none}
use Rattle.schedule_graph.proofs.Leading.{node_within, layer_within, from_within, led_more, led_split, word_led, led_word, last_of}
use Rattle.schedule_graph.proofs.Spreading.{get_set}

-- nothing counted yet
abbrev pub blank : Count
blank = record { words = 0; longest = 0; least = None }

blank_there : (n : ℕ) (xs : List Count) → xs ≡ replicate n blank → (t : ℕ) (c : Count) → slice_get xs t ≡ Some c → c ≡ blank
blank_there n xs is t c there =
    let here : slice_get (replicate n blank) t ≡ Some c = ap (λ ys. slice_get ys t) (sym is) ∙ there in
    let lt : t < n = omega (arith, slice_get_within (replicate n blank) t c here, length-replicate n blank) in
    sym (get_or_from_slice_get (replicate n blank) t c blank here) ∙ get_or-replicate n t blank blank lt

all_none : (layers : List (Vec Node)) (P : List ℕ → Type 0) (c : Count) → c ≡ blank → ((w : List ℕ) → P w → ⊥) → IsCount (rank layers) P c
all_none layers P c e none = subst (λ (d : Count). IsCount (rank layers) P d) (sym e) (counted_none (rank layers) P none)

-- ---- the next layer

pub next_first : (layers : List (Vec Node)) (k n : ℕ) (next : List Count) → next ≡ replicate n blank → IsNext layers k 0 next
next_first layers k n next is = λ t c there. all_none layers (Came layers k (IsBefore 0) t) c (blank_there n next is t c there) (λ w came. none came.node came.early)
  where
    none : (a : ℕ) → a < 0 → ⊥
    none a lt = omega arith

module _ (layers : List (Vec Node)) (k : ℕ) where
  came_led : (n t : ℕ) (w : List ℕ) → Came layers k (IsBefore n) t w → LeadsTo layers (suc k) t w
  came_led n t w came = record {
    long = ap length came.is ∙ (length-append came.before (came.label ∷ []) ∙ one_more (length came.before) came.leads.long);
    there = ap (led layers 0 0) came.is
        ∙ (led_more layers 0 0 came.before k came.node came.label came.edge came.leads.there (from_start (length came.before) came.leads.long) came.by
        ∙ ap (λ u. Some u) came.to);
  }
    where
      one_more : (a : ℕ) → a ≡ k → a + 1 ≡ suc k
      one_more a e = omega arith

      from_start : (a : ℕ) → a ≡ k → k ≡ 0 + a
      from_start a e = omega arith

  led_came : (n t : ℕ) → n ≡ width_at layers k → (w : List ℕ) → LeadsTo layers (suc k) t w → Came layers k (IsBefore n) t w
  led_came n t all w leads =
      let last = last_of w k leads.long in
      let split = led_split layers 0 0 last.0 k t last.1.0 (ap (led layers 0 0) (sym last.1.1.0) ∙ leads.there) (from_start (length last.0) last.1.1.1) in
      record {
        before = last.0;
        label = last.1.0;
        node = split.0;
        edge = split.1.0;
        is = last.1.1.0;
        leads = record { long = last.1.1.1; there = split.1.1.0 };
        early = within split.0 (from_within layers k split.0 last.1.0 split.1.0 split.1.1.1.0);
        by = split.1.1.1.0;
        to = split.1.1.1.1;
      }
    where
      from_start : (a : ℕ) → a ≡ k → k ≡ 0 + a
      from_start a e = omega arith

      within : (a : ℕ) → a < width_at layers k → a < n
      within a lt = omega arith

  -- all edges of the layer were taken
  pub next_last : (n : ℕ) (next : List Count) → n ≡ width_at layers k → IsNext layers k n next → IsTable layers (suc k) next
  next_last n next all is = λ t c there.
      moved (rank layers) (Came layers k (IsBefore n) t) (LeadsTo layers (suc k) t) c (came_led n t) (led_came n t all) (is t c there)

  -- ---- the words that ended

  module _ (n : ℕ) (all : n ≡ width_at layers k) (Class : ℕ → Type 0) where
    ended_on : (w : List ℕ) → Ended layers k n Class w → Ended layers (suc k) 0 Class w
    ended_on w h =
        ⊎_elim
        (λ short. inl (short.0, (short.1.0, (up (length w) short.1.1.0, short.1.1.1))))
        (λ here. inl (
          here.0,
          (
            here.1.1.0,
            (
              now (length w) here.1.1.1.1.0.long,
              led_word layers 0 0 w here.0 k here.1.0 here.1.1.1.1.0.there (from_start (length w) here.1.1.1.1.0.long) here.1.1.1.1.1,
            ),
          ),
        ))
        h
      where
        up : (a : ℕ) → a < k → a < suc k
        up a lt = omega arith

        now : (a : ℕ) → a ≡ k → a < suc k
        now a e = omega arith

        from_start : (a : ℕ) → a ≡ k → k ≡ 0 + a
        from_start a e = omega arith

    ended_back : (w : List ℕ) → Ended layers (suc k) 0 Class w → Ended layers k n Class w
    ended_back w h =
        ⊎_elim
        (λ short. ⊎_elim
        (λ (lt : length w < k). inl (short.0, (short.1.0, (lt, short.1.1.1))))
        (λ (e : length w ≡ k). inr (ends short.0 short.1.0 e (word_led layers 0 0 w short.0 k short.1.1.1 (from_start (length w) e))))
        (cases (length w) short.1.1.0))
        (λ here. absurd (none here.1.0 here.1.1.1.0))
        h
      where
        cases : (a : ℕ) → a < suc k → (a < k) ⊎ (a ≡ k)
        cases a lt = grind arith

        none : (a : ℕ) → a < 0 → ⊥
        none a lt = omega arith

        from_start : (a : ℕ) → a ≡ k → k ≡ 0 + a
        from_start a e = omega arith

        within : (a : ℕ) → a < width_at layers k → a < n
        within a lt = omega arith

        ends : (class : ℕ) → Class class → length w ≡ k → (t : ℕ) × ((led layers 0 0 w ≡ Some t) × (node_at layers k t ≡ Some (Ends class)))
            → (d : ℕ) × ((node : ℕ) × (Class d × ((node < n) × (LeadsTo layers k node w × (node_at layers k node ≡ Some (Ends d))))))
        ends class such e end =
            (class, (end.0, (such, (within end.0 (node_within layers k end.0 (Ends class) end.1.1), (record { long = e; there = end.1.0 }, end.1.1)))))

    ended_counted : (c : Count) → IsCount (rank layers) (Ended layers k n Class) c → IsCount (rank layers) (Ended layers (suc k) 0 Class) c
    ended_counted c is = moved (rank layers) (Ended layers k n Class) (Ended layers (suc k) 0 Class) c ended_on ended_back is

  pub told_last : (n : ℕ) (counts : Counts) → n ≡ width_at layers k → AreTold layers k n counts → AreTold layers (suc k) 0 counts
  told_last n counts all is = record {
    each = λ class c there. ended_counted n all (λ d. d ≡ class) c (is.each class c there);
    all = ended_counted n all (λ d. Unit {0}) counts.all is.all;
  }

-- ---- the first layer, and after the last one

never : (layers : List (Vec Node)) (Class : ℕ → Type 0) (w : List ℕ) → Ended layers 0 0 Class w → ⊥
never layers Class w h = ⊎_elim (λ short. none (length w) short.1.1.0) (λ here. none here.1.0 here.1.1.1.0) h
  where
    none : (a : ℕ) → a < 0 → ⊥
    none a lt = omega arith

pub told_first : (layers : List (Vec Node)) (n : ℕ) (counts : Counts) → counts.classes.items ≡ replicate n blank → counts.all ≡ blank → AreTold layers 0 0 counts
told_first layers n counts classes all = record {
  each = λ class c there. all_none layers (Ended layers 0 0 (λ d. d ≡ class)) c (blank_there n counts.classes.items classes class c there) (never layers (λ d. d ≡ class));
  all = all_none layers (Ended layers 0 0 (λ d. Unit {0})) counts.all all (never layers (λ d. Unit {0}));
}

-- a word has fewer labels than there are layers
word_short : (layers : List (Vec Node)) (w : List ℕ) (class : ℕ) → IsWord layers 0 0 w class → length w < length layers
word_short layers w class h =
    let e : length w ≡ 0 + length w = omega arith in
    let end = word_led layers 0 0 w class (length w) h e in
    layer_within layers (length w) end.0 (Ends class) end.1.1

pub told_all : (layers : List (Vec Node)) (counts : Counts) → AreTold layers (length layers) 0 counts → AreCounts layers counts
told_all layers counts told = record {
  each = λ class c there.
      moved (rank layers) (Ended layers (length layers) 0 (λ d. d ≡ class)) (IsWordOf layers class) c
      (λ w h. ⊎_elim (λ short. subst (λ d. IsWordOf layers d w) short.1.0 short.1.1.1) (λ here. absurd (none here.1.0 here.1.1.1.0)) h)
      (λ w h. inl (class, (refl, (word_short layers w class h, h))))
      (told.each class c there);
  all =
      moved (rank layers) (Ended layers (length layers) 0 (λ d. Unit {0})) (IsSomeWord layers) counts.all
      (λ w h. ⊎_elim (λ short. (short.0, short.1.1.1)) (λ here. absurd (none here.1.0 here.1.1.1.0)) h)
      (λ w h. inl (h.0, (tt, (word_short layers w h.0 h.1, h.1))))
      told.all;
}
  where
    none : (a : ℕ) → a < 0 → ⊥
    none a lt = omega arith

-- ---- the word of no labels

abbrev pub start : Rank
start = record { cuts = 0; changes = 0; turns = [] }

-- It leads to the first node, and nothing else does so with no labels.
start_counted : (layers : List (Vec Node)) → IsCount (rank layers) (LeadsTo layers 0 0) (added blank 1 start)
start_counted layers = record {
  words = record {
    words = [] ∷ [];
    are_all = record {
      each = λ w h. ⊎_elim (λ e. subst (LeadsTo layers 0 0) (sym e) empty) (λ q. absurd q) h;
      all = λ w h. inl (no_labels w h.long);
      once = ((λ q. q), tt);
    };
    count = refl;
  };
  longest = record {
    bounded = λ w h. let e = h.long in omega arith;
    reached = inr ([], (empty, refl));
  };
  least = record {
    is = empty;
    ranked = refl;
    below = λ w h. subst (λ v. is_at_most (rank layers []) (rank layers v) ≡ true) (sym (no_labels w h.long)) refl;
  };
}
  where
    empty : LeadsTo layers 0 0 []
    empty = record { long = refl; there = refl }

    no_labels : (w : List ℕ) → length w ≡ 0 → w ≡ []
    no_labels [] e = refl
    no_labels (a ∷ w) e = absurd (omega arith)

elsewhere : (layers : List (Vec Node)) (s : ℕ) → (s ≡ 0 → ⊥) → (w : List ℕ) → LeadsTo layers 0 s w → ⊥
elsewhere layers s ne [] leads = ne (sym (same_Some 0 s leads.there))
elsewhere layers s ne (a ∷ w) leads = let e = leads.long in absurd (omega arith)

pub table_first : (layers : List (Vec Node)) (n : ℕ) (table : List Count) → table ≡ slice_set (replicate n blank) 0 (added blank 1 start) → IsTable layers 0 table
table_first layers n table is = λ s c there.
    ⊎_elim
    (λ own. subst (λ (d : Count). IsCount (rank layers) (LeadsTo layers 0 s) d) (sym own.1) (subst (λ u. IsCount (rank layers) (LeadsTo layers 0 u) (added blank 1 start)) (sym own.0) (start_counted layers)))
    (λ old. all_none layers (LeadsTo layers 0 s) c (blank_there n (replicate n blank) refl s c old.1) (elsewhere layers s old.0))
    (get_set (replicate n blank) 0 s (added blank 1 start) c (ap (λ ys. slice_get ys s) (sym is) ∙ there))

pub table_none : (layers : List (Vec Node)) (table : List Count) → table ≡ [] → IsTable layers 0 table
table_none layers table is = λ s c there. absurd (none-some c (ap (λ ys. slice_get ys s) (sym is) ∙ there))

-- as the function has it
pub table_begun : (layers : List (Vec Node)) (n : ℕ) (table old : List Count) (first new : Count) (r : Rank) → table ≡ slice_set old 0 new → old ≡ replicate n blank
    → new ≡ added first 1 r → first ≡ get_or old 0 first → r ≡ start → 0 < n → IsTable layers 0 table
table_begun layers n table old first new r set olds is_added read starts lt =
    let none : first ≡ blank = read ∙ (ap (λ xs. get_or xs 0 first) olds ∙ get_or-replicate n 0 blank first lt) in
    table_first layers n table
    (set ∙ (ap (λ xs. slice_set xs 0 new) olds ∙ ap (slice_set (replicate n blank) 0) (is_added ∙ (ap (λ c. added c 1 r) none ∙ ap (added blank 1) starts))))

-- ---- a list that was lent and written

drop_all : {A : Type 0} (n : ℕ) (xs : List A) → n ≡ length xs → drop n xs ≡ []
drop_all zero [] e = refl
drop_all (suc n) [] e = absurd (omega arith)
drop_all zero (x ∷ xs) e = absurd (omega arith)
drop_all (suc n) (x ∷ xs) e = drop_all n xs (omega arith)

take_all : {A : Type 0} (n : ℕ) (xs : List A) → n ≡ length xs → take n (xs ++ []) ≡ xs
take_all zero [] e = refl
take_all (suc n) [] e = absurd (omega arith)
take_all zero (x ∷ xs) e = absurd (omega arith)
take_all (suc n) (x ∷ xs) e = ap (λ ys. x ∷ ys) (take_all n xs (omega arith))

-- as many elements written back in place of a list's
pub take_whole : {A : Type 0} (n : ℕ) (xs ys : List A) → n ≡ length ys → length xs ≡ length ys → take n (xs ++ drop (length xs) ys) ≡ xs
take_whole n xs ys e l = ap (λ zs. take n (xs ++ zs)) (drop_all (length xs) ys l) ∙ take_all n xs (e ∙ sym l)
