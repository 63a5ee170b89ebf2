-- What leads to a node where words end is counted in its class.
use Rattle.std.specs.Prelude.{◌≡◌, ◌<◌, ◌≤◌, ℕ, suc, List, length, Some, None, slice_get, slice_set, refl}
use Rattle.std.specs.Global.{Vec}
use Rattle.smallvec.specs.SmallVec.{SmallVec}
use Rattle.std.proofs.Common.{◌⊎◌, ◌∙◌, inl, inr, sym, ap, subst, ⊎_elim, arith}
use Rattle.std.proofs.lemmas.Option.{same_Some, slice_get_within}
use Rattle.schedule_graph.specs.declared.graph.Edge.{Edge}
use Rattle.schedule_graph.specs.declared.graph.Node.{Node}
use Rattle.schedule_graph.specs.declared.graph.Node.TheVariants.{Ends, Goes}
use Rattle.schedule_graph.specs.declared.count.Count.{Count}
use Rattle.schedule_graph.specs.declared.count.Counts.{Counts}
use Rattle.schedule_graph.specs.Words.{Rank, node_at, rank}
use Rattle.schedule_graph.specs.Counted.{IsLeast, IsCount}
use Rattle.schedule_graph.specs.Adding.{added}
use Rattle.schedule_graph.specs.Led.{LeadsTo, Ended, AreTold}
use Rattle.schedule_graph.proofs.Summing.{moved, counted_both}
use Rattle.schedule_graph.proofs.Spreading.{get_set, last_or, one_node, none_least}

module _ (layers : List (Vec Node)) (k s : ℕ) (Class : ℕ → Type 0) where
  ended_more : (w : List ℕ) → Ended layers k s Class w → Ended layers k (suc s) Class w
  ended_more w h = ⊎_elim (λ short. inl short) (λ here. inr (here.0, (here.1.0, (here.1.1.0, (up here.1.0 here.1.1.1.0, here.1.1.1.1))))) h
    where
      up : (a : ℕ) → a < s → a < suc s
      up a lt = omega arith

  -- it ended before, or ends at this node
  ended_or : (w : List ℕ) → Ended layers k (suc s) Class w
      → Ended layers k s Class w ⊎ ((class : ℕ) × (Class class × (LeadsTo layers k s w × (node_at layers k s ≡ Some (Ends class)))))
  ended_or w h =
      ⊎_elim (λ short. inl (inl short))
      (λ here. ⊎_elim
      (λ (lt : here.1.0 < s). inl (inr (here.0, (here.1.0, (here.1.1.0, (lt, here.1.1.1.1))))))
      (λ (e : here.1.0 ≡ s). inr (here.0, (here.1.1.0, (subst (λ u. LeadsTo layers k u w) e here.1.1.1.1.0, subst (λ u. node_at layers k u ≡ Some (Ends here.0)) e here.1.1.1.1.1))))
      (last_or here.1.0 s here.1.1.1.0))
      h

  -- no word of such a class ends at the node
  pub told_none : (c : Count) → ((class : ℕ) (w : List ℕ) → Class class → LeadsTo layers k s w → node_at layers k s ≡ Some (Ends class) → ⊥)
      → IsCount (rank layers) (Ended layers k s Class) c → IsCount (rank layers) (Ended layers k (suc s) Class) c
  told_none c none is =
      moved (rank layers) (Ended layers k s Class) (Ended layers k (suc s) Class) c ended_more
      (λ w h. ⊎_elim (λ old. old) (λ new. absurd (none new.0 w new.1.0 new.1.1.0 new.1.1.1)) (ended_or w h)) is

  module _ (class : ℕ) (ends : node_at layers k s ≡ Some (Ends class)) (such : Class class) (m : Count) (r : Rank)
      (count : IsCount (rank layers) (LeadsTo layers k s) m) (least : m.least ≡ Some r) where
    own_least : IsLeast (rank layers) (LeadsTo layers k s) (Some r)
    own_least = subst (IsLeast (rank layers) (LeadsTo layers k s)) least count.least

    new : (w : List ℕ) → Ended layers k s Class w → LeadsTo layers k s w → ⊥
    new w h leads =
        ⊎_elim (λ short. early short.1.1.0 leads.long)
        (λ here. before here.1.0 here.1.1.1.0 (one_node layers k here.1.0 s w w here.1.1.1.1.0 leads refl)) h
      where
        early : length w < k → length w ≡ k → ⊥
        early lt e = omega arith

        before : (a : ℕ) → a < s → a ≡ s → ⊥
        before a lt e = omega arith

    -- the words that lead to it are counted
    pub told_there : (c : Count) → IsCount (rank layers) (Ended layers k s Class) c → IsCount (rank layers) (Ended layers k (suc s) Class) (added c m.words r)
    told_there c is =
        moved (rank layers) (λ w. Ended layers k s Class w ⊎ LeadsTo layers k s w) (Ended layers k (suc s) Class) (added c m.words r)
        (λ w h. ⊎_elim (λ old. ended_more w old) (λ leads. inr (class, (s, (such, (self, (leads, ends)))))) h)
        (λ w h. ⊎_elim (λ old. inl old) (λ own. inr own.1.1.0) (ended_or w h))
        (counted_both (rank layers) (Ended layers k s Class) (LeadsTo layers k s) c m r is count least (λ w h. h.long ∙ sym own_least.is.long) new)
      where
        self : s < suc s
        self = omega arith

-- ---- the counts of each class and of all

module _ (layers : List (Vec Node)) (k s : ℕ) (counts : Counts) (told : AreTold layers k s counts) where
  -- nothing leads to the node, or words go on from it
  pub all_told_none : ((class : ℕ) (w : List ℕ) → LeadsTo layers k s w → node_at layers k s ≡ Some (Ends class) → ⊥) → AreTold layers k (suc s) counts
  all_told_none none = record {
    each = λ class c there. told_none layers k s (λ d. d ≡ class) c (λ d w same leads ends. none d w leads ends) (told.each class c there);
    all = told_none layers k s (λ d. Unit {0}) counts.all (λ d w such leads ends. none d w leads ends) told.all;
  }

  pub told_unreached : (m : Count) → IsCount (rank layers) (LeadsTo layers k s) m → m.least ≡ None → AreTold layers k (suc s) counts
  told_unreached m count none = all_told_none (λ class w leads ends. none_least (rank layers) (LeadsTo layers k s) m count none w leads)

  pub told_goes : (edges : SmallVec Edge) → node_at layers k s ≡ Some (Goes edges) → AreTold layers k (suc s) counts
  told_goes edges goes = all_told_none (λ class w leads ends. apart class (same_Some (Goes edges) (Ends class) (sym goes ∙ ends)))
    where
      apart : (class : ℕ) → Goes edges ≡ Ends class → ⊥
      apart class e = cc

  module _ (class : ℕ) (ends : node_at layers k s ≡ Some (Ends class)) (m : Count) (r : Rank)
      (count : IsCount (rank layers) (LeadsTo layers k s) m) (least : m.least ≡ Some r) where
    one_class : (d : ℕ) → node_at layers k s ≡ Some (Ends d) → d ≡ class
    one_class d also = same d (same_Some (Ends class) (Ends d) (sym ends ∙ also))
      where
        same : (d : ℕ) → Ends class ≡ Ends d → d ≡ class
        same d e = cc

    all_there : IsCount (rank layers) (Ended layers k (suc s) (λ d. Unit {0})) (added counts.all m.words r)
    all_there = told_there layers k s (λ d. Unit {0}) class ends tt m r count least counts.all told.all

    other_class : (d : ℕ) (c : Count) → (d ≡ class → ⊥) → slice_get counts.classes.items d ≡ Some c → IsCount (rank layers) (Ended layers k (suc s) (λ e. e ≡ d)) c
    other_class d c ne there =
        told_none layers k s (λ e. e ≡ d) c (λ e w same leads also. ne (sym same ∙ one_class e also)) (told.each d c there)

    -- the class isn't asked for
    pub told_past : (new : Counts) → length counts.classes.items ≤ class → new.classes.items ≡ counts.classes.items → new.all ≡ added counts.all m.words r → AreTold layers k (suc s) new
    told_past new past classes all = record {
      each = λ d c there. at d c (ap (λ xs. slice_get xs d) (sym classes) ∙ there);
      all = subst (λ (c : Count). IsCount (rank layers) (Ended layers k (suc s) (λ d. Unit {0})) c) (sym all) all_there;
    }
      where
        at : (d : ℕ) (c : Count) → slice_get counts.classes.items d ≡ Some c → IsCount (rank layers) (Ended layers k (suc s) (λ e. e ≡ d)) c
        at d c there = other_class d c (λ e. let lt = slice_get_within counts.classes.items d c there in omega arith) there

    pub told_class : (new : Counts) (c : Count) → slice_get counts.classes.items class ≡ Some c → new.classes.items ≡ slice_set counts.classes.items class (added c m.words r)
        → new.all ≡ added counts.all m.words r → AreTold layers k (suc s) new
    told_class new c here classes all = record {
      each = λ d e there. at d e (ap (λ xs. slice_get xs d) (sym classes) ∙ there);
      all = subst (λ (x : Count). IsCount (rank layers) (Ended layers k (suc s) (λ d. Unit {0})) x) (sym all) all_there;
    }
      where
        there_now : IsCount (rank layers) (Ended layers k (suc s) (λ e. e ≡ class)) (added c m.words r)
        there_now = told_there layers k s (λ e. e ≡ class) class ends refl m r count least c (told.each class c here)

        at : (d : ℕ) (e : Count) → slice_get (slice_set counts.classes.items class (added c m.words r)) d ≡ Some e → IsCount (rank layers) (Ended layers k (suc s) (λ f. f ≡ d)) e
        at d e there =
            ⊎_elim
            (λ own. subst (λ (x : Count). IsCount (rank layers) (Ended layers k (suc s) (λ f. f ≡ d)) x) (sym own.1)
            (subst (λ u. IsCount (rank layers) (Ended layers k (suc s) (λ f. f ≡ u)) (added c m.words r)) (sym own.0) there_now))
            (λ old. other_class d e old.0 old.1)
            (get_set counts.classes.items class d (added c m.words r) e there)
