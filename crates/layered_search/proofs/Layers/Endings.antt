-- The states of a layer are ended: the classes of what they come to, and the graph nodes of the configurations.
use Rattle.std.specs.Prelude.{◌≡◌, ◌<◌, ◌≤◌, ℕ, zero, suc, List, [], ◌∷◌, ◌++◌, Bool, true, false, length, Option, Some, None, slice_get, refl}
use Rattle.smallvec.specs.SmallVec.{SmallVec}
use Rattle.std.proofs.Common.{◌⊎◌, ◌∙◌, inl, inr, sym, ap, subst, ⊎_elim, arith, length-append, get_or, drop}
use Rattle.std.proofs.lemmas.List.{map_push, length-map}
use Rattle.std.proofs.lemmas.Option.{same_Some, none-some, slice_get_within, slice_get-get_or}
use Rattle.schedule_graph.specs.declared.graph.Edge.{Edge}
use Rattle.schedule_graph.specs.declared.graph.Node.{Node}
use Rattle.schedule_graph.specs.Words.{AreApart, IsLayer, edges_from}
use Rattle.layered_search.specs.declared.found.Found.{Found}
use Rattle.layered_search.specs.declared.frontier.layer.Configuration.{Configuration}
use Rattle.layered_search.specs.System.{System, IsSystem, Outcomes, AreOutcomes, state_after}
use Rattle.layered_search.specs.Lists.{IsOver}
use Rattle.layered_search.specs.Asked.{AgreeIn}
use Rattle.layered_search.specs.Found.{found_of, AreTold}
use Rattle.layered_search.specs.Expanded.{IsEndClassBy}
use Rattle.layered_search.specs.Layers.{graph_node_by}
use Rattle.layered_search.proofs.Places.{at_or_below, get_push, get_left, get_last, front_of, none_left, mapped_to, mapped_from}
use Rattle.layered_search.proofs.Layers.EdgesGrown.{keeps_push}

-- ---- lists

-- at each place: what stood there, or the one at the end
pushed_or : {A : Type 0} (xs : List A) (y : A) (k : ℕ)
    → (slice_get (xs ++ y ∷ []) k ≡ slice_get xs k) ⊎ (slice_get (xs ++ y ∷ []) k ≡ Some y)
pushed_or [] y zero = inr refl
pushed_or [] y (suc k) = inl refl
pushed_or (x ∷ xs) y zero = inl refl
pushed_or (x ∷ xs) y (suc k) = pushed_or xs y k

-- ---- whether a state is over

-- whoever isn't below the end has nothing left to do
pub over_from : {State : Type 0} (s : System State) → IsSystem s → (is : List ℕ) (n : ℕ) → s.actors ≤ n
    → ((i : ℕ) → i < n → s.is_busy (state_after s is) i ≡ false) → IsOver s (state_after s is)
over_from s laws is n past idle i = by (s.is_busy (state_after s is) i) refl
  where
    by : (b : Bool) → s.is_busy (state_after s is) i ≡ b → s.is_busy (state_after s is) i ≡ false
    by true e = let lt : i < s.actors = laws.few is i e in idle i (omega (arith, lt, past))
    by false e = e

-- ---- the class of an outcome

module _ {State Outcome : Type 0} (s : System State) (o : Outcomes State Outcome) (laws : IsSystem s)
    (same : AreOutcomes s o) (turns : List ℕ) (outcome : Outcome) (over : IsOver s (state_after s turns))
    (tells : o.Tells (state_after s turns) outcome) where
  -- one of those that were found is the same
  pub class_there : (found : List (Found Outcome)) (at : ℕ) → AreTold s o found
      → (one : Found Outcome) × ((slice_get found at ≡ Some one) × o.AreSame one.outcome outcome)
      → IsEndClassBy s (found_of found) (found_of found) turns (Some at)
  class_there found at told there = record {
    class = record {
      over = over;
      found = there.0.turns.items;
      there = mapped_to (λ (one : Found Outcome). one.turns.items) found at there.0 there.1.0;
      agrees =
          laws.agree_back (state_after s there.0.turns.items) (state_after s turns)
          (same.same_agree (state_after s there.0.turns.items) (state_after s turns) there.0.outcome outcome
          (told at there.0 there.1.0) tells there.1.1);
    };
    keeps = λ m x e. e;
    found = λ m x e. inl e;
    apart = λ were. were;
  }

  -- none is, and it is put after the others
  module _ (old new : List (Found Outcome)) (one : Found Outcome) (told : AreTold s o old)
      (its : one.turns.items ≡ turns) (own : one.outcome ≡ outcome) (is : new ≡ old ++ one ∷ [])
      (none : (m : ℕ) (other : Found Outcome) → slice_get old m ≡ Some other
      → o.AreSame other.outcome outcome → ⊥) where
    found_new : found_of new ≡ found_of old ++ turns ∷ []
    found_new =
        ap (λ (xs : List (Found Outcome)). found_of xs) is
        ∙ (map_push (λ (x : Found Outcome). x.turns.items) old one
        ∙ ap (λ (xs : List ℕ). found_of old ++ xs ∷ []) its)

    pub told_new : AreTold s o new
    told_new m x e =
        ⊎_elim (λ was. told m x was)
        (λ last. subst (λ (y : Found Outcome). o.Tells (state_after s y.turns.items) y.outcome) (sym last.1) own_tells)
        (get_push old one m x (ap (λ (xs : List (Found Outcome)). slice_get xs m) (sym is) ∙ e))
      where
        own_tells : o.Tells (state_after s one.turns.items) one.outcome
        own_tells =
            subst (λ (ts : List ℕ). o.Tells (state_after s ts) one.outcome) (sym its)
            (subst (λ (x : Outcome). o.Tells (state_after s turns) x) (sym own) tells)

    -- no list that was found before agrees with it
    unlike : (m : ℕ) (js : List ℕ) → slice_get (found_of old) m ≡ Some js → AgreeIn s js turns → ⊥
    unlike m js e agrees =
        let from = mapped_from (λ (x : Found Outcome). x.turns.items) old m js e in
        none m from.0 from.1.0
        (same.agree_same (state_after s from.0.turns.items) (state_after s turns) from.0.outcome outcome
        (told m from.0 from.1.0) tells (subst (λ (ts : List ℕ). AgreeIn s ts turns) from.1.1 agrees))

    found_at : (m : ℕ) (js : List ℕ) → slice_get (found_of new) m ≡ Some js
        → (slice_get (found_of old) m ≡ Some js) ⊎ ((m ≡ length (found_of old)) × (js ≡ turns))
    found_at m js e =
        get_push (found_of old) turns m js (ap (λ (xs : List (List ℕ)). slice_get xs m) (sym found_new) ∙ e)

    pub class_new : (at : ℕ) → at ≡ length old → IsEndClassBy s (found_of old) (found_of new) turns (Some at)
    class_new at last = record {
      class = record {
        over = over;
        found = turns;
        there =
            ap (λ (xs : List (List ℕ)). slice_get xs at) found_new
            ∙ (ap (slice_get (found_of old ++ turns ∷ []))
            (last ∙ sym (length-map old (λ (x : Found Outcome). x.turns.items))) ∙ get_last (found_of old) turns);
        agrees = laws.agree_itself (state_after s turns);
      };
      keeps = λ m x e.
          ap (λ (xs : List (List ℕ)). slice_get xs m) found_new ∙ get_left (found_of old) turns m x e;
      found = λ m x e. ⊎_elim (λ was. inl was) (λ new. inr (new.1, over)) (found_at m x e);
      apart = λ were k l js ks e q agrees. ⊎_elim
          (λ was. ⊎_elim (λ too. were k l js ks was too agrees)
          (λ new. absurd (unlike k js was (subst (λ (ts : List ℕ). AgreeIn s js ts) new.1 agrees))) (found_at l ks q))
          (λ new. ⊎_elim
          (λ too. absurd (unlike l ks too
          (laws.agree_back (state_after s turns) (state_after s ks)
          (subst (λ (ts : List ℕ). AgreeIn s ts ks) new.1 agrees))))
          (λ too. new.0 ∙ sym too.0) (found_at l ks q))
          (found_at k js e);
    }

-- ---- the graph nodes of the configurations

no_edges : AreApart []
no_edges i j v w e = absurd (none-some v e)

graph_node_apart : (end_class : Option ℕ) (edges : SmallVec Edge) → AreApart edges.items
    → AreApart (edges_from (Some (graph_node_by end_class edges)))
graph_node_apart None edges apart = apart
graph_node_apart (Some class) edges apart = no_edges

module _ (configurations : List Configuration) (end_classes : List (Option ℕ)) (all : List (SmallVec Edge)) where
  -- These are the graph nodes of the first configurations; the configurations and the edges that are left are of the
  -- others.
  pub record AreSpotted (left : List Configuration) (others : List (SmallVec Edge)) (graph_nodes : List Node)
      : Type 0 where
    pub fits : length graph_nodes ≤ length configurations
    pub left_are : left ≡ drop (length graph_nodes) configurations
    pub others_are : others ≡ drop (length graph_nodes) all
    pub each : (s : ℕ) (configuration : Configuration) (edges : SmallVec Edge) (end_class : Option ℕ)
        → s < length graph_nodes → slice_get configurations s ≡ Some configuration → slice_get all s ≡ Some edges
        → slice_get end_classes configuration.state ≡ Some end_class
        → slice_get graph_nodes s ≡ Some (graph_node_by end_class edges)
    pub apart : IsLayer graph_nodes

  pub spotted_none : (left : List Configuration) (others : List (SmallVec Edge)) (graph_nodes : List Node)
      → graph_nodes ≡ [] → left ≡ configurations → others ≡ all → AreSpotted left others graph_nodes
  spotted_none left others graph_nodes none e f = subst (AreSpotted left others) (sym none) (record {
    fits = omega arith;
    left_are = e;
    others_are = f;
    each = λ s configuration edges end_class lt. absurd (omega (arith, lt));
    apart = λ s. no_edges;
  })

  module _ (left : List Configuration) (others : List (SmallVec Edge)) (graph_nodes : List Node)
      (on : (s : ℕ) (configuration : Configuration) → slice_get configurations s ≡ Some configuration
      → configuration.state < length end_classes)
      (are_apart : (s : ℕ) (edges : SmallVec Edge) → slice_get all s ≡ Some edges → AreApart edges.items)
      (so : AreSpotted left others graph_nodes) where
    pub spotted_more : (configuration : Configuration) (left' : List Configuration) (edges : SmallVec Edge)
        (others' : List (SmallVec Edge)) (new : List Node) → left ≡ configuration ∷ left' → others ≡ edges ∷ others'
        → new ≡ graph_nodes ++ graph_node_by (get_or end_classes configuration.state None) edges ∷ []
        → AreSpotted left' others' new
    spotted_more configuration left' edges others' new e f is =
        let n : ℕ = length graph_nodes in
        let end_class : Option ℕ = get_or end_classes configuration.state None in
        let own : Node = graph_node_by end_class edges in
        let here = front_of n configurations configuration left' (sym e ∙ so.left_are) in
        let there = front_of n all edges others' (sym f ∙ so.others_are) in
        let at : slice_get end_classes configuration.state ≡ Some end_class =
        slice_get-get_or end_classes configuration.state None (on n configuration here.0) in
        let within : n < length configurations = slice_get_within configurations n configuration here.0 in
        let more : length (graph_nodes ++ own ∷ []) ≡ suc n =
        let l = length-append graph_nodes (own ∷ []) in omega (arith, l) in
        subst (AreSpotted left' others') (sym is) (record {
          fits = omega (arith, more, within);
          left_are = here.1 ∙ ap (λ m. drop m configurations) (sym more);
          others_are = there.1 ∙ ap (λ m. drop m all) (sym more);
          each = λ s one by t lt configuration_is edges_are end_class_is. ⊎_elim
              (λ (below : s < n). keeps_push graph_nodes own s (graph_node_by t by)
              (so.each s one by t below configuration_is edges_are end_class_is))
              (λ (last : s ≡ n).
              let same_configuration : configuration ≡ one =
              same_Some configuration one (sym here.0 ∙ (ap (slice_get configurations) (sym last) ∙ configuration_is))
              in
              let same_edges : edges ≡ by =
              same_Some edges by (sym there.0 ∙ (ap (slice_get all) (sym last) ∙ edges_are)) in
              let same_end_class : end_class ≡ t =
              same_Some end_class t (sym at
              ∙ (ap (λ (x : Configuration). slice_get end_classes x.state) same_configuration ∙ end_class_is)) in
              ap (slice_get (graph_nodes ++ own ∷ [])) last ∙ (get_last graph_nodes own
              ∙ (ap (λ (x : Option ℕ). Some (graph_node_by x edges)) same_end_class
              ∙ ap (λ (v : SmallVec Edge). Some (graph_node_by t v)) same_edges)))
              (at_or_below s n (omega (arith, lt, more)));
          apart = λ s. ⊎_elim
              (λ old. subst (λ (o : Option Node). AreApart (edges_from o)) (sym old) (so.apart s))
              (λ last. subst (λ (o : Option Node). AreApart (edges_from o)) (sym last)
              (graph_node_apart end_class edges (are_apart n edges there.0)))
              (pushed_or graph_nodes own s);
        })

  -- nothing is left of one of the two
  module _ (left : List Configuration) (others : List (SmallVec Edge)) (graph_nodes : List Node)
      (many : length all ≡ length configurations) (so : AreSpotted left others graph_nodes)
      (none : (length left ≡ 0) ⊎ (length others ≡ 0)) where
    pub spotted_all : length graph_nodes ≡ length configurations
    spotted_all =
        let past : length configurations ≤ length graph_nodes = ⊎_elim
        (λ e. none_left (length graph_nodes) configurations (ap length (sym so.left_are) ∙ e))
        (λ e. subst (λ n. n ≤ length graph_nodes) many
        (none_left (length graph_nodes) all (ap length (sym so.others_are) ∙ e)))
        none in
        omega (arith, past, so.fits)

    pub spotted_each : (s : ℕ) (configuration : Configuration) (edges : SmallVec Edge) (end_class : Option ℕ)
        → slice_get configurations s ≡ Some configuration → slice_get all s ≡ Some edges
        → slice_get end_classes configuration.state ≡ Some end_class
        → slice_get graph_nodes s ≡ Some (graph_node_by end_class edges)
    spotted_each s configuration edges end_class there =
        so.each s configuration edges end_class
        (subst (λ n. s < n) (sym spotted_all) (slice_get_within configurations s configuration there)) there
