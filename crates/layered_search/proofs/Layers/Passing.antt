-- One more layer is gone through.
use Rattle.layered_search.specs.Limits.{ScopeView}
use Rattle.std.specs.Prelude.{◌≡◌, ◌<◌, ℕ, zero, suc, List, [], ◌∷◌, ◌++◌, ◌==◌, false, Some, length, slice_get, refl}
use Rattle.std.specs.Global.{Vec}
use Rattle.std.proofs.Common.{sym, ap, ◌∙◌, subst, ⊎_elim, arith}
use Rattle.std.proofs.lemmas.Bool.{true≢false}
use Rattle.std.proofs.lemmas.Option.{same_Some, none-some, slice_get_within}
use Rattle.schedule_graph.specs.declared.graph.Node.{Node}
use Rattle.schedule_graph.specs.declared.graph.Node.TheVariants.{Ends, Goes}
use Rattle.layered_search.specs.declared.limits.Bounds.{Bounds}
use Rattle.layered_search.specs.declared.frontier.layer.Configuration.{Configuration}
use Rattle.layered_search.specs.declared.cost.Cost.{Cost}
use Rattle.layered_search.specs.System.{System}
use Rattle.layered_search.specs.Asked.{IsOnWay, bounds_at}
use Rattle.layered_search.specs.Distinct.{Keeps}
use Rattle.layered_search.specs.Layers.{LayerView, IsGraphNode, AreGraphNodes, AreJoined, IsOn, AreOn, IsFirst, IsFoundIn, IsPassed, HasSearched}
use Rattle.layered_search.specs.Points.{AreWithin}
use Rattle.layered_search.proofs.Places.{length_push, get_push, get_left, get_last}

pub only_one : {A : Type 0} (x : A) (k : ℕ) (y : A) → slice_get (x ∷ []) k ≡ Some y → (k ≡ 0) × (y ≡ x)
only_one x zero y e = (refl, sym (same_Some x y e))
only_one x (suc k) y e = absurd (none-some y e)

pub some_left : {A : Type 0} (xs : List A) → (length xs == 0) ≡ false → (x : A) × (slice_get xs 0 ≡ Some x)
some_left [] e = absurd (true≢false e)
some_left (x ∷ xs) e = (x, refl)

module _ {State : Type 0} (s : System State) where
  -- ---- graph nodes stay what they are as classes are added

  module _ (bounds : Bounds) (layer next : LayerView) (old new : List (List ℕ)) (keeps : Keeps old new) where
    graph_node_kept : (configuration : Configuration) (is : List ℕ) (graph_node : Node)
        → IsGraphNode s bounds layer next old configuration is graph_node
        → IsGraphNode s bounds layer next new configuration is graph_node
    graph_node_kept configuration is (Ends class) h =
        record { over = h.over; found = h.found; there = keeps class h.found h.there; agrees = h.agrees }
    graph_node_kept configuration is (Goes edges) h = h

    graph_nodes_kept : (graph_nodes : List Node) → AreGraphNodes s bounds layer next old graph_nodes
        → AreGraphNodes s bounds layer next new graph_nodes
    graph_nodes_kept graph_nodes are = record {
      many = are.many;
      each = λ t configuration is graph_node there on at.
          graph_node_kept configuration is graph_node (are.each t configuration is graph_node there on at);
    }

  -- ---- one layer more

  module _ (scope : ScopeView) (layer next : LayerView) (graph : List (Vec Node)) (graph_nodes : Vec Node)
      (old new : List (List ℕ)) (so_far : HasSearched s scope layer graph old)
      (passed : IsPassed s (bounds_at scope (length graph)) (length graph) layer next graph_nodes.items old new) where
    abbrev layers : List LayerView
    layers = so_far.layers

    many : length layers ≡ suc (length graph)
    many = so_far.searched.many

    -- each but the new one was there before
    before : (k : ℕ) (a : LayerView) → k < suc (length graph) → slice_get (layers ++ next ∷ []) k ≡ Some a
        → slice_get layers k ≡ Some a
    before k a lt e = ⊎_elim (λ h. h) (λ h. absurd (nope h.0 many)) (get_push layers next k a e)
      where
        nope : k ≡ length layers → length layers ≡ suc (length graph) → ⊥
        nope p q = omega (arith, p, q, lt)

    -- and the last of those is the one gone through
    last_before : (k : ℕ) (a : LayerView) → k ≡ length graph → slice_get (layers ++ next ∷ []) k ≡ Some a → a ≡ layer
    last_before k a q e =
        same_Some a layer (sym (before k a (omega (arith, q)) e)
        ∙ (ap (λ n. slice_get layers n) q ∙ so_far.is_last))

    -- the one after that is new
    newest : (k : ℕ) (a : LayerView) → k ≡ suc (length graph) → slice_get (layers ++ next ∷ []) k ≡ Some a → a ≡ next
    newest k a q e =
        ⊎_elim (λ h. absurd (nope (slice_get_within layers k a h) many)) (λ h. h.1) (get_push layers next k a e)
      where
        nope : k < length layers → length layers ≡ suc (length graph) → ⊥
        nope lt m = omega (arith, lt, m, q)

    on : (k : ℕ) (a : LayerView) → slice_get (layers ++ next ∷ []) k ≡ Some a → AreOn k a
    on k a e =
        ⊎_elim (λ h. so_far.searched.on k a h)
        (λ h. subst (λ (b : LayerView). AreOn k b) (sym h.1)
        (subst (λ n. AreOn n next) (sym (h.0 ∙ many)) passed.on)) (get_push layers next k a e)

    joined : (k : ℕ) (a b : LayerView) → slice_get (layers ++ next ∷ []) k ≡ Some a
        → slice_get (layers ++ next ∷ []) (suc k) ≡ Some b → AreJoined s (bounds_at scope k) a b
    joined k a b here there =
        ⊎_elim
        (λ h. let lt = slice_get_within layers (suc k) b h in
        let m = many in so_far.searched.joined k a b (before k a (omega (arith, lt, m)) here) h)
        (λ h. let q : k ≡ length graph = last k h.0 many in
        subst (λ (c : LayerView). AreJoined s (bounds_at scope k) a c) (sym h.1)
        (subst (λ (c : LayerView). AreJoined s (bounds_at scope k) c next) (sym (last_before k a q here))
        (subst (λ n. AreJoined s (bounds_at scope n) layer next) (sym q) passed.joined)))
        (get_push layers next (suc k) b there)
      where
        last : (k : ℕ) → suc k ≡ length layers → length layers ≡ suc (length graph) → k ≡ length graph
        last k p q = omega (arith, p, q)

    all_graph_nodes : (k : ℕ) (a b : LayerView) (nodes : Vec Node) → slice_get (layers ++ next ∷ []) k ≡ Some a
        → slice_get (layers ++ next ∷ []) (suc k) ≡ Some b → slice_get (graph ++ graph_nodes ∷ []) k ≡ Some nodes
        → AreGraphNodes s (bounds_at scope k) a b new nodes.items
    all_graph_nodes k a b nodes here there e =
        ⊎_elim
        (λ h. let lt = slice_get_within graph k nodes h in
        graph_nodes_kept (bounds_at scope k) a b old new passed.keeps nodes.items
        (so_far.searched.graph_nodes k a b nodes (before k a (omega (arith, lt)) here)
        (before (suc k) b (omega (arith, lt)) there) h))
        (λ h. subst (λ (c : LayerView). AreGraphNodes s (bounds_at scope k) c b new nodes.items)
        (sym (last_before k a h.0 here))
        (subst (λ (c : LayerView). AreGraphNodes s (bounds_at scope k) layer c new nodes.items)
        (sym (newest (suc k) b (ap suc h.0) there))
        (subst (λ (v : Vec Node). AreGraphNodes s (bounds_at scope k) layer next new v.items) (sym h.1)
        (subst (λ n. AreGraphNodes s (bounds_at scope n) layer next new graph_nodes.items) (sym h.0)
        passed.graph_nodes)))) (get_push graph graph_nodes k nodes e)

    found : (c : ℕ) (class : List ℕ) → slice_get new c ≡ Some class
        → (k : ℕ) × ((a : LayerView) × ((k < length (graph ++ graph_nodes ∷ []))
        × ((slice_get (layers ++ next ∷ []) k ≡ Some a) × IsFoundIn s a.lists class)))
    found c class there =
        ⊎_elim
        (λ h. let f = so_far.searched.found c class h in
        (f.0, (f.1.0, (longer f.0 f.1.1.0, (get_left layers next f.0 f.1.0 f.1.1.1.0, f.1.1.1.1)))))
        (λ h. (
          length graph,
          (
            layer,
            (
              subst (λ n. length graph < n) (sym (length_push graph graph_nodes)) (omega arith),
              (get_left layers next (length graph) layer so_far.is_last, h),
            ),
          ),
        )) (passed.found c class there)
      where
        longer : (k : ℕ) → k < length graph → k < length (graph ++ graph_nodes ∷ [])
        longer k lt = subst (λ n. k < n) (sym (length_push graph graph_nodes)) (omega (arith, lt))

    pub passes : HasSearched s scope next (graph ++ graph_nodes ∷ []) new
    passes = record {
      layers = layers ++ next ∷ [];
      searched = record {
        first = so_far.searched.first;
        can_begin = so_far.searched.can_begin;
        begins = get_left layers next 0 so_far.searched.first so_far.searched.begins;
        is_first = so_far.searched.is_first;
        many = length_push layers next ∙ (ap suc many ∙ ap suc (sym (length_push graph graph_nodes)));
        on = on;
        joined = joined;
        graph_nodes = all_graph_nodes;
        found = found;
        apart = passed.apart so_far.searched.apart;
      };
      is_last =
          ap (λ n. slice_get (layers ++ next ∷ []) n) (length_push graph graph_nodes ∙ sym many)
          ∙ get_last layers next;
    }

  -- ---- and the first one

  module _ (scope : ScopeView) (layer : LayerView) (begins : IsOnWay s scope scope.begin) (first : IsFirst layer)
      (on : AreOn 0 layer) where
    pub begun : HasSearched s scope layer [] []
    begun = record {
      layers = layer ∷ [];
      searched = record {
        first = layer;
        can_begin = begins;
        begins = refl;
        is_first = first;
        many = refl;
        on = λ k a e.
            let one = only_one layer k a e in
            subst (λ (b : LayerView). AreOn k b) (sym one.1) (subst (λ n. AreOn n layer) (sym one.0) on);
        joined = λ k a b here there. let z = (only_one layer (suc k) b there).0 in absurd (omega (arith, z));
        graph_nodes = λ k a b nodes here there e.
            let z = (only_one layer (suc k) b there).0 in absurd (omega (arith, z));
        found = λ c class e. absurd (none-some class e);
        apart = λ k l c d here there same. absurd (none-some c here);
      };
      is_last = refl;
    }

  pub last_on : (scope : ScopeView) (last : LayerView) (graph : List (Vec Node)) (classes : List (List ℕ))
      → HasSearched s scope last graph classes → AreOn (length graph) last
  last_on scope last graph classes so_far = so_far.searched.on (length graph) last so_far.is_last

pub first_on : (layer : LayerView) → IsFirst layer → AreOn 0 layer
first_on layer first t configuration e =
    let one = only_one first.configuration t configuration
    (ap (λ (xs : List Configuration). slice_get xs t) (sym first.configurations) ∙ e) in
    subst (λ (x : Configuration). IsOn 0 layer.lists x) (sym one.1) own
  where
    own : IsOn 0 layer.lists first.configuration
    own = record {
      on = let many = ap length first.lists in let at = first.on in omega (arith, many, at);
      long = ap length first.turns;
      few = subst (λ (m : Cost). AreWithin m 0) (sym first.cost) (record { cuts = omega arith; changes = omega arith });
    }
