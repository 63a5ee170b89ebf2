-- The graph of a search that came to its end fits the system: each graph node is for a configuration's place.
use Rattle.layered_search.specs.Limits.{ScopeView}
use Rattle.std.specs.Prelude.{◌≡◌, ◌<◌, ◌≤◌, ℕ, suc, List, [], Bool, true, length, slice_get, Option, Some, None, refl}
use Rattle.std.specs.Global.{Vec}
use Rattle.std.proofs.lemmas.Bool.{cases_lt}
use Rattle.smallvec.specs.SmallVec.{SmallVec}
use Rattle.std.proofs.Common.{sym, ap, ◌∙◌, subst, ⊎_elim, arith}
use Rattle.std.proofs.lemmas.Option.{same_Some, none-some, slice_get_within}
use Rattle.schedule_graph.specs.declared.graph.Edge.{Edge}
use Rattle.schedule_graph.specs.declared.graph.Node.{Node}
use Rattle.schedule_graph.specs.declared.graph.Node.TheVariants.{Ends, Goes}
use Rattle.schedule_graph.specs.Words.{node_in, node_at}
use Rattle.schedule_graph.proofs.Leading.{edge_in}
use Rattle.layered_search.specs.declared.frontier.layer.Configuration.{Configuration}
use Rattle.layered_search.specs.declared.cost.Cost.{Cost}
use Rattle.layered_search.specs.System.{System, IsSystem, state_after}
use Rattle.layered_search.specs.Lists.{is_another, is_cut, plus}
use Rattle.layered_search.specs.Asked.{IsWithin, bounds_at}
use Rattle.layered_search.specs.Points.{no_cost, MayGo}
use Rattle.layered_search.specs.Merged.{Place, Places, begins, bounded_cuts, MayFollow, IsNextPlace, IsEdge, AreEdges, IsEndOf, IsFit}
use Rattle.layered_search.specs.Concluded.{AreFound}
use Rattle.layered_search.specs.Layers.{LayerView, point_at, IsFirst, IsAfter, IsEdgeBy, AreEdgesBy, IsPlaced, IsGraphNode, IsSearched, HasSearched}
use Rattle.layered_search.proofs.Places.{within_some, ap_at, join}
use Rattle.layered_search.proofs.Counts.Merged.{bounded_within}
use Rattle.layered_search.proofs.Layers.Reached.{may_some}
use Rattle.layered_search.proofs.Layers.OnWay.{begin_goes_on}
use Rattle.layered_search.proofs.Layers.SoFar.{moved, configuration_alike, configuration_so_far, found_asked}

-- ---- bounds on cuts

bounded_none : (most : Option ℕ) → bounded_cuts most 0 ≡ 0
bounded_none None = refl
bounded_none (Some most) = refl

bounded_plus : (most : Option ℕ) (b : Bool) (n : ℕ)
    → bounded_cuts most (plus b n) ≡ bounded_cuts most (plus b (bounded_cuts most n))
bounded_plus None b n = refl
bounded_plus (Some most) b n = refl

few_here : (most : Option ℕ) (b : Bool) (n : ℕ) → IsWithin most (plus b (bounded_cuts most n))
    → IsWithin most (plus b n)
few_here None b n few = tt
few_here (Some most) b n few = few

few_there : (most : Option ℕ) (b : Bool) (n : ℕ) → IsWithin most (plus b n)
    → IsWithin most (plus b (bounded_cuts most n))
few_there None b n few = tt
few_there (Some most) b n few = few

module _ {State : Type 0} (s : System State) (scope : ScopeView) where
  -- ---- what each graph node is for

  -- a configuration's place: its state, its last actor, and its cuts, where they are bounded
  abbrev place_of : Configuration → List ℕ → Place State
  place_of configuration is = record {
    state = state_after s is;
    last = configuration.cost.last;
    cuts = bounded_cuts scope.cuts configuration.cost.cuts;
  }

  abbrev place_on : Configuration → Option (List ℕ) → Place State
  place_on configuration None = begins s
  place_on configuration (Some is) = place_of configuration is

  abbrev place_by : LayerView → Option Configuration → Place State
  place_by layer None = begins s
  place_by layer (Some configuration) = place_on configuration (slice_get layer.lists configuration.state)

  abbrev place_in : Option LayerView → ℕ → Place State
  place_in None m = begins s
  place_in (Some layer) m = place_by layer (slice_get layer.configurations m)

  -- that of the layer's configuration; where there is none, the beginning
  pub place_at : List LayerView → Places State
  place_at layers k m = place_in (slice_get layers k) m

  place_is : (layers : List LayerView) (k m : ℕ) (layer : LayerView) (configuration : Configuration) (is : List ℕ)
      → slice_get layers k ≡ Some layer → slice_get layer.configurations m ≡ Some configuration
      → slice_get layer.lists configuration.state ≡ Some is → place_at layers k m ≡ place_of configuration is
  unfolding place_at
  place_is layers k m layer configuration is here there on =
      join (place_at layers k m) (place_by layer (slice_get layer.configurations m)) (place_of configuration is)
      (ap_at (λ (o : Option LayerView). place_in o m) (slice_get layers k) (Some layer) here)
      (join (place_by layer (slice_get layer.configurations m))
      (place_on configuration (slice_get layer.lists configuration.state)) (place_of configuration is)
      (ap_at (λ (o : Option Configuration). place_by layer o) (slice_get layer.configurations m) (Some configuration)
      there)
      (ap_at (λ (o : Option (List ℕ)). place_on configuration o) (slice_get layer.lists configuration.state) (Some is)
      on))

  may_go : (k : ℕ) (configuration : Configuration) (is : List ℕ) (i : ℕ)
      → MayFollow s (bounds_at scope k) (place_of configuration is) i
      → MayGo s (bounds_at scope k) (point_at s is configuration) i
  may_go k configuration is i may = record {
    only = may.only;
    busy = may.busy;
    few = few_here scope.cuts (is_cut s (state_after s is) configuration.cost.last i) configuration.cost.cuts may.few;
  }

  may_follow : (k : ℕ) (configuration : Configuration) (is : List ℕ) (i : ℕ)
      → MayGo s (bounds_at scope k) (point_at s is configuration) i
      → MayFollow s (bounds_at scope k) (place_of configuration is) i
  may_follow k configuration is i may = record {
    only = may.only;
    busy = may.busy;
    few = few_there scope.cuts (is_cut s (state_after s is) configuration.cost.last i) configuration.cost.cuts may.few;
  }

  -- ---- the graph of a search

  -- where a graph node is: the configuration that it is of
  record IsOf (layers : List LayerView) (graph : List (Vec Node)) (classes : List (List ℕ)) (k m : ℕ)
      (graph_node : Node) : Type 0 where
    layer : LayerView
    next : LayerView
    configuration : Configuration
    is : List ℕ
    early : k < length graph
    here : slice_get layers k ≡ Some layer
    then : slice_get layers (suc k) ≡ Some next
    there : slice_get layer.configurations m ≡ Some configuration
    on : slice_get layer.lists configuration.state ≡ Some is
    own : IsGraphNode s (bounds_at scope k) layer next classes configuration is graph_node

  module _ (laws : IsSystem s) (layers : List LayerView) (graph : List (Vec Node)) (classes : List (List ℕ))
      (searched : IsSearched s scope layers graph classes) where
    layer_at : (k : ℕ) → k ≤ length graph → (layer : LayerView) × (slice_get layers k ≡ Some layer)
    layer_at k le = let many = searched.many in within_some layers k (omega (arith, le, many))

    list_at : (k m : ℕ) (layer : LayerView) (configuration : Configuration) → slice_get layers k ≡ Some layer
        → slice_get layer.configurations m ≡ Some configuration
        → (is : List ℕ) × (slice_get layer.lists configuration.state ≡ Some is)
    list_at k m layer configuration here there =
        within_some layer.lists configuration.state (searched.on k layer here m configuration there).on

    configuration_of : (k m : ℕ) (graph_node : Node) → node_at graph k m ≡ Some graph_node
        → IsOf layers graph classes k m graph_node
    configuration_of k m graph_node e = by (slice_get graph k) refl e
      where
        by : (graph_nodes : Option (Vec Node)) → slice_get graph k ≡ graph_nodes
            → node_in graph_nodes m ≡ Some graph_node → IsOf layers graph classes k m graph_node
        by None q f = absurd (none-some graph_node f)
        by (Some graph_nodes) q f =
            let early : k < length graph = slice_get_within graph k graph_nodes q in
            let layer = layer_at k (omega (arith, early)) in
            let next = layer_at (suc k) (omega (arith, early)) in
            let are = searched.graph_nodes k layer.0 next.0 graph_nodes layer.1 next.1 q in
            let configuration = within_some layer.0.configurations m
            (subst (λ n. m < n) are.many (slice_get_within graph_nodes.items m graph_node f)) in
            let list = list_at k m layer.0 configuration.0 layer.1 configuration.1 in record {
              layer = layer.0;
              next = next.0;
              configuration = configuration.0;
              is = list.0;
              early = early;
              here = layer.1;
              then = next.1;
              there = configuration.1;
              on = list.1;
              own = are.each m configuration.0 list.0 graph_node configuration.1 list.1 f;
            }

    ends : (k m class : ℕ) → node_at graph k m ≡ Some (Ends class) → IsEndOf s classes (place_at layers k m) class
    ends k m class e =
        let of = configuration_of k m (Ends class) e in
        let placed : IsPlaced s classes of.is class = of.own in
        subst (λ (p : Place State). IsEndOf s classes p class)
        (sym (place_is layers k m of.layer of.configuration of.is of.here of.there of.on)) (record {
          over = placed.over;
          found = placed.found;
          there = placed.there;
          agrees = placed.agrees;
        })

    -- where the last layer has no configuration
    module _ (last : LayerView) (is_last : slice_get layers (length graph) ≡ Some last)
        (none : last.configurations ≡ []) where
      -- each configuration is in a layer before it
      is_early : (k m : ℕ) (layer : LayerView) (configuration : Configuration) → slice_get layers k ≡ Some layer
          → slice_get layer.configurations m ≡ Some configuration → k < length graph
      is_early k m layer configuration here there =
          ⊎_elim (λ lt. lt) (λ le. absurd (late le)) (cases_lt k (length graph))
        where
          late : length graph ≤ k → ⊥
          late le =
              let many = searched.many in
              let within = slice_get_within layers k layer here in
              let at : length graph ≡ k = omega (arith, le, many, within) in
              let is : layer ≡ last =
              same_Some layer last (sym here ∙ (ap (λ n. slice_get layers n) (sym at) ∙ is_last)) in
              none-some configuration (sym (ap (λ (xs : List Configuration). slice_get xs m)
              (ap (λ (l : LayerView). l.configurations) is ∙ none)) ∙ there)

      -- and has its graph node
      graph_node_of : (k m : ℕ) (layer : LayerView) (configuration : Configuration) → slice_get layers k ≡ Some layer
          → slice_get layer.configurations m ≡ Some configuration
          → (graph_node : Node) × (node_at graph k m ≡ Some graph_node)
      graph_node_of k m layer configuration here there =
          let lt = is_early k m layer configuration here there in
          let graph_nodes = within_some graph k lt in
          let next = layer_at (suc k) (omega (arith, lt)) in
          let are = searched.graph_nodes k layer next.0 graph_nodes.0 here next.1 graph_nodes.1 in
          let graph_node = within_some graph_nodes.0.items m
          (subst (λ n. m < n) (sym are.many) (slice_get_within layer.configurations m configuration there)) in
          (graph_node.0, ap (λ (o : Option (Vec Node)). node_in o m) graph_nodes.1 ∙ graph_node.1)

      -- ---- edges

      -- some edge leads on
      some_edge : (k m : ℕ) (layer next : LayerView) (configuration : Configuration) (is : List ℕ) (edges : List Edge)
          → slice_get layers k ≡ Some layer → slice_get layer.configurations m ≡ Some configuration
          → slice_get layer.lists configuration.state ≡ Some is → (i : ℕ) × (s.is_busy (state_after s is) i ≡ true)
          → AreEdgesBy s (bounds_at scope k) layer next configuration is edges
          → (edge : Edge) × IsEdgeBy s (bounds_at scope k) layer next configuration is edge.label edge
      some_edge k m layer next configuration is edges here there on busy are = by (bounds_at scope k).only refl
        where
          by : (only : Option ℕ) → (bounds_at scope k).only ≡ only
              → (edge : Edge) × IsEdgeBy s (bounds_at scope k) layer next configuration is edge.label edge
          by None free =
              let early = is_early k m layer configuration here there in
              let so = configuration_so_far s laws scope layers graph classes searched k m layer configuration
              (omega (arith, early)) here there in
              let turn = may_some s laws (bounds_at scope k) (place_of configuration is) is refl free
              (bounded_within scope.cuts configuration.cost.cuts so.few) busy in
              let edge = are.all turn.0 (may_go k configuration is turn.0 turn.1) in
              let at = edge_in edges turn.0 edge.0 edge.1 in
              (edge.0, are.each at.0 edge.0 at.1.0)
          by (Some i) own =
              let early = is_early k m layer configuration here there in
              let le : k ≤ length graph = omega (arith, early) in
              let so = configuration_so_far s laws scope layers graph classes searched k m layer configuration le here
              there in
              let alike = configuration_alike s laws scope layers graph classes searched k m layer configuration is le
              here there on in
              let long = (searched.on k layer here m configuration there).long in
              let turn = begin_goes_on s laws scope searched.can_begin configuration.turns.items configuration.cost so
              (subst (λ n. n < length scope.begin) (sym long) (slice_get_within scope.begin k i own))
              (state_after s is) alike in
              let edge = are.all turn.0
              (subst (λ n. MayGo s (bounds_at scope n) (point_at s is configuration) turn.0) long turn.1) in
              let at = edge_in edges turn.0 edge.0 edge.1 in
              (edge.0, are.each at.0 edge.0 at.1.0)

      next_place : (k i t : ℕ) (layer next : LayerView) (configuration : Configuration) (is : List ℕ)
          → slice_get layers (suc k) ≡ Some next → slice_get layer.lists configuration.state ≡ Some is
          → IsAfter s (bounds_at scope k) layer next configuration is i t
          → IsNextPlace s scope (place_of configuration is) i (place_at layers (suc k) t)
      next_place k i t layer next configuration is then on to =
          let successor = list_at (suc k) t next to.after then to.there in
          subst (λ (q : Place State). IsNextPlace s scope (place_of configuration is) i q)
          (sym (place_is layers (suc k) t next to.after successor.0 then to.there successor.1)) (record {
            state = moved s configuration.state i to.after.state layer next is successor.0 on to.transition successor.1;
            last = to.last;
            cuts = to.cuts ∙ bounded_plus scope.cuts (is_cut s (state_after s is) configuration.cost.last i)
                configuration.cost.cuts;
          })

      module _ (k m : ℕ) (layer next : LayerView) (configuration : Configuration) (is : List ℕ)
          (here : slice_get layers k ≡ Some layer) (then : slice_get layers (suc k) ≡ Some next)
          (there : slice_get layer.configurations m ≡ Some configuration)
          (on : slice_get layer.lists configuration.state ≡ Some is) where
        own_place : place_of configuration is ≡ place_at layers k m
        own_place = sym (place_is layers k m layer configuration is here there on)

        is_edge : (i : ℕ) (edge : Edge) → IsEdgeBy s (bounds_at scope k) layer next configuration is i edge
            → IsEdge s scope graph (place_at layers) k m i edge
        is_edge i edge by =
            let graph_node = graph_node_of (suc k) edge.to next by.after.after then by.after.there in record {
              may = subst (λ (p : Place State). MayFollow s (bounds_at scope k) p i) own_place
                  (may_follow k configuration is i by.may);
              cut = subst (λ (p : Place State). edge.cut ≡ is_cut s p.state p.last i) own_place by.cut;
              change = subst (λ (p : Place State). edge.change ≡ is_another p.last i) own_place by.change;
              graph_node = graph_node.0;
              there = graph_node.1;
              next = subst (λ (p : Place State). IsNextPlace s scope p i (place_at layers (suc k) edge.to)) own_place
                  (next_place k i edge.to layer next configuration is then on by.after);
            }

        are_edges : (edges : List Edge) → (i : ℕ) × (s.is_busy (state_after s is) i ≡ true)
            → AreEdgesBy s (bounds_at scope k) layer next configuration is edges
            → AreEdges s scope graph (place_at layers) k m edges
        are_edges edges busy are = record {
          some =
              let edge = some_edge k m layer next configuration is edges here there on busy are in
              (edge.0.label, are.all edge.0.label edge.1.may);
          busy = subst (λ (p : Place State). (i : ℕ) × (s.is_busy p.state i ≡ true)) own_place busy;
          all = λ i may. are.all i (may_go k configuration is i
              (subst (λ (p : Place State). MayFollow s (bounds_at scope k) p i) (sym own_place) may));
          each = λ i edge e.
              let at = edge_in edges i edge e in
              is_edge i edge (subst (λ j. IsEdgeBy s (bounds_at scope k) layer next configuration is j edge) at.1.1
              (are.each at.0 edge at.1.0));
        }

      goes : (k m : ℕ) (edges : SmallVec Edge) → node_at graph k m ≡ Some (Goes edges)
          → AreEdges s scope graph (place_at layers) k m edges.items
      goes k m edges e =
          let of = configuration_of k m (Goes edges) e in
          are_edges k m of.layer of.next of.configuration of.is of.here of.then of.there of.on edges.items of.own.0
          of.own.1

      -- ---- the beginning

      abbrev first : IsFirst searched.first
      first = searched.is_first

      first_there : slice_get searched.first.configurations 0 ≡ Some first.configuration
      first_there = ap (λ (xs : List Configuration). slice_get xs 0) first.configurations

      first_on : slice_get searched.first.lists first.configuration.state ≡ Some []
      first_on =
          ap (λ n. slice_get searched.first.lists n) first.on
          ∙ ap (λ (xs : List (List ℕ)). slice_get xs 0) first.lists

      begins_there : place_at layers 0 0 ≡ begins s
      begins_there =
          let of_cost : Cost → Place State =
          (λ cost. record { state = s.begin; last = cost.last; cuts = bounded_cuts scope.cuts cost.cuts }) in
          join (place_at layers 0 0) (of_cost first.configuration.cost) (begins s)
          (place_is layers 0 0 searched.first first.configuration [] searched.begins first_there first_on)
          (join (of_cost first.configuration.cost) (of_cost no_cost) (begins s)
          (ap_at of_cost first.configuration.cost no_cost first.cost)
          (ap_at (λ n. record { state = s.begin; last = None; cuts = n }) (bounded_cuts scope.cuts 0) 0
          (bounded_none scope.cuts)))

      is_fit : IsFit s scope graph classes (place_at layers)
      is_fit =
          let graph_node = graph_node_of 0 0 searched.first first.configuration searched.begins first_there in record {
            start = begins_there;
            can_begin = searched.can_begin.busy;
            graph_node = graph_node.0;
            there = graph_node.1;
            ends = ends;
            goes = goes;
          }

-- what the counts of a graph are concluded from
pub record Fits {State : Type 0} (s : System State) (scope : ScopeView) (graph : List (Vec Node))
    (classes : List (List ℕ)) : Type 0 where
  pub at : Places State
  pub fit : IsFit s scope graph classes at
  pub found : AreFound s scope classes

-- The graph of a search whose last layer has no configuration fits the system.
pub fits : {State : Type 0} (s : System State) → IsSystem s → (scope : ScopeView) (last : LayerView)
    (graph : List (Vec Node)) (classes : List (List ℕ)) → HasSearched s scope last graph classes
    → last.configurations ≡ [] → Fits s scope graph classes
fits s laws scope last graph classes has none = record {
  at = place_at s scope has.layers;
  fit = is_fit s scope laws has.layers graph classes has.searched last has.is_last none;
  found = record {
    asked = λ k is there. found_asked s laws scope has.layers graph classes has.searched k is there;
    apart = has.searched.apart;
  };
}
