-- The graph nodes of a layer, and the classes in the end.
use Rattle.layered_search.specs.Limits.{ScopeView}
use Rattle.std.specs.Prelude.{◌≡◌, ℕ, List, Option, Some, None, length, slice_get, refl}
use Rattle.std.specs.Global.{Vec}
use Rattle.std.proofs.Common.{sym, ◌∙◌, subst, arith}
use Rattle.std.proofs.lemmas.List.{length-map}
use Rattle.std.proofs.lemmas.Option.{same_Some, slice_get_within}
use Rattle.smallvec.specs.SmallVec.{SmallVec}
use Rattle.schedule_graph.specs.declared.count.Count.{Count}
use Rattle.schedule_graph.specs.declared.count.Counts.{Counts}
use Rattle.schedule_graph.specs.declared.graph.Edge.{Edge}
use Rattle.schedule_graph.specs.declared.graph.Node.{Node}
use Rattle.schedule_graph.specs.Counted.{AreCounts}
use Rattle.schedule_graph.specs.Words as words
use Rattle.layered_search.specs.declared.found.Class.{Class}
use Rattle.layered_search.specs.declared.found.Found.{Found}
use Rattle.layered_search.specs.declared.frontier.layer.Configuration.{Configuration}
use Rattle.layered_search.specs.declared.limits.Bounds.{Bounds}
use Rattle.layered_search.specs.System.{System, IsSystem, Outcomes, state_after}
use Rattle.layered_search.specs.Lists.{cuts, changes}
use Rattle.layered_search.specs.Asked.{AgreeIn}
use Rattle.layered_search.specs.Promise.{ClassView}
use Rattle.layered_search.specs.Merged.{Places, IsFit}
use Rattle.layered_search.specs.Concluded.{AreFound, IsCountedBy, AreCountedBy, AreShort, HasLeast}
use Rattle.layered_search.specs.Found.{found_of, view_of, views_of, IsClassOf, AreClassesOf, AreTold, TellOutcomes}
use Rattle.layered_search.specs.Layers.{LayerView, AreEdgesBy, AreAllEdges, IsEndClass, AreEndClasses, IsGraphNode, AreGraphNodes, graph_node_by}
use Rattle.layered_search.proofs.Places.{within_some, mapped_from, mapped_to}
use Rattle.layered_search.proofs.Counts.Concluded.{found_have_leasts}

-- ---- the graph nodes of a layer

module _ {State : Type 0} (s : System State) (bounds : Bounds) (layer next : LayerView) (classes : List (List ℕ)) where
  graph_node_of : (configuration : Configuration) (is : List ℕ) (edges : SmallVec Edge)
      → AreEdgesBy s bounds layer next configuration is edges.items
      → (end_class : Option ℕ) → IsEndClass s classes is end_class
      → IsGraphNode s bounds layer next classes configuration is (graph_node_by end_class edges)
  graph_node_of configuration is edges are None busy = (busy, are)
  graph_node_of configuration is edges are (Some class) placed = placed

  pub graph_nodes_are : (all : List (SmallVec Edge)) (end_classes : List (Option ℕ)) (graph_nodes : List Node)
      → AreAllEdges s bounds layer next all → AreEndClasses s classes layer.lists end_classes
      → length graph_nodes ≡ length layer.configurations
      → ((t : ℕ) (configuration : Configuration) (edges : SmallVec Edge) (end_class : Option ℕ)
      → slice_get layer.configurations t ≡ Some configuration → slice_get all t ≡ Some edges
      → slice_get end_classes configuration.state ≡ Some end_class
      → slice_get graph_nodes t ≡ Some (graph_node_by end_class edges))
      → AreGraphNodes s bounds layer next classes graph_nodes
  graph_nodes_are all end_classes graph_nodes are_edges are_end_classes many each = record { many = many; each = one }
    where
      one : (t : ℕ) (configuration : Configuration) (is : List ℕ) (graph_node : Node)
          → slice_get layer.configurations t ≡ Some configuration
          → slice_get layer.lists configuration.state ≡ Some is → slice_get graph_nodes t ≡ Some graph_node
          → IsGraphNode s bounds layer next classes configuration is graph_node
      one t configuration is graph_node there on at =
          let in_configurations = slice_get_within layer.configurations t configuration there in
          let in_lists = slice_get_within layer.lists configuration.state is on in
          let as_many = are_edges.many in
          let as_many_end_classes = are_end_classes.many in
          let edges = within_some all t (omega arith) in
          let end_class = within_some end_classes configuration.state (omega arith) in
          subst (λ (x : Node). IsGraphNode s bounds layer next classes configuration is x)
          (same_Some (graph_node_by end_class.0 edges.0) graph_node
          (sym (each t configuration edges.0 end_class.0 there edges.1 end_class.1) ∙ at))
          (graph_node_of configuration is edges.0 (are_edges.each t configuration is edges.0 there on edges.1)
          end_class.0 (are_end_classes.each configuration.state is end_class.0 on end_class.1))

-- ---- the classes

-- classes with their counts are counted
pub counted_by : {Outcome : Type 0} (found : List (Found Outcome)) (counts : List Count)
    (classes : List (Class Outcome)) → length counts ≡ length found → AreClassesOf found counts classes
    → AreCountedBy (found_of found) counts (views_of classes)
counted_by {Outcome} found counts classes many are = record {
  as_many = length-map classes (λ (class : Class Outcome). view_of class)
      ∙ (are.many ∙ sym (length-map found (λ (one : Found Outcome). one.turns.items)));
  each = one;
}
  where
    one : (m : ℕ) (view : ClassView) → slice_get (views_of classes) m ≡ Some view
        → (count : Count) × ((slice_get counts m ≡ Some count) × IsCountedBy count view)
    one m view there =
        let class = mapped_from (λ (class : Class Outcome). view_of class) classes m view there in
        let lt = slice_get_within classes m class.0 class.1.0 in
        let as_many = are.many in
        let own = within_some found m (omega arith) in
        let count = within_some counts m (omega arith) in
        let is : IsClassOf own.0 count.0 class.0 = are.each m own.0 count.0 class.0 own.1 count.1 class.1.0 in (
          count.0,
          (
            count.1,
            subst (λ (v : ClassView). IsCountedBy count.0 v) (sym class.1.1)
                (record {
                  least = record { cuts = class.0.cuts; changes = class.0.changes; turns = class.0.least.items };
                  counted = is.counted;
                  turns = refl;
                  lists = is.lists;
                }),
          ),
        )

module _ {State : Type 0} (s : System State) (laws : IsSystem s) (scope : ScopeView) (graph : List (Vec Node))
    (found : List (List ℕ)) (at : Places State) (fit : IsFit s scope graph found at)
    (are_found : AreFound s scope found) (counts : Counts) (are : AreCounts graph counts) where
  -- each count has a least list
  pub leasts_there : length counts.classes.items ≡ length found → AreShort counts.classes.items
  leasts_there many m count there =
      let lt = slice_get_within counts.classes.items m count there in
      let is = within_some found m (omega arith) in
      let has : HasLeast s scope is.0 count =
      found_have_leasts s laws scope graph found at counts fit are_found are m is.0 count is.1 there in
      (has.least, has.counted)

-- the classes tell outcomes that agree with their least lists, and the cuts and changes of these
pub outcomes_told : {State Outcome : Type 0} (s : System State) → IsSystem s → (o : Outcomes State Outcome)
    (scope : ScopeView) (graph : List (Vec Node)) (found : List (Found Outcome)) (at : Places State) (counts : Counts)
    (classes : List (Class Outcome)) → IsFit s scope graph (found_of found) at → AreFound s scope (found_of found)
    → AreCounts graph counts → length counts.classes.items ≡ length found → AreTold s o found
    → AreClassesOf found counts.classes.items classes → TellOutcomes s o classes
outcomes_told {State} {Outcome}
    s laws o scope graph found at counts classes fit are_found are many told of m class there =
    let lt = slice_get_within classes m class there in
    let as_many = of.many in
    let one = within_some found m (omega arith) in
    let count = within_some counts.classes.items m (omega arith) in
    let is : IsClassOf one.0 count.0 class = of.each m one.0 count.0 class one.1 count.1 there in
    let own : words.Rank = record { cuts = class.cuts; changes = class.changes; turns = class.least.items } in
    let list : List ℕ = one.0.turns.items in
    let has : HasLeast s scope list count.0 =
    found_have_leasts s laws scope graph (found_of found) at counts fit are_found are m list count.0
    (mapped_to (λ (one : Found Outcome). one.turns.items) found m one.0 one.1) count.1 in
    let same : has.least ≡ own = same_Some has.least own (sym has.counted ∙ is.counted) in
    record {
      cuts = subst (λ (r : words.Rank). r.cuts ≡ cuts s r.turns) same has.cuts;
      changes = subst (λ (r : words.Rank). r.changes ≡ changes r.turns) same has.changes;
      is = list;
      agrees = subst (λ (r : words.Rank). AgreeIn s r.turns list) same has.agrees;
      tells = subst (λ (x : Outcome). o.Tells (state_after s list) x) (sym is.outcome) (told m one.0 one.1);
    }
