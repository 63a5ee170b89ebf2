-- Layers of states, one of those that are alike each, and the configurations on them.
use Rattle.std.specs.Prelude.{◌≡◌, ◌<◌, ◌⊎◌, ℕ, suc, List, [], ◌∷◌, ◌++◌, true, length, Option, Some, None, slice_get}
use Rattle.std.specs.Global.{Vec}
use Rattle.smallvec.specs.SmallVec.{SmallVec}
use Rattle.schedule_graph.specs.declared.graph.Edge.{Edge}
use Rattle.schedule_graph.specs.declared.graph.Node.{Node}
use Rattle.schedule_graph.specs.declared.graph.Node.TheVariants.{Ends, Goes}
use Rattle.schedule_graph.specs.Words.{edge_of, AreApart}
use Rattle.layered_search.specs.declared.limits.Bounds.{Bounds}
use Rattle.layered_search.specs.Limits.{ScopeView}
use Rattle.layered_search.specs.declared.cost.Cost.{Cost}
use Rattle.layered_search.specs.declared.frontier.layer.Configuration.{Configuration}
use Rattle.layered_search.specs.System.{System, state_after}
use Rattle.layered_search.specs.Lists.{is_another, is_cut, IsOver}
use Rattle.layered_search.specs.Asked.{IsOnWay, bounds_at, AgreeIn}
use Rattle.layered_search.specs.Merged.{bounded_cuts}
use Rattle.layered_search.specs.Distinct.{Keeps}
use Rattle.layered_search.specs.Points.{Point, no_cost, cost_after, AreWithin, MayGo}

-- ---- layers

-- a list of turns to each state that lists of one length lead to, and the configurations on these states: where the
-- lists differ in what counts from then on
pub record LayerView : Type 0 where
  pub lists : List (List ℕ)
  pub configurations : List Configuration

-- the configuration is on one of the states, and its list has so many turns
pub record IsOn (n : ℕ) (lists : List (List ℕ)) (configuration : Configuration) : Type 0 where
  pub on : configuration.state < length lists
  pub long : length configuration.turns.items ≡ n
  pub few : AreWithin configuration.cost n

-- so it is with each configuration
abbrev pub AreOn : ℕ → LayerView → Type 0
AreOn n layer = (t : ℕ) (configuration : Configuration) → slice_get layer.configurations t ≡ Some configuration
    → IsOn n layer.lists configuration

-- the first layer: no turns
pub record IsFirst (layer : LayerView) : Type 0 where
  pub lists : layer.lists ≡ [] ∷ []
  pub configuration : Configuration
  pub configurations : layer.configurations ≡ configuration ∷ []
  pub on : configuration.state ≡ 0
  pub turns : configuration.turns.items ≡ []
  pub cost : configuration.cost ≡ no_cost

-- ---- configurations that are the same

-- the configuration at that place is on that state, with what counts from then on
pub record IsThere (bounds : Bounds) (state : ℕ) (cost : Cost) (configurations : List Configuration)
    (t : ℕ) : Type 0 where
  pub other : Configuration
  pub there : slice_get configurations t ≡ Some other
  pub on : other.state ≡ state
  pub last : other.cost.last ≡ cost.last
  pub cuts : bounded_cuts bounds.cuts other.cost.cuts ≡ bounded_cuts bounds.cuts cost.cuts

-- ---- graph nodes

-- an end of that class, if there is one, and else these edges
abbrev pub graph_node_by : Option ℕ → SmallVec Edge → Node
graph_node_by None edges = Goes edges
graph_node_by (Some class) edges = Ends class

module _ {State : Type 0} (s : System State) where
  -- what is gone on from: a configuration, and the state that it is on
  abbrev pub point_at : List ℕ → Configuration → Point State
  point_at is configuration = record { state = state_after s is; cost = configuration.cost }

  -- the actor's turn from the state after that list leads to one like that of the list at place k
  pub record Leads (is : List ℕ) (i : ℕ) (next : List (List ℕ)) (k : ℕ) : Type 0 where
    pub to : List ℕ
    pub there : slice_get next k ≡ Some to
    pub alike : s.Alike (s.turn (state_after s is) i) (state_after s to)

  -- a configuration of the layer, the list to the state that it is on, and an actor who may have the next turn there
  pub record IsOnward (bounds : Bounds) (layer : LayerView) (configuration : Configuration) (is : List ℕ)
      (i : ℕ) : Type 0 where
    pub at : ℕ
    pub there : slice_get layer.configurations at ≡ Some configuration
    pub on : slice_get layer.lists configuration.state ≡ Some is
    pub may : MayGo s bounds (point_at is configuration) i

  -- the actor's turn from the state at place m leads to the next layer's state at place k
  pub record IsTransition (layer : LayerView) (m i : ℕ) (next : List (List ℕ)) (k : ℕ) : Type 0 where
    pub from : List ℕ
    pub here : slice_get layer.lists m ≡ Some from
    pub leads : Leads from i next k

  -- ---- from one layer to the next

  -- a list to a state like that after the actor's turn from that configuration
  pub record IsSuccessor (configuration : Configuration) (is : List ℕ) (i : ℕ) (successor : List ℕ) : Type 0 where
    pub alike : s.Alike (s.turn (state_after s is) i) (state_after s successor)
    pub turns : successor ≡ configuration.turns.items ++ i ∷ []

  -- it is that after one turn from some configuration
  pub record IsSuccessorList (bounds : Bounds) (layer : LayerView) (successor : List ℕ) : Type 0 where
    pub configuration : Configuration
    pub is : List ℕ
    pub i : ℕ
    pub onward : IsOnward bounds layer configuration is i
    pub one : IsSuccessor configuration is i successor

  abbrev pub AreSuccessorLists : Bounds → LayerView → List (List ℕ) → Type 0
  AreSuccessorLists bounds layer next =
      (k : ℕ) (successor : List ℕ) → slice_get next k ≡ Some successor → IsSuccessorList bounds layer successor

  -- the configuration is one turn after another
  pub record IsSuccessorConfiguration (bounds : Bounds) (layer : LayerView) (next : List (List ℕ))
      (successor : Configuration) : Type 0 where
    pub configuration : Configuration
    pub is : List ℕ
    pub i : ℕ
    pub onward : IsOnward bounds layer configuration is i
    pub turns : successor.turns.items ≡ configuration.turns.items ++ i ∷ []
    pub cost : successor.cost ≡ cost_after s (state_after s is) configuration.cost i
    pub transition : IsTransition layer configuration.state i next successor.state

  abbrev pub AreSuccessorConfigurations : Bounds → LayerView → LayerView → Type 0
  AreSuccessorConfigurations bounds layer next =
      (t : ℕ) (successor : Configuration) → slice_get next.configurations t ≡ Some successor
      → IsSuccessorConfiguration bounds layer next.lists successor

  pub record AreJoined (bounds : Bounds) (layer next : LayerView) : Type 0 where
    pub lists : AreSuccessorLists bounds layer next.lists
    pub configurations : AreSuccessorConfigurations bounds layer next

  -- ---- edges

  -- the configuration of the next layer after the actor's turn: on a state that it leads to, with what counts there
  pub record IsAfter (bounds : Bounds) (layer next : LayerView) (configuration : Configuration) (is : List ℕ)
      (i t : ℕ) : Type 0 where
    pub after : Configuration
    pub there : slice_get next.configurations t ≡ Some after
    pub last : after.cost.last ≡ Some i
    pub cuts : bounded_cuts bounds.cuts after.cost.cuts
        ≡ bounded_cuts bounds.cuts (cost_after s (state_after s is) configuration.cost i).cuts
    pub transition : IsTransition layer configuration.state i next.lists after.state

  -- the edge is the actor's turn from that configuration
  pub record IsEdgeBy (bounds : Bounds) (layer next : LayerView) (configuration : Configuration) (is : List ℕ)
      (i : ℕ) (edge : Edge) : Type 0 where
    pub may : MayGo s bounds (point_at is configuration) i
    pub label : edge.label ≡ i
    pub cut : edge.cut ≡ is_cut s (state_after s is) configuration.cost.last i
    pub change : edge.change ≡ is_another configuration.cost.last i
    pub after : IsAfter bounds layer next configuration is i edge.to

  -- the edges are the turns from that configuration of all who may have the next one, each once
  pub record AreEdgesBy (bounds : Bounds) (layer next : LayerView) (configuration : Configuration) (is : List ℕ)
      (edges : List Edge) : Type 0 where
    pub all : (i : ℕ) → MayGo s bounds (point_at is configuration) i → (edge : Edge) × (edge_of edges i ≡ Some edge)
    pub each : (k : ℕ) (edge : Edge) → slice_get edges k ≡ Some edge
        → IsEdgeBy bounds layer next configuration is edge.label edge
    pub apart : AreApart edges

  -- of each configuration, in order
  pub record AreAllEdges (bounds : Bounds) (layer next : LayerView) (all : List (SmallVec Edge)) : Type 0 where
    pub many : length all ≡ length layer.configurations
    pub each : (t : ℕ) (configuration : Configuration) (is : List ℕ) (edges : SmallVec Edge)
        → slice_get layer.configurations t ≡ Some configuration
        → slice_get layer.lists configuration.state ≡ Some is
        → slice_get all t ≡ Some edges → AreEdgesBy bounds layer next configuration is edges.items

  -- ---- ends

  -- nobody has anything left to do after the list, which agrees with the class's list
  pub record IsPlaced (classes : List (List ℕ)) (is : List ℕ) (at : ℕ) : Type 0 where
    pub over : IsOver s (state_after s is)
    pub found : List ℕ
    pub there : slice_get classes at ≡ Some found
    pub agrees : AgreeIn s is found

  -- whether the list is at its end, and then its class
  abbrev pub IsEndClass : List (List ℕ) → List ℕ → Option ℕ → Type 0
  IsEndClass classes is None = (i : ℕ) × (s.is_busy (state_after s is) i ≡ true)
  IsEndClass classes is (Some at) = IsPlaced classes is at

  pub record AreEndClasses (classes lists : List (List ℕ)) (end_classes : List (Option ℕ)) : Type 0 where
    pub many : length end_classes ≡ length lists
    pub each : (m : ℕ) (is : List ℕ) (end_class : Option ℕ) → slice_get lists m ≡ Some is
        → slice_get end_classes m ≡ Some end_class → IsEndClass classes is end_class

  -- no two classes have the same outcome
  abbrev pub AreApartClasses : List (List ℕ) → Type 0
  AreApartClasses classes = (k l : ℕ) (is js : List ℕ) → slice_get classes k ≡ Some is → slice_get classes l ≡ Some js
      → AgreeIn s is js → k ≡ l

  -- each class was there before, or is one of these lists, at its end
  pub record IsFoundIn (lists : List (List ℕ)) (found : List ℕ) : Type 0 where
    pub at : ℕ
    pub there : slice_get lists at ≡ Some found
    pub over : IsOver s (state_after s found)

  abbrev pub AreFoundIn : List (List ℕ) → List (List ℕ) → List (List ℕ) → Type 0
  AreFoundIn lists old new =
      (k : ℕ) (found : List ℕ) → slice_get new k ≡ Some found
      → (slice_get old k ≡ Some found) ⊎ IsFoundIn lists found

  -- ---- graph nodes

  -- the configuration's graph node: an end of its state's class, or the edges from it
  abbrev pub IsGraphNode : Bounds → LayerView → LayerView → List (List ℕ) → Configuration → List ℕ → Node → Type 0
  IsGraphNode bounds layer next classes configuration is (Ends class) = IsPlaced classes is class
  IsGraphNode bounds layer next classes configuration is (Goes edges) =
      ((i : ℕ) × (s.is_busy (state_after s is) i ≡ true))
      × AreEdgesBy bounds layer next configuration is edges.items

  pub record AreGraphNodes (bounds : Bounds) (layer next : LayerView) (classes : List (List ℕ))
      (graph_nodes : List Node) : Type 0 where
    pub many : length graph_nodes ≡ length layer.configurations
    pub each : (t : ℕ) (configuration : Configuration) (is : List ℕ) (graph_node : Node)
        → slice_get layer.configurations t ≡ Some configuration
        → slice_get layer.lists configuration.state ≡ Some is
        → slice_get graph_nodes t ≡ Some graph_node
        → IsGraphNode bounds layer next classes configuration is graph_node

  -- ---- a layer gone through

  pub record IsPassed (bounds : Bounds) (n : ℕ) (layer next : LayerView) (here : List Node)
      (old new : List (List ℕ)) : Type 0 where
    pub joined : AreJoined bounds layer next
    pub on : AreOn (suc n) next
    pub graph_nodes : AreGraphNodes bounds layer next new here
    pub keeps : Keeps old new
    pub found : AreFoundIn layer.lists old new
    pub apart : AreApartClasses old → AreApartClasses new

  -- ---- all layers so far

  -- These are the layers, of which all but the last were gone through, with the graph nodes of each and the classes
  -- that were found. The turns that all lists begin with can be taken.
  pub record IsSearched (scope : ScopeView) (layers : List LayerView) (graph : List (Vec Node))
      (classes : List (List ℕ)) : Type 0 where
    pub first : LayerView
    pub can_begin : IsOnWay s scope scope.begin
    pub begins : slice_get layers 0 ≡ Some first
    pub is_first : IsFirst first
    pub many : length layers ≡ suc (length graph)
    pub on : (k : ℕ) (layer : LayerView) → slice_get layers k ≡ Some layer → AreOn k layer
    pub joined : (k : ℕ) (layer next : LayerView) → slice_get layers k ≡ Some layer
        → slice_get layers (suc k) ≡ Some next → AreJoined (bounds_at scope k) layer next
    pub graph_nodes : (k : ℕ) (layer next : LayerView) (graph_nodes : Vec Node) → slice_get layers k ≡ Some layer
        → slice_get layers (suc k) ≡ Some next
        → slice_get graph k ≡ Some graph_nodes → AreGraphNodes (bounds_at scope k) layer next classes graph_nodes.items
    pub found : (c : ℕ) (found : List ℕ) → slice_get classes c ≡ Some found
        → (k : ℕ) × ((layer : LayerView)
        × ((k < length graph) × ((slice_get layers k ≡ Some layer) × IsFoundIn layer.lists found)))
    pub apart : AreApartClasses classes

  -- and this is the last of them
  pub record HasSearched (scope : ScopeView) (last : LayerView) (graph : List (Vec Node))
      (classes : List (List ℕ)) : Type 0 where
    pub layers : List LayerView
    pub searched : IsSearched scope layers graph classes
    pub is_last : slice_get layers (length graph) ≡ Some last
