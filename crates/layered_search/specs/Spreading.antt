-- The configurations of the next layer, and the edges to them.
use Rattle.std.specs.Prelude.{◌≡◌, ◌<◌, ◌⊎◌, ◌==◌, ℕ, List, [], ◌∷◌, ◌++◌, not, length, Option, Some, slice_get}
use Rattle.smallvec.specs.SmallVec.{SmallVec}
use Rattle.schedule_graph.specs.declared.graph.Node.{Node}
use Rattle.schedule_graph.specs.declared.graph.Edge.{Edge}
use Rattle.layered_search.specs.declared.limits.Bounds.{Bounds}
use Rattle.layered_search.specs.declared.frontier.layer.Configuration.{Configuration}
use Rattle.layered_search.specs.declared.cost.Cost.{Cost}
use Rattle.layered_search.specs.declared.frontier.transitions.Choice.{Choice}
use Rattle.layered_search.specs.Merged.{bounded_cuts}
use Rattle.layered_search.specs.Layers.{IsThere, graph_node_by}

-- ---- configurations

-- the configuration is on that state, with what counts from then on
pub record IsConfigurationAs (bounds : Bounds) (state : ℕ) (cost : Cost) (configuration : Configuration) : Type 0 where
  pub on : configuration.state ≡ state
  pub last : configuration.cost.last ≡ cost.last
  pub cuts : bounded_cuts bounds.cuts configuration.cost.cuts ≡ bounded_cuts bounds.cuts cost.cuts

-- the configuration after that choice, on that state of the next layer
pub record IsConfigurationBy (configuration : Configuration) (choice : Choice) (state : ℕ)
    (successor : Configuration) : Type 0 where
  pub on : successor.state ≡ state
  pub turns : successor.turns.items ≡ configuration.turns.items ++ choice.actor ∷ []
  pub cost : successor.cost ≡ choice.cost

-- ---- edges

-- the edge is that of the choice from that configuration, and leads to the configuration on that state that the choice
-- makes
pub record IsEdgeTo (bounds : Bounds) (configuration : Configuration) (choice : Choice) (state : ℕ)
    (next : List Configuration)
    (edge : Edge) : Type 0 where
  pub label : edge.label ≡ choice.actor
  pub cut : edge.cut ≡ not (choice.cost.cuts == configuration.cost.cuts)
  pub change : edge.change ≡ not (choice.cost.changes == configuration.cost.changes)
  pub there : IsThere bounds state choice.cost next edge.to

-- the edges of these choices, in order, to states at the places of their transitions
abbrev pub AreEachEdge : Bounds → Configuration → List Choice → List ℕ → List Configuration → List Edge → Type 0
AreEachEdge bounds configuration choices places next edges = (k : ℕ) (choice : Choice) (state : ℕ) (edge : Edge)
    → slice_get choices k ≡ Some choice → slice_get places choice.at ≡ Some state → slice_get edges k ≡ Some edge
    → IsEdgeTo bounds configuration choice state next edge

pub record AreEdgesTo (bounds : Bounds) (configuration : Configuration) (choices : List Choice) (places : List ℕ)
    (next : List Configuration)
    (edges : List Edge) : Type 0 where
  pub many : length edges ≡ length choices
  pub each : AreEachEdge bounds configuration choices places next edges

-- it is the configuration after one of these choices
pub record IsConfigurationOf (configuration : Configuration) (choices : List Choice) (places : List ℕ)
    (successor : Configuration) : Type 0 where
  pub at : ℕ
  pub choice : Choice
  pub there : slice_get choices at ≡ Some choice
  pub state : ℕ
  pub place : slice_get places choice.at ≡ Some state
  pub is : IsConfigurationBy configuration choice state successor

-- of the next layer's configurations each was there before or is such a one
abbrev pub AreConfigurationsBy : Configuration → List Choice → List ℕ → List Configuration → List Configuration → Type 0
AreConfigurationsBy configuration choices places old new = (t : ℕ) (successor : Configuration)
    → slice_get new t ≡ Some successor
    → (slice_get old t ≡ Some successor) ⊎ IsConfigurationOf configuration choices places successor

-- ---- the edges from all configurations

-- no two choices of a configuration are of one actor
abbrev pub AreApartChoices : List (SmallVec Choice) → Type 0
AreApartChoices all = (s : ℕ) (choices : SmallVec Choice) (k l : ℕ) (choice other : Choice)
    → slice_get all s ≡ Some choices → slice_get choices.items k ≡ Some choice
    → slice_get choices.items l ≡ Some other → choice.actor ≡ other.actor
    → k ≡ l

-- each choice's transition has its place among those from the configuration's state
abbrev pub IsFitting : List Choice → List ℕ → Type 0
IsFitting choices places = (k : ℕ) (choice : Choice) → slice_get choices k ≡ Some choice → choice.at < length places

abbrev pub AreFit : List Configuration → List (SmallVec Choice) → List (SmallVec ℕ) → Type 0
AreFit configurations choices places = (s : ℕ) (configuration : Configuration) (those : SmallVec Choice)
    → slice_get configurations s ≡ Some configuration
    → slice_get choices s ≡ Some those
    → (row : SmallVec ℕ) × ((slice_get places configuration.state ≡ Some row) × IsFitting those.items row.items)

-- the configuration is one turn after one of these
pub record IsConfigurationFrom (configurations : List Configuration) (choices : List (SmallVec Choice))
    (places : List (SmallVec ℕ))
    (successor : Configuration) : Type 0 where
  pub s : ℕ
  pub configuration : Configuration
  pub there : slice_get configurations s ≡ Some configuration
  pub those : SmallVec Choice
  pub chosen : slice_get choices s ≡ Some those
  pub row : SmallVec ℕ
  pub places_there : slice_get places configuration.state ≡ Some row
  pub is : IsConfigurationOf configuration those.items row.items successor

abbrev pub AreConfigurationsFrom : List Configuration → List (SmallVec Choice) → List (SmallVec ℕ)
    → List Configuration → Type 0
AreConfigurationsFrom configurations choices places next =
    (t : ℕ) (successor : Configuration) → slice_get next t ≡ Some successor
    → IsConfigurationFrom configurations choices places successor

-- the edges of all choices from the first configurations
abbrev pub AreFirstEdges : Bounds → List Configuration → List (SmallVec Choice) → List (SmallVec ℕ) → List Configuration
    → List (SmallVec Edge) → Type 0
AreFirstEdges bounds configurations choices places next all =
    (s : ℕ) (configuration : Configuration) (those : SmallVec Choice) (row : SmallVec ℕ)
    (edges : SmallVec Edge) → slice_get configurations s ≡ Some configuration → slice_get choices s ≡ Some those
    → slice_get places configuration.state ≡ Some row → slice_get all s ≡ Some edges
    → AreEdgesTo bounds configuration those.items row.items next edges.items

-- and from all of them
pub record AreEdgesOfAll (bounds : Bounds) (configurations : List Configuration) (choices : List (SmallVec Choice))
    (places : List (SmallVec ℕ))
    (next : List Configuration) (all : List (SmallVec Edge)) : Type 0 where
  pub many : length all ≡ length configurations
  pub edges : AreFirstEdges bounds configurations choices places next all
  pub successor : AreConfigurationsFrom configurations choices places next

-- ---- graph nodes

-- each configuration's graph node: an end of its state's class, if that has one, and else the edges from it
pub record AreGraphNodesBy (configurations : List Configuration) (end_classes : List (Option ℕ))
    (all : List (SmallVec Edge)) (graph_nodes : List Node) : Type 0 where
  pub many : length graph_nodes ≡ length configurations
  pub each : (s : ℕ) (configuration : Configuration) (edges : SmallVec Edge) (end_class : Option ℕ)
      → slice_get configurations s ≡ Some configuration
      → slice_get all s ≡ Some edges → slice_get end_classes configuration.state ≡ Some end_class
      → slice_get graph_nodes s ≡ Some (graph_node_by end_class edges)
