-- The transitions from the states of a layer: who may have the next turn.
use Rattle.std.specs.Prelude.{◌≡◌, ◌≤◌, ℕ, List, [], length, Option, Some, slice_get}
use Rattle.smallvec.specs.SmallVec.{SmallVec}
use Rattle.layered_search.specs.declared.limits.Bounds.{Bounds}
use Rattle.layered_search.specs.declared.frontier.layer.Configuration.{Configuration}
use Rattle.layered_search.specs.declared.frontier.transitions.Transition.{Transition}
use Rattle.layered_search.specs.declared.frontier.transitions.Choice.{Choice}
use Rattle.layered_search.specs.System.{System}
use Rattle.layered_search.specs.Points.{Point, cost_after, MayGo}
use Rattle.layered_search.specs.Layers.{LayerView, Leads, AreSuccessorLists, AreApartClasses, AreFoundIn, IsEndClass, point_at}
use Rattle.layered_search.specs.Distinct.{Keeps}

-- the transition at that place is the actor's
abbrev pub IsOf : List Transition → ℕ → ℕ → Type 0
IsOf transitions i at = (one : Transition) × ((slice_get transitions at ≡ Some one) × (one.actor ≡ i))

-- one of the choices is the actor's
abbrev pub IsChosen : List Choice → ℕ → Type 0
IsChosen choices i = (k : ℕ) × ((choice : Choice) × ((slice_get choices k ≡ Some choice) × (choice.actor ≡ i)))

pub record AreNoTransitions (states : ℕ) (transitions : List (SmallVec Transition)) : Type 0 where
  pub many : length transitions ≡ states
  pub none : (m : ℕ) (those : SmallVec Transition) → slice_get transitions m ≡ Some those → those.items ≡ []

module _ {State : Type 0} (s : System State) where
  -- ---- who may go

  -- the transition is that of an actor who may go there, from that configuration
  pub record IsOneOf (bounds : Bounds) (configuration : ℕ) (p : Point State) (one : Transition) : Type 0 where
    pub from : one.configuration ≡ configuration
    pub may : MayGo s bounds p one.actor

  -- the actor may have the next turn there, with this cost after it, and its transition is one of these
  pub record IsChoice (bounds : Bounds) (p : Point State) (transitions : List Transition)
      (choice : Choice) : Type 0 where
    pub may : MayGo s bounds p choice.actor
    pub cost : choice.cost ≡ cost_after s p.state p.cost choice.actor
    pub transition : IsOf transitions choice.actor choice.at

  -- all who may have the next turn there, each once
  pub record AreChoices (bounds : Bounds) (p : Point State) (transitions : List Transition)
      (choices : List Choice) : Type 0 where
    pub all : (i : ℕ) → MayGo s bounds p i → IsChosen choices i
    pub each : (k : ℕ) (choice : Choice) → slice_get choices k ≡ Some choice → IsChoice bounds p transitions choice
    pub apart : (k l : ℕ) (choice other : Choice) → slice_get choices k ≡ Some choice
        → slice_get choices l ≡ Some other → choice.actor ≡ other.actor → k ≡ l

  -- so it is of each configuration
  abbrev pub AreFirstChoices : Bounds → LayerView → List (SmallVec Transition) → List (SmallVec Choice) → Type 0
  AreFirstChoices bounds layer transitions all =
      (t : ℕ) (configuration : Configuration) (is : List ℕ) (those : SmallVec Transition)
      (choices : SmallVec Choice) → slice_get layer.configurations t ≡ Some configuration
      → slice_get layer.lists configuration.state ≡ Some is
      → slice_get transitions configuration.state ≡ Some those → slice_get all t ≡ Some choices
      → AreChoices bounds (point_at s is configuration) those.items choices.items

  pub record AreAllChoices (bounds : Bounds) (layer : LayerView) (transitions : List (SmallVec Transition))
      (all : List (SmallVec Choice)) : Type 0 where
    pub many : length all ≡ length layer.configurations
    pub each : AreFirstChoices bounds layer transitions all

  -- the transition is from the state at that place: of an actor who may go from that configuration on it
  pub record IsTransitionFrom (bounds : Bounds) (layer : LayerView) (m : ℕ) (one : Transition) : Type 0 where
    pub configuration : Configuration
    pub is : List ℕ
    pub there : slice_get layer.configurations one.configuration ≡ Some configuration
    pub same : configuration.state ≡ m
    pub on : slice_get layer.lists m ≡ Some is
    pub may : MayGo s bounds (point_at s is configuration) one.actor

  -- the transitions from each state
  pub record AreTransitions (bounds : Bounds) (layer : LayerView) (transitions : List (SmallVec Transition))
      : Type 0 where
    pub many : length transitions ≡ length layer.lists
    pub each : (m : ℕ) (those : SmallVec Transition) (j : ℕ) (one : Transition) → slice_get transitions m ≡ Some those
        → slice_get those.items j ≡ Some one → IsTransitionFrom bounds layer m one

  -- ---- a layer that is gone on from

  -- what a layer's states come to so far: which layer, by which transitions, and the classes that were found before
  pub record Going : Type 0 where
    pub bounds : Bounds
    pub layer : LayerView
    pub transitions : List (SmallVec Transition)
    pub listed : AreTransitions bounds layer transitions
    pub found : List (List ℕ)

  -- the state's transitions lead to the next layer's states at these places
  abbrev pub AreLeads : List ℕ → List Transition → List (List ℕ) → List ℕ → Type 0
  AreLeads is transitions lists places = (j : ℕ) (one : Transition) → slice_get transitions j ≡ Some one
      → (k : ℕ) × ((slice_get places j ≡ Some k) × Leads s is one.actor lists k)

  -- of the first states of the layer: whether each is an end, and then its class; and the places, among the next
  -- layer's states, to which its transitions lead
  pub record AreGone (g : Going) (lists : List (List ℕ)) (end_classes : List (Option ℕ))
      (places : List (SmallVec ℕ)) (classes : List (List ℕ)) : Type 0 where
    pub many : length places ≡ length end_classes
    pub fits : length end_classes ≤ length g.layer.lists
    pub are_end_classes : (m : ℕ) (is : List ℕ) (end_class : Option ℕ) → slice_get g.layer.lists m ≡ Some is
        → slice_get end_classes m ≡ Some end_class → IsEndClass s classes is end_class
    pub leads : (m : ℕ) (is : List ℕ) (those : SmallVec Transition) (row : SmallVec ℕ)
        → slice_get g.layer.lists m ≡ Some is
        → slice_get g.transitions m ≡ Some those → slice_get places m ≡ Some row
        → AreLeads is those.items lists row.items
    pub successor : AreSuccessorLists s g.bounds g.layer lists
    pub keeps : Keeps g.found classes
    pub are_found : AreFoundIn s g.layer.lists g.found classes
    pub apart : AreApartClasses s g.found → AreApartClasses s classes
