-- A layer's states gone on from one after another: what is known of those that were.
use Rattle.std.specs.Prelude.{◌≡◌, ◌<◌, ◌≤◌, ◌⊎◌, ◌^◌, ◌+◌, ◌++◌, ◌∷◌, [], ℕ, suc, List, length, Option, Some, slice_get}
use Rattle.smallvec.specs.SmallVec.{SmallVec}
use Rattle.layered_search.specs.declared.frontier.layer.Layer.{Layer}
use Rattle.layered_search.specs.declared.frontier.layer.Visited.{Visited}
use Rattle.layered_search.specs.declared.frontier.layer.Configuration.{Configuration}
use Rattle.layered_search.specs.declared.limits.Bounds.{Bounds}
use Rattle.layered_search.specs.declared.frontier.transitions.Transition.{Transition}
use Rattle.layered_search.specs.System.{System, Keys, Follows, state_after}
use Rattle.layered_search.specs.Lists.{IsOver}
use Rattle.layered_search.specs.Kept.{HaveKeys, ConfigurationsHaveKeys, lists_of, layer_of}
use Rattle.layered_search.specs.Layers.{AreApartClasses, AreFoundIn, AreOn, IsEndClass}
use Rattle.layered_search.specs.Distinct.{Keeps}
use Rattle.layered_search.specs.Transitions.{AreTransitions}

module _ {State : Type 0} (s : System State) where
  -- of each of the transitions there are the actor and the configuration
  abbrev pub AreThere : List Configuration → List Transition → Type 0
  AreThere configurations transitions = (j : ℕ) (one : Transition) → slice_get transitions j ≡ Some one
      → (one.actor < s.actors) × (one.configuration < length configurations)

  -- whether the list is at its end, and then its class is there; a class that is new is the list
  pub record IsEndClassBy (old new : List (List ℕ)) (is : List ℕ) (end_class : Option ℕ) : Type 0 where
    pub class : IsEndClass s new is end_class
    pub keeps : Keeps old new
    pub found : (m : ℕ) (found : List ℕ) → slice_get new m ≡ Some found
        → (slice_get old m ≡ Some found) ⊎ ((found ≡ is) × IsOver s (state_after s is))
    pub apart : AreApartClasses s old → AreApartClasses s new

module _ {State Memory Key : Type 0} (s : System State) (k : Keys State Memory Key) where
  -- ---- one state

  -- the state has its key and few turns, so that turns from it can be taken
  pub record CanGoOn (memory : Memory) (visited : Visited Key) : Type 0 where
    pub sound : k.IsSound memory
    pub here : k.IsKey memory (length visited.turns.items) (state_after s visited.turns.items) visited.key
    pub short : length visited.turns.items < 2 ^ 40

  -- a state of the next layer after that actor's turn from this one, by the list of that configuration
  pub record IsAfterTurn (before now : Memory) (visited : Visited Key) (configuration : Configuration) (actor : ℕ)
      (one : Visited Key) : Type 0 where
    pub turns : one.turns.items ≡ configuration.turns.items ++ actor ∷ []
    pub follows : Follows s k before now (length visited.turns.items) visited.key actor one.key

  -- the actor's turn leads to the next layer's state at that place; a state that is new there is the one after it
  pub record IsTaken (visited : Visited Key) (configuration : Configuration) (actor : ℕ) (memory new : Memory)
      (old next : List (Visited Key)) (at : ℕ) : Type 0 where
    pub sound : k.IsSound new
    pub grows : k.Grows memory new
    pub keeps : Keeps old next
    pub to : Visited Key
    pub there : slice_get next at ≡ Some to
    pub follows : Follows s k memory new (length visited.turns.items) visited.key actor to.key
    pub successor : (m : ℕ) (one : Visited Key) → slice_get next m ≡ Some one
        → (slice_get old m ≡ Some one) ⊎ IsAfterTurn memory new visited configuration actor one

  -- it is after one of these transitions
  pub record IsAfterOneOf (before now : Memory) (configurations : List Configuration) (visited : Visited Key)
      (transitions : List Transition) (one : Visited Key) : Type 0 where
    pub j : ℕ
    pub transition : Transition
    pub is : slice_get transitions j ≡ Some transition
    pub configuration : Configuration
    pub there : slice_get configurations transition.configuration ≡ Some configuration
    pub after : IsAfterTurn before now visited configuration transition.actor one

  -- the transitions lead to the next layer's states at these places, in order
  abbrev pub LeadTo : Memory → Memory → List (Visited Key) → Visited Key → List Transition → List ℕ → Type 0
  LeadTo before now next visited transitions places = (j : ℕ) (one : Transition)
      → slice_get transitions j ≡ Some one
      → (m : ℕ) × ((to : Visited Key) × ((slice_get places j ≡ Some m)
      × ((slice_get next m ≡ Some to)
      × Follows s k before now (length visited.turns.items) visited.key one.actor to.key)))

  -- so it is with all these transitions from the state
  pub record AreTaken (configurations : List Configuration) (visited : Visited Key) (transitions : List Transition)
      (memory new : Memory) (old next : List (Visited Key)) (places : List ℕ) : Type 0 where
    pub sound : k.IsSound new
    pub grows : k.Grows memory new
    pub keeps : Keeps old next
    pub many : length places ≡ length transitions
    pub leads : LeadTo memory new next visited transitions places
    pub successor : (m : ℕ) (one : Visited Key) → slice_get next m ≡ Some one → (slice_get old m ≡ Some one)
        ⊎ IsAfterOneOf memory new configurations visited transitions one

  -- ---- one state after another

  -- a layer of lists of n turns that is gone on from, what was known before it, and by which transitions
  pub record Expansion : Type 0 where
    pub bounds : Bounds
    pub n : ℕ
    pub layer : Layer Key
    pub transitions : List (SmallVec Transition)
    pub before : Memory
    pub found : List (List ℕ)
    pub short : n + 1 < 2 ^ 40
    pub keys : HaveKeys s k before n layer.states.items
    pub configurations : ConfigurationsHaveKeys s k before n layer.states.items layer.configurations.items
    pub on : AreOn n (layer_of layer)
    pub listed : AreTransitions s bounds (layer_of layer) transitions

  -- that layer, by these transitions, with what was known and found before it
  pub record IsExpansion (g : Expansion) (memory : Memory) (layer : Layer Key)
      (transitions : List (SmallVec Transition)) (found : List (List ℕ)) : Type 0 where
    pub sound : k.IsSound memory
    pub layer_is : g.layer ≡ layer
    pub transitions_are : g.transitions ≡ transitions
    pub before_is : g.before ≡ memory
    pub found_is : g.found ≡ found

  -- the state and its transitions are those at that place
  pub record IsNext (g : Expansion) (configurations : List Configuration) (m : ℕ) (visited : Visited Key)
      (transitions : List Transition) : Type 0 where
    pub configurations_are : g.layer.configurations.items ≡ configurations
    pub there : slice_get g.layer.states.items m ≡ Some visited
    pub those : SmallVec Transition
    pub listed : slice_get g.transitions m ≡ Some those
    pub transitions_are : those.items ≡ transitions

  -- the next layer's state after a transition: the transition's actor had its turn after the list of the transition's
  -- configuration
  pub record IsAfterTransition (g : Expansion) (now : Memory) (one : Visited Key) : Type 0 where
    pub m : ℕ
    pub visited : Visited Key
    pub here : slice_get g.layer.states.items m ≡ Some visited
    pub transitions : SmallVec Transition
    pub listed : slice_get g.transitions m ≡ Some transitions
    pub j : ℕ
    pub transition : Transition
    pub is : slice_get transitions.items j ≡ Some transition
    pub configuration : Configuration
    pub there : slice_get g.layer.configurations.items transition.configuration ≡ Some configuration
    pub turns : one.turns.items ≡ configuration.turns.items ++ transition.actor ∷ []
    pub follows : Follows s k g.before now g.n visited.key transition.actor one.key

  abbrev pub AreAfterTransitions : Expansion → Memory → List (Visited Key) → Type 0
  AreAfterTransitions g now next = (m : ℕ) (one : Visited Key) → slice_get next m ≡ Some one
      → IsAfterTransition g now one

  -- So it is with the first states of the layer: whether each is an end, and then its class; and the places, among the
  -- next layer's states, to which its transitions lead.
  pub record AreExpanded (g : Expansion) (memory : Memory) (next : List (Visited Key))
      (end_classes : List (Option ℕ)) (places : List (SmallVec ℕ)) (classes : List (List ℕ)) : Type 0 where
    pub sound : k.IsSound memory
    pub grows : k.Grows g.before memory
    pub many : length places ≡ length end_classes
    pub fits : length end_classes ≤ length g.layer.states.items
    pub are_end_classes : (m : ℕ) (visited : Visited Key) (end_class : Option ℕ)
        → slice_get g.layer.states.items m ≡ Some visited
        → slice_get end_classes m ≡ Some end_class → IsEndClass s classes visited.turns.items end_class
    pub leads : (m : ℕ) (visited : Visited Key) (those : SmallVec Transition) (row : SmallVec ℕ)
        → slice_get g.layer.states.items m ≡ Some visited
        → slice_get g.transitions m ≡ Some those → slice_get places m ≡ Some row
        → LeadTo g.before memory next visited those.items row.items
    pub keys : HaveKeys s k memory (suc g.n) next
    pub successor : AreAfterTransitions g memory next
    pub keeps : Keeps g.found classes
    pub are_found : AreFoundIn s (lists_of g.layer.states.items) g.found classes
    pub apart : AreApartClasses s g.found → AreApartClasses s classes
