-- A layer's states, each by its key and a list of turns: what they are keys of.
use Rattle.std.specs.Prelude.{◌≡◌, ℕ, List, [], ◌∷◌, true, length, map, Some, slice_get}
use Rattle.layered_search.specs.declared.frontier.layer.Layer.{Layer}
use Rattle.layered_search.specs.declared.frontier.layer.Visited.{Visited}
use Rattle.layered_search.specs.declared.frontier.layer.Configuration.{Configuration}
use Rattle.layered_search.specs.System.{System, Keys, state_after}
use Rattle.layered_search.specs.Layers.{LayerView}
use Rattle.layered_search.specs.Points.{no_cost}

-- the lists that lead to them
abbrev pub lists_of : {Key : Type 0} → List (Visited Key) → List (List ℕ)
lists_of {Key} visited = map (λ (one : Visited Key). one.turns.items) visited

abbrev pub layer_of : {Key : Type 0} → Layer Key → LayerView
layer_of layer = record { lists = lists_of layer.states.items; configurations = layer.configurations.items }

-- the layer of no turns: of one state, by its key, and one configuration on it
pub record IsFirstOf {Key : Type 0} (key : Key) (layer : Layer Key) : Type 0 where
  pub visited : Visited Key
  pub states : layer.states.items ≡ visited ∷ []
  pub key_is : visited.key ≡ key
  pub turns : visited.turns.items ≡ []
  pub is_new : visited.is_new ≡ true
  pub configuration : Configuration
  pub configurations : layer.configurations.items ≡ configuration ∷ []
  pub on : configuration.state ≡ 0
  pub none : configuration.turns.items ≡ []
  pub cost : configuration.cost ≡ no_cost

module _ {State Memory Key : Type 0} (s : System State) (k : Keys State Memory Key) where
  -- each state's key is that of the state after its turns, of which there are so many
  pub record HaveKeys (memory : Memory) (n : ℕ) (visited : List (Visited Key)) : Type 0 where
    pub long : (m : ℕ) (one : Visited Key) → slice_get visited m ≡ Some one → length one.turns.items ≡ n
    pub keys : (m : ℕ) (one : Visited Key) → slice_get visited m ≡ Some one
        → k.IsKey memory n (state_after s one.turns.items) one.key

  -- each configuration's list leads to a state of the same key as the one that it is on
  abbrev pub ConfigurationsHaveKeys : Memory → ℕ → List (Visited Key) → List Configuration → Type 0
  ConfigurationsHaveKeys memory n visited configurations = (t : ℕ) (configuration : Configuration)
      (one : Visited Key) → slice_get configurations t ≡ Some configuration
      → slice_get visited configuration.state ≡ Some one
      → k.IsKey memory n (state_after s configuration.turns.items) one.key

  -- so it is with a layer of lists of so many turns, and all that is known is so
  pub record AreKept (memory : Memory) (n : ℕ) (layer : Layer Key) : Type 0 where
    pub sound : k.IsSound memory
    pub keys : HaveKeys memory n layer.states.items
    pub configurations : ConfigurationsHaveKeys memory n layer.states.items layer.configurations.items
