-- How the states are counted while a search goes from layer to layer.
use Rattle.std.specs.Prelude.{◌≡◌, ◌<◌, ◌≤◌, ℕ, List, true, length, Some, slice_get}
use Rattle.layered_search.specs.declared.frontier.layer.Layer.{Layer}
use Rattle.layered_search.specs.declared.frontier.layer.Visited.{Visited}
use Rattle.layered_search.specs.declared.frontier.layer.Configuration.{Configuration}
use Rattle.layered_search.specs.Limits.{ScopeView}
use Rattle.layered_search.specs.declared.cost.Cost.{Cost}
use Rattle.layered_search.specs.System.{System, Keys, state_after}
use Rattle.layered_search.specs.Lists.{AreBusy}
use Rattle.layered_search.specs.Asked.{IsWithin, GoAlong, IsOnWay, AreApartStates, HasItsState}
use Rattle.layered_search.specs.Merged.{bounded_cuts}
use Rattle.layered_search.specs.Points.{start, along, cost_after}

module _ {State : Type 0} (s : System State) where
  -- ---- a layer's lists

  -- the list has only turns of actors who have something left to do, with few cuts, and begins as is asked for; and
  -- this is its cost
  pub record IsSoFar (scope : ScopeView) (turns : List ℕ) (cost : Cost) : Type 0 where
    pub busy : AreBusy s s.begin turns
    pub cost_are : cost ≡ (along s (start s) turns).cost
    pub few : IsWithin scope.cuts cost.cuts
    pub along_it : GoAlong scope.begin turns

  -- the turn at that place of the beginning, after that list, can be taken, and this is the cost after it
  pub record IsTakenAt (scope : ScopeView) (is : List ℕ) (at : ℕ) (cost after : Cost) : Type 0 where
    pub actor : ℕ
    pub there : slice_get scope.begin at ≡ Some actor
    pub busy : s.is_busy (state_after s is) actor ≡ true
    pub cost_is : after ≡ cost_after s (state_after s is) cost actor
    pub few : IsWithin scope.cuts after.cuts

  -- ---- all states so far

  -- there are so many states of lists of up to n turns
  pub record AreStatesUpTo (scope : ScopeView) (n states : ℕ) : Type 0 where
    pub lists : List (List ℕ)
    pub many : length lists ≡ states
    pub short : (m : ℕ) (is : List ℕ) → slice_get lists m ≡ Some is → length is ≤ n
    pub apart : AreApartStates s scope lists
    pub all : (is : List ℕ) → IsOnWay s scope is → length is ≤ n → HasItsState s lists is

module _ {State Memory Key : Type 0} (s : System State) (k : Keys State Memory Key) where
  -- Of the first n states so many have no two that count as one, and each of the first n counts as one with one of
  -- these.
  pub record AreStatesAmong (visited : List (Visited Key)) (n states : ℕ) : Type 0 where
    pub chosen : List (Visited Key)
    pub many : length chosen ≡ states
    pub few : states ≤ n
    pub from : (j : ℕ) (one : Visited Key) → slice_get chosen j ≡ Some one
        → (m : ℕ) × ((m < n) × (slice_get visited m ≡ Some one))
    pub apart : (i j : ℕ) (one other : Visited Key) → slice_get chosen i ≡ Some one
        → slice_get chosen j ≡ Some other → k.CountAsOne one.key other.key → i ≡ j
    pub all : (m : ℕ) (one : Visited Key) → m < n → slice_get visited m ≡ Some one
        → (j : ℕ) × ((other : Visited Key) × ((slice_get chosen j ≡ Some other) × k.CountAsOne one.key other.key))

  -- some configuration is on a state of the key of the one that the list leads to, with what counts from then on
  pub record HasConfiguration (memory : Memory) (n : ℕ) (scope : ScopeView) (layer : Layer Key)
      (is : List ℕ) : Type 0 where
    pub at : ℕ
    pub configuration : Configuration
    pub there : slice_get layer.configurations.items at ≡ Some configuration
    pub visited : Visited Key
    pub on : slice_get layer.states.items configuration.state ≡ Some visited
    pub key : k.IsKey memory n (state_after s is) visited.key
    pub last : configuration.cost.last ≡ (along s (start s) is).cost.last
    pub cuts : bounded_cuts scope.cuts configuration.cost.cuts
        ≡ bounded_cuts scope.cuts (along s (start s) is).cost.cuts

  -- the configurations of the layer of lists of n turns have lists on the way, and each such list has a configuration
  pub record AreAllOnWay (memory : Memory) (scope : ScopeView) (n : ℕ) (layer : Layer Key) : Type 0 where
    pub each : (t : ℕ) (configuration : Configuration) → slice_get layer.configurations.items t ≡ Some configuration
        → IsSoFar s scope configuration.turns.items configuration.cost
    pub all : (is : List ℕ) → IsOnWay s scope is → length is ≡ n → HasConfiguration memory n scope layer is

  -- so it is with the layer of lists of n turns that is gone on from, and that many states were found so far
  pub record IsCounted (memory : Memory) (scope : ScopeView) (n states : ℕ) (layer : Layer Key) : Type 0 where
    pub on_way : AreAllOnWay memory scope n layer
    pub found : AreStatesUpTo s scope n states
