-- Why a layer isn't gone on from to its end: there are too many states.
use Rattle.layered_search.specs.Limits.{ScopeView}
use Rattle.std.specs.Prelude.{◌≡◌, ◌<◌, ◌+◌, ℕ, List, length, Option}
use Rattle.smallvec.specs.SmallVec.{SmallVec}
use Rattle.std.proofs.Common.{sym, subst}
use Rattle.layered_search.specs.declared.frontier.layer.Layer.{Layer}
use Rattle.layered_search.specs.declared.frontier.layer.Visited.{Visited}
use Rattle.layered_search.specs.declared.frontier.transitions.Transition.{Transition}
use Rattle.layered_search.specs.System.{System, IsSystem, Keys, AreKeys, CountStates}
use Rattle.layered_search.specs.Asked.{bounds_at, HasMoreStates}
use Rattle.layered_search.specs.States.{AreStatesAmong, IsCounted}
use Rattle.layered_search.specs.Expanded.{Expansion, IsExpansion, AreExpanded}
use Rattle.layered_search.proofs.Layers.States.{expanded_more_states}

-- the expansion is that of what was known, found and listed before
module _ {State Memory Key : Type 0} (s : System State) (k : Keys State Memory Key) (laws : IsSystem s)
    (are_keys : AreKeys s k) where
  pub expansion_more_states : (g : Expansion s k) (memory after : Memory) (layer : Layer Key)
      (transitions : List (SmallVec Transition)) (found : List (List ℕ)) (scope : ScopeView) (next : List (Visited Key))
      (end_classes : List (Option ℕ)) (places : List (SmallVec ℕ)) (classes : List (List ℕ))
      → IsExpansion s k g memory layer transitions found → AreExpanded s k g after next end_classes places classes
      → g.bounds ≡ bounds_at scope g.n → (states count : ℕ) → IsCounted s k memory scope g.n states layer
      → CountStates s k after → AreStatesAmong s k next (length next) count
      → (limit : ℕ) → limit < states + count → HasMoreStates s scope limit
  expansion_more_states g memory after layer transitions found scope next end_classes places classes is expanded =
      λ bounds_are states count counted counts among limit more.
      expanded_more_states s k laws are_keys g scope after next end_classes places classes expanded bounds_are count
      states
      (subst (λ (m : Memory). IsCounted s k m scope g.n states g.layer) (sym is.before_is)
      (subst (λ (l : Layer Key). IsCounted s k memory scope g.n states l) (sym is.layer_is) counted))
      counts among limit more
