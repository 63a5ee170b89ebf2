-- Layers that are kept by their keys, and the lists that lead to their states.
use Rattle.std.specs.Prelude.{◌≡◌, ℕ, List, [], ◌∷◌, Some, length, slice_get}
use Rattle.std.proofs.Common.{sym, ap, ◌∙◌, subst}
use Rattle.std.proofs.lemmas.List.{length-map}
use Rattle.layered_search.specs.declared.frontier.layer.Layer.{Layer}
use Rattle.layered_search.specs.declared.frontier.layer.Visited.{Visited}
use Rattle.layered_search.specs.declared.frontier.layer.Configuration.{Configuration}
use Rattle.layered_search.specs.System.{System, Keys, state_after}
use Rattle.layered_search.specs.Kept.{lists_of, layer_of, AreKept, IsFirstOf}
use Rattle.layered_search.specs.Layers.{IsFirst}
use Rattle.layered_search.proofs.Places.{mapped_from, mapped_to}
use Rattle.layered_search.proofs.Layers.Passing.{only_one}

module _ {Key : Type 0} where
  -- ---- the lists of states

  -- each of the lists is that of the state at its place
  pub visited_at : (all_visited : List (Visited Key)) (m : ℕ) (is : List ℕ)
      → slice_get (lists_of all_visited) m ≡ Some is
      → (visited : Visited Key) × ((slice_get all_visited m ≡ Some visited) × (is ≡ visited.turns.items))
  visited_at all_visited m is there = mapped_from (λ (one : Visited Key). one.turns.items) all_visited m is there

  -- and each state's list is at its place
  pub list_at : (all_visited : List (Visited Key)) (m : ℕ) (visited : Visited Key)
      → slice_get all_visited m ≡ Some visited → slice_get (lists_of all_visited) m ≡ Some visited.turns.items
  list_at all_visited m visited there = mapped_to (λ (one : Visited Key). one.turns.items) all_visited m visited there

  pub lists_many : (all_visited : List (Visited Key)) → length (lists_of all_visited) ≡ length all_visited
  lists_many all_visited = length-map all_visited (λ (one : Visited Key). one.turns.items)

  -- ---- the first layer

  module _ (key : Key) (layer : Layer Key) (is : IsFirstOf key layer) where
    pub first_is : IsFirst (layer_of layer)
    first_is = record {
      lists = ap (λ (xs : List (Visited Key)). lists_of xs) is.states ∙ ap (λ (xs : List ℕ). xs ∷ []) is.turns;
      configuration = is.configuration;
      configurations = is.configurations;
      on = is.on;
      turns = is.none;
      cost = is.cost;
    }

    -- its state and its configuration are these
    only_visited : (m : ℕ) (visited : Visited Key) → slice_get layer.states.items m ≡ Some visited
        → visited ≡ is.visited
    only_visited m visited there =
        (only_one is.visited m visited (ap (λ (xs : List (Visited Key)). slice_get xs m) (sym is.states) ∙ there)).1

    only_configuration : (t : ℕ) (configuration : Configuration)
        → slice_get layer.configurations.items t ≡ Some configuration → configuration ≡ is.configuration
    only_configuration t configuration there =
        (only_one is.configuration t configuration
        (ap (λ (xs : List Configuration). slice_get xs t) (sym is.configurations) ∙ there)).1

    module _ {State Memory : Type 0} (s : System State) (k : Keys State Memory Key) (memory : Memory)
        (own : k.IsKey memory 0 s.begin key) where
      -- after no turns the state has its key
      no_turns : (visited : Visited Key) (turns : List ℕ) → visited ≡ is.visited → turns ≡ []
          → k.IsKey memory 0 (state_after s turns) visited.key
      no_turns visited turns one none =
          subst (λ (ts : List ℕ). k.IsKey memory 0 (state_after s ts) visited.key) (sym none)
          (subst (λ (x : Key). k.IsKey memory 0 s.begin x)
          (sym (ap (λ (l : Visited Key). l.key) one ∙ is.key_is)) own)

      pub first_kept : k.IsSound memory → AreKept s k memory 0 layer
      first_kept sound = record {
        sound = sound;
        keys = record {
          long = λ m visited there.
              ap length (ap (λ (l : Visited Key). l.turns.items) (only_visited m visited there) ∙ is.turns);
          keys = λ m visited there.
              let one = only_visited m visited there in
              no_turns visited visited.turns.items one (ap (λ (l : Visited Key). l.turns.items) one ∙ is.turns);
        };
        configurations = λ t configuration visited there on.
            no_turns visited configuration.turns.items (only_visited configuration.state visited on)
            (ap (λ (x : Configuration). x.turns.items) (only_configuration t configuration there) ∙ is.none);
      }
