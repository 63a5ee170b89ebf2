-- A layer that was gone on from by its keys was passed, and the next one is kept.
use Rattle.layered_search.specs.Limits.{ScopeView}
use Rattle.std.specs.Prelude.{◌≡◌, ◌<◌, ◌≤◌, ◌+◌, ◌^◌, ℕ, suc, List, Option, Some, length, slice_get, refl}
use Rattle.smallvec.specs.SmallVec.{SmallVec}
use Rattle.std.proofs.Common.{sym, ap, ◌∙◌, subst, arith}
use Rattle.schedule_graph.specs.declared.graph.Node.{Node}
use Rattle.schedule_graph.specs.declared.graph.Edge.{Edge}
use Rattle.layered_search.specs.declared.frontier.layer.Layer.{Layer}
use Rattle.layered_search.specs.declared.frontier.layer.Visited.{Visited}
use Rattle.layered_search.specs.declared.frontier.layer.Configuration.{Configuration}
use Rattle.layered_search.specs.declared.limits.Bounds.{Bounds}
use Rattle.layered_search.specs.declared.frontier.transitions.Choice.{Choice}
use Rattle.layered_search.specs.declared.frontier.transitions.Transition.{Transition}
use Rattle.layered_search.specs.System.{System, IsSystem, Keys, AreKeys, CountStates}
use Rattle.layered_search.specs.Asked.{bounds_at}
use Rattle.layered_search.specs.Kept.{lists_of, layer_of, HaveKeys, ConfigurationsHaveKeys, AreKept}
use Rattle.layered_search.specs.Layers.{AreOn, IsPassed}
use Rattle.layered_search.specs.Transitions.{AreTransitions, AreAllChoices, Going, AreGone}
use Rattle.layered_search.specs.Spreading.{AreFit, AreApartChoices, AreEdgesOfAll, AreGraphNodesBy}
use Rattle.layered_search.specs.States.{AreStatesAmong, IsCounted}
use Rattle.layered_search.specs.Expanded.{Expansion, IsExpansion, AreExpanded}
use Rattle.layered_search.proofs.Layers.Kept.{lists_many}
use Rattle.layered_search.proofs.Layers.States.{expanded_counted}
use Rattle.layered_search.proofs.Layers.Spread.{fits, choices_apart, end_classes_there, passed_by}
use Rattle.layered_search.proofs.Layers.Expanded.{going, gone, successor_on_keys}

module _ {State Memory Key : Type 0} (s : System State) (k : Keys State Memory Key) where
  -- a kept layer, its transitions, and who may have the next turn from its configurations, by what is known of its keys
  pub record ToPass : Type 0 where
    pub n : ℕ
    pub bounds : Bounds
    pub memory : Memory
    pub layer : Layer Key
    pub found : List (List ℕ)
    pub short : n + 1 < 2 ^ 40
    pub kept : AreKept s k memory n layer
    pub on : AreOn n (layer_of layer)
    pub transitions : List (SmallVec Transition)
    pub choices : List (SmallVec Choice)
    pub listed : AreTransitions s bounds (layer_of layer) transitions
    pub are : AreAllChoices s bounds (layer_of layer) transitions choices

  module _ (p : ToPass) where
    abbrev pub expansion : Expansion s k
    expansion = record {
      bounds = p.bounds;
      n = p.n;
      layer = p.layer;
      transitions = p.transitions;
      before = p.memory;
      found = p.found;
      short = p.short;
      keys = p.kept.keys;
      configurations = p.kept.configurations;
      on = p.on;
      listed = p.listed;
    }

    pub is_expansion : (transitions : List (SmallVec Transition)) → transitions ≡ p.transitions
        → IsExpansion s k expansion p.memory p.layer transitions p.found
    is_expansion transitions same = record {
      sound = p.kept.sound;
      layer_is = refl;
      transitions_are = sym same;
      before_is = refl;
      found_is = refl;
    }

    module _ (laws : IsSystem s) (are_keys : AreKeys s k) (after : Memory) (next : List (Visited Key))
        (end_classes : List (Option ℕ)) (places : List (SmallVec ℕ)) (classes : List (List ℕ))
        (came : AreExpanded s k expansion after next end_classes places classes
        × (length end_classes ≡ length p.layer.states.items)) where
      abbrev its : Going s
      its = going s k are_keys expansion after next end_classes places classes came.0

      has_gone : AreGone s its (lists_of next) end_classes places classes
      has_gone = gone s k are_keys expansion after next end_classes places classes came.0

      all_end_classes : length (lists_of p.layer.states.items) ≤ length end_classes
      all_end_classes = let many = lists_many p.layer.states.items in let whole = came.1 in omega (arith, many, whole)

      -- the same lists, as slices
      module _ (configurations : List Configuration) (choices : List (SmallVec Choice)) (rows : List (SmallVec ℕ))
          (ends : List (Option ℕ)) (configurations_are : configurations ≡ p.layer.configurations.items)
          (choices_are : choices ≡ p.choices) (rows_are : rows ≡ places) (ends_are : ends ≡ end_classes) where
        pub are_fit : AreFit configurations choices rows
        are_fit =
            subst (λ (xs : List Configuration). AreFit xs choices rows) (sym configurations_are)
            (subst (λ (xs : List (SmallVec Choice)). AreFit p.layer.configurations.items xs rows) (sym choices_are)
            (subst (λ (xs : List (SmallVec ℕ)). AreFit p.layer.configurations.items p.choices xs) (sym rows_are)
            (fits s its (lists_of next) end_classes places classes has_gone all_end_classes p.n p.on p.choices p.are)))

        pub are_apart : AreApartChoices choices
        are_apart = subst (λ (xs : List (SmallVec Choice)). AreApartChoices xs) (sym choices_are)
            (choices_apart s its (lists_of next) end_classes places classes has_gone all_end_classes p.n p.on p.choices
            p.are)

        pub end_classes_on : (t : ℕ) (configuration : Configuration) → slice_get configurations t ≡ Some configuration
            → configuration.state < length ends
        end_classes_on t configuration there =
            subst (λ (xs : List (Option ℕ)). configuration.state < length xs) (sym ends_are)
            (end_classes_there s its (lists_of next) end_classes places classes has_gone all_end_classes p.n p.on
            p.choices p.are t configuration
            (ap (λ (xs : List Configuration). slice_get xs t) (sym configurations_are) ∙ there))

        module _ (new : Layer Key) (states_are : new.states.items ≡ next) (all : List (SmallVec Edge))
            (edges : AreEdgesOfAll p.bounds configurations choices rows new.configurations.items all) where
          own_edges : AreEdgesOfAll p.bounds p.layer.configurations.items p.choices places new.configurations.items all
          own_edges =
              subst (λ (xs : List (SmallVec ℕ)).
              AreEdgesOfAll p.bounds p.layer.configurations.items p.choices xs new.configurations.items all) rows_are
              (subst (λ (xs : List (SmallVec Choice)).
              AreEdgesOfAll p.bounds p.layer.configurations.items xs rows new.configurations.items all) choices_are
              (subst (λ (xs : List Configuration).
              AreEdgesOfAll p.bounds xs choices rows new.configurations.items all) configurations_are edges))

          pub is_passed : (graph_nodes : List Node) → AreGraphNodesBy configurations ends all graph_nodes
              → IsPassed s p.bounds p.n (layer_of p.layer) (layer_of new) graph_nodes p.found classes
          is_passed graph_nodes nodes =
              subst (λ (all_visited : List (Visited Key)). IsPassed s p.bounds p.n (layer_of p.layer)
              (record { lists = lists_of all_visited; configurations = new.configurations.items }) graph_nodes p.found
              classes) (sym states_are)
              (passed_by s its (lists_of next) end_classes places classes has_gone all_end_classes p.n p.on p.choices
              p.are new.configurations.items all own_edges graph_nodes own_graph_nodes)
            where
              own_graph_nodes : AreGraphNodesBy p.layer.configurations.items end_classes all graph_nodes
              own_graph_nodes =
                  subst (λ (xs : List (Option ℕ)). AreGraphNodesBy p.layer.configurations.items xs all graph_nodes)
                  ends_are
                  (subst (λ (xs : List Configuration). AreGraphNodesBy xs ends all graph_nodes) configurations_are
                  nodes)

          pub next_kept : AreKept s k after (p.n + 1) new
          next_kept = subst (λ n. AreKept s k after n new) (let up : suc p.n ≡ p.n + 1 = omega arith in up) (record {
            sound = came.0.sound;
            keys = subst (λ (all_visited : List (Visited Key)). HaveKeys s k after (suc p.n) all_visited)
                (sym states_are) came.0.keys;
            configurations = subst (λ (all_visited : List (Visited Key)).
                ConfigurationsHaveKeys s k after (suc p.n) all_visited new.configurations.items) (sym states_are)
                (successor_on_keys s k are_keys expansion after next end_classes places classes came.0 p.choices p.are
                new.configurations.items own_edges.successor);
          })

          -- as many states more as there are among the next layer's
          pub next_counted : (scope : ScopeView) (states count : ℕ) → p.bounds ≡ bounds_at scope p.n
              → IsCounted s k p.memory scope p.n states p.layer → CountStates s k after
              → AreStatesAmong s k next (length next) count → IsCounted s k after scope (p.n + 1) (states + count) new
          next_counted scope states count bounds_are counted counts among =
              expanded_counted s k laws are_keys expansion scope after next end_classes places classes came.0
              bounds_are count states counted counts among p.choices p.are all new states_are came.1 own_edges
