-- A layer's states gone on from by their keys: what is known of the states that the keys stand for.
use Rattle.std.specs.Prelude.{◌≡◌, ◌<◌, ◌≤◌, ◌++◌, ℕ, suc, List, [], ◌∷◌, Option, Some, length, slice_get}
use Rattle.smallvec.specs.SmallVec.{SmallVec}
use Rattle.std.proofs.Common.{sym, ap, ◌∙◌, subst}
use Rattle.std.proofs.lemmas.Option.{same_Some}
use Rattle.layered_search.specs.declared.frontier.layer.Visited.{Visited}
use Rattle.layered_search.specs.declared.frontier.layer.Configuration.{Configuration}
use Rattle.layered_search.specs.declared.frontier.transitions.Choice.{Choice}
use Rattle.layered_search.specs.declared.frontier.transitions.Transition.{Transition}
use Rattle.layered_search.specs.System.{System, Keys, AreKeys, Follows, state_after}
use Rattle.layered_search.specs.Kept.{lists_of, layer_of, ConfigurationsHaveKeys}
use Rattle.layered_search.specs.Layers.{LayerView, IsEndClass, IsSuccessorList, point_at}
use Rattle.layered_search.specs.Transitions.{AreAllChoices, AreLeads, Going, AreGone}
use Rattle.layered_search.specs.Points.{MayGo}
use Rattle.layered_search.specs.Spreading.{AreConfigurationsFrom}
use Rattle.layered_search.specs.Expanded.{Expansion, LeadTo, AreExpanded}
use Rattle.layered_search.proofs.Places.{within_some}
use Rattle.layered_search.proofs.Lists.Along.{after_append}
use Rattle.layered_search.proofs.Layers.Kept.{visited_at, list_at, lists_many}

module _ {State Memory Key : Type 0} (s : System State) (k : Keys State Memory Key) (are_keys : AreKeys s k)
    (g : Expansion s k) (memory : Memory) (next : List (Visited Key)) (end_classes : List (Option ℕ))
    (places : List (SmallVec ℕ)) (classes : List (List ℕ))
    (expanded : AreExpanded s k g memory next end_classes places classes) where
  -- ---- the layer

  abbrev layer : LayerView
  layer = layer_of g.layer

  abbrev pub going : Going s
  going = record {
    bounds = g.bounds;
    layer = layer;
    transitions = g.transitions;
    listed = g.listed;
    found = g.found;
  }

  -- the actor's turn leads to a state like those of the key that follows
  alike_next : (m j i : ℕ) (visited one : Visited Key) → slice_get g.layer.states.items m ≡ Some visited
      → slice_get next j ≡ Some one → Follows s k g.before memory g.n visited.key i one.key
      → s.Alike (s.turn (state_after s visited.turns.items) i) (state_after s one.turns.items)
  alike_next m j i visited one here there follows =
      let from : State = state_after s visited.turns.items in
      are_keys.same_alike memory (suc g.n) (s.turn from i) (state_after s one.turns.items) one.key one.key
      (follows from (g.keys.keys m visited here)) (expanded.keys.keys j one there) (are_keys.same_itself one.key)

  follows_at : (m i : ℕ) (visited one : Visited Key) → slice_get g.layer.states.items m ≡ Some visited
      → Follows s k g.before memory (length visited.turns.items) visited.key i one.key
      → Follows s k g.before memory g.n visited.key i one.key
  follows_at m i visited one here follows =
      subst (λ n. Follows s k g.before memory n visited.key i one.key) (g.keys.long m visited here) follows

  -- a state's transitions lead to states of the next layer's keys
  leads_of : (m : ℕ) (visited : Visited Key) (transitions : List Transition) (row : List ℕ)
      → slice_get g.layer.states.items m ≡ Some visited
      → LeadTo s k g.before memory next visited transitions row
      → AreLeads s visited.turns.items transitions (lists_of next) row
  leads_of m visited transitions row here lead j one there =
      let by = lead j one there in (
        by.0,
        (
          by.1.1.0,
          record {
            to = by.1.0.turns.items;
            there = list_at next by.0 by.1.0 by.1.1.1.0;
            alike = alike_next m by.0 one.actor visited by.1.0 here by.1.1.1.0
                (follows_at m one.actor visited by.1.0 here by.1.1.1.1);
          },
        ),
      )

  successor_list : (j : ℕ) (successor : List ℕ) → slice_get (lists_of next) j ≡ Some successor
      → IsSuccessorList s g.bounds layer successor
  successor_list j successor there =
      let one = visited_at next j successor there in
      let after = expanded.successor j one.0 one.1.0 in
      let from = g.listed.each after.m after.transitions after.j after.transition after.listed after.is in
      let configuration : from.configuration ≡ after.configuration =
      same_Some from.configuration after.configuration (sym from.there ∙ after.there) in
      let at : after.configuration.state ≡ after.m =
      ap (λ (x : Configuration). x.state) (sym configuration) ∙ from.same in
      let is : List ℕ = after.visited.turns.items in
      let i = after.transition.actor in
      let list : from.is ≡ is =
      same_Some from.is is (sym from.on ∙ list_at g.layer.states.items after.m after.visited after.here) in
      subst (λ (js : List ℕ). IsSuccessorList s g.bounds layer js) (sym one.1.1) (record {
        configuration = after.configuration;
        is = is;
        i = i;
        onward = record {
          at = after.transition.configuration;
          there = after.there;
          on = list_at g.layer.states.items after.configuration.state after.visited
              (ap (slice_get g.layer.states.items) at ∙ after.here);
          may = subst (λ (x : Configuration). MayGo s g.bounds (point_at s is x) i) configuration
              (subst (λ (js : List ℕ). MayGo s g.bounds (point_at s js from.configuration) i) list from.may);
        };
        one = record {
          alike = alike_next after.m j i after.visited one.0 after.here one.1.0 after.follows;
          turns = after.turns;
        };
      })

  pub gone : AreGone s going (lists_of next) end_classes places classes
  gone = record {
    many = expanded.many;
    fits = subst (λ n. length end_classes ≤ n) (sym (lists_many g.layer.states.items)) expanded.fits;
    are_end_classes = λ m is end_class there at.
        let one = visited_at g.layer.states.items m is there in
        subst (λ (js : List ℕ). IsEndClass s classes js end_class) (sym one.1.1)
        (expanded.are_end_classes m one.0 end_class one.1.0 at);
    leads = λ m is those row there listed at.
        let one = visited_at g.layer.states.items m is there in
        subst (λ (js : List ℕ). AreLeads s js those.items (lists_of next) row.items) (sym one.1.1)
        (leads_of m one.0 those.items row.items one.1.0 (expanded.leads m one.0 those row one.1.0 listed at));
    successor = successor_list;
    keeps = expanded.keeps;
    are_found = expanded.are_found;
    apart = expanded.apart;
  }

  -- ---- the next layer's configurations

  -- a configuration's list and one turn more lead to a state of the key that follows
  key_after : (t i : ℕ) (configuration : Configuration) (visited to : Visited Key) (turns : List ℕ)
      → slice_get g.layer.configurations.items t ≡ Some configuration
      → slice_get g.layer.states.items configuration.state ≡ Some visited
      → Follows s k g.before memory g.n visited.key i to.key → turns ≡ configuration.turns.items ++ i ∷ []
      → k.IsKey memory (suc g.n) (state_after s turns) to.key
  key_after t i configuration visited to turns there on follows is =
      let before : State = state_after s configuration.turns.items in
      let after : state_after s turns ≡ s.turn before i =
      ap (λ (js : List ℕ). state_after s js) is ∙ after_append s s.begin configuration.turns.items (i ∷ []) in
      subst (λ (v : State). k.IsKey memory (suc g.n) v to.key) (sym after)
      (follows before (g.configurations t configuration visited there on))

  module _ (choices : List (SmallVec Choice)) (are : AreAllChoices s g.bounds layer g.transitions choices)
      (successor : List Configuration)
      (from : AreConfigurationsFrom g.layer.configurations.items choices places successor) where
    pub successor_on_keys : ConfigurationsHaveKeys s k memory (suc g.n) next successor
    successor_on_keys t configuration visited there is_on =
        let of = from t configuration there in
        let state = of.configuration.state in
        let lt : state < length layer.lists = (g.on of.s of.configuration of.there).on in
        let here = within_some g.layer.states.items state
        (subst (λ m. state < m) (lists_many g.layer.states.items) lt) in
        let list = list_at g.layer.states.items state here.0 here.1 in
        let transitions = within_some g.transitions state (subst (λ m. state < m) (sym g.listed.many) lt) in
        let choices_there = are.each of.s of.configuration here.0.turns.items transitions.0 of.those of.there list
        transitions.1 of.chosen in
        let own = (choices_there.each of.is.at of.is.choice of.is.there).transition in
        let to = expanded.leads state here.0 transitions.0 of.row here.1 transitions.1 of.places_there of.is.choice.at
        own.0 own.1.0 in
        let same : to.0 ≡ of.is.state = same_Some to.0 of.is.state (sym to.1.1.0 ∙ of.is.place) in
        let at : to.0 ≡ configuration.state = same ∙ sym of.is.is.on in
        let its : slice_get next configuration.state ≡ Some to.1.0 =
        subst (λ j. slice_get next j ≡ Some to.1.0) at to.1.1.1.0 in
        let one : to.1.0 ≡ visited = same_Some to.1.0 visited (sym its ∙ is_on) in
        let turns : configuration.turns.items ≡ of.configuration.turns.items ++ own.0.actor ∷ [] =
        subst (λ i. configuration.turns.items ≡ of.configuration.turns.items ++ i ∷ []) (sym own.1.1) of.is.is.turns in
        subst (λ (l : Visited Key). k.IsKey memory (suc g.n) (state_after s configuration.turns.items) l.key) one
        (key_after of.s own.0.actor of.configuration here.0 to.1.0 configuration.turns.items of.there here.1
        (follows_at state own.0.actor here.0 to.1.0 here.1 to.1.1.1.1) turns)
