-- The layers of a search so far: the lists of their configurations, and those that lead to their states.
use Rattle.layered_search.specs.Limits.{ScopeView}
use Rattle.std.specs.Prelude.{◌≡◌, ◌<◌, ◌≤◌, ℕ, zero, suc, List, [], ◌∷◌, ◌++◌, length, slice_get, Some, refl}
use Rattle.std.specs.Global.{Vec}
use Rattle.std.proofs.Common.{sym, ap, ◌∙◌, subst, arith}
use Rattle.std.proofs.lemmas.Option.{same_Some, none-some}
use Rattle.schedule_graph.specs.declared.graph.Node.{Node}
use Rattle.layered_search.specs.declared.frontier.layer.Configuration.{Configuration}
use Rattle.layered_search.specs.declared.cost.Cost.{Cost}
use Rattle.layered_search.specs.System.{System, IsSystem, after_turns, state_after}
use Rattle.layered_search.specs.Lists.{plus, is_another, cuts, IsOver, IsFull, AreBusy}
use Rattle.layered_search.specs.Asked.{IsWithin, IsAsked, bounds_at}
use Rattle.layered_search.specs.Points.{Point, no_cost, cost_after, start, along, MayGo}
use Rattle.layered_search.specs.States.{IsSoFar}
use Rattle.layered_search.specs.Layers.{LayerView, point_at, IsFirst, IsOnward, IsTransition, IsSuccessorList, IsSuccessorConfiguration, IsFoundIn, IsSearched}
use Rattle.layered_search.proofs.Places.{within_some, ap_at}
use Rattle.layered_search.proofs.Lists.Along.{after_append, along_append, along_state, cuts_along}
use Rattle.layered_search.proofs.Counts.Begun.{begins_to, along_none, along_push, begins_full}
use Rattle.layered_search.proofs.Counts.Merged.{within_zero, alike_cut}

-- the only one of a list
pub only : {A : Type 0} (x y : A) (xs : List A) (k : ℕ) → xs ≡ x ∷ [] → slice_get xs k ≡ Some y → x ≡ y
only x y xs k e there = by k (sym (ap (λ ys. slice_get ys k) e) ∙ there)
  where
    by : (k : ℕ) → slice_get (x ∷ []) k ≡ Some y → x ≡ y
    by zero q = same_Some x y q
    by (suc k) q = absurd (none-some y q)

module _ {State : Type 0} (s : System State) where
  -- ---- lists so far

  pub busy_append : (v : State) (is js : List ℕ) → AreBusy s v is → AreBusy s (after_turns s v is) js
      → AreBusy s v (is ++ js)
  busy_append v [] js busy more = more
  busy_append v (i ∷ is) js busy more = (busy.0, busy_append (s.turn v i) is js busy.1 more)

  busy_full : (v : State) (is : List ℕ) → AreBusy s v is → IsOver s (after_turns s v is) → IsFull s v is
  busy_full v [] busy over = over
  busy_full v (i ∷ is) busy over = (busy.0, busy_full (s.turn v i) is busy.1 over)

  pub cuts_there : (is : List ℕ) → (along s (start s) is).cost.cuts ≡ cuts s is
  cuts_there is = let e = cuts_along s (start s) is in omega (arith, e)

  pub none_so_far : (scope : ScopeView) → IsSoFar s scope [] no_cost
  none_so_far scope = record {
    busy = tt;
    cost_are = refl;
    few = within_zero scope.cuts;
    along_it = along_none scope.begin;
  }

  -- a list so far is a full one, where nobody has anything left to do after it
  module _ (scope : ScopeView) (is : List ℕ) (cost : Cost) (so : IsSoFar s scope is cost) where
    pub list_few : IsWithin scope.cuts (cuts s is)
    list_few =
        subst (λ n. IsWithin scope.cuts n) (ap (λ (m : Cost). m.cuts) so.cost_are ∙ cuts_there is) so.few

    list_asked : AreBusy s s.begin scope.begin → IsOver s (state_after s is) → IsAsked s scope is
    list_asked busy over =
        let whole : IsFull s s.begin is = busy_full s.begin is so.busy over in record {
          whole = whole;
          few_cuts = list_few;
          begins = begins_to scope.begin is (begins_full s s.begin scope.begin is busy so.along_it whole);
        }

  -- ---- transitions

  -- a transition leads to a state like that after the actor's turn
  pub moved : (m i j : ℕ) (layer next : LayerView) (is js : List ℕ) → slice_get layer.lists m ≡ Some is
      → IsTransition s layer m i next.lists j → slice_get next.lists j ≡ Some js
      → s.Alike (s.turn (state_after s is) i) (state_after s js)
  moved m i j layer next is js here transition there =
      let from : transition.from ≡ is = same_Some transition.from is (sym transition.here ∙ here) in
      let to : transition.leads.to ≡ js = same_Some transition.leads.to js (sym transition.leads.there ∙ there) in
      subst (λ (xs : List ℕ). s.Alike (s.turn (state_after s xs) i) (state_after s js)) from
      (subst (λ (xs : List ℕ). s.Alike (s.turn (state_after s transition.from) i) (state_after s xs)) to
      transition.leads.alike)

  module _ (laws : IsSystem s) where
    alike_cost : (v w : State) (cost : Cost) (i : ℕ) → s.Alike v w → cost_after s v cost i ≡ cost_after s w cost i
    alike_cost v w cost i alike =
        let cut = alike_cut s laws v w cost.last i alike in
        λ j. record {
          last = Some i;
          cuts = plus (cut j) cost.cuts;
          changes = plus (is_another cost.last i) cost.changes;
        }

    -- one turn more
    pub on_so_far : (scope : ScopeView) (turns : List ℕ) (cost : Cost) (v : State) (i : ℕ) → IsSoFar s scope turns cost
        → s.Alike (state_after s turns) v
        → MayGo s (bounds_at scope (length turns)) (record { state = v; cost = cost }) i
        → IsSoFar s scope (turns ++ i ∷ []) (cost_after s v cost i)
    on_so_far scope turns cost v i so alike may = record {
      busy = busy_append s.begin turns (i ∷ []) so.busy
          (laws.alike_busy (state_after s turns) v i alike ∙ may.busy, tt);
      cost_are = cost_on;
      few = may.few;
      along_it = along_push scope.begin turns i so.along_it may.only;
    }
      where
        there : Point State
        there = along s (start s) turns

        alike_there : s.Alike there.state v
        alike_there = subst (λ (u : State). s.Alike u v) (sym (along_state s (start s) turns)) alike

        cost_on : cost_after s v cost i ≡ (along s (start s) (turns ++ i ∷ [])).cost
        cost_on =
            sym (alike_cost there.state v cost i alike_there)
            ∙ (ap (λ (m : Cost). cost_after s there.state m i) so.cost_are
            ∙ sym (ap_at (λ (p : Point State). p.cost) (along s (start s) (turns ++ i ∷ [])) (along s there (i ∷ []))
            (along_append s (start s) turns (i ∷ []))))

    -- one turn more leads to a state like that after the actor's turn
    turned_alike : (turns : List ℕ) (i : ℕ) (v : State) → s.Alike (state_after s turns) v
        → s.Alike (state_after s (turns ++ i ∷ [])) (s.turn v i)
    turned_alike turns i v alike =
        subst (λ (u : State). s.Alike u (s.turn v i)) (sym (after_append s s.begin turns (i ∷ [])))
        (laws.alike_turns (state_after s turns) v i alike)

    -- ---- the layers

    module _ (scope : ScopeView) (layers : List LayerView) (graph : List (Vec Node)) (classes : List (List ℕ))
        (searched : IsSearched s scope layers graph classes) where
      -- the layer of that number
      layer_at : (k : ℕ) → k ≤ length graph → (layer : LayerView) × (slice_get layers k ≡ Some layer)
      layer_at k le = let many = searched.many in within_some layers k (omega (arith, le, many))

      first_is : (layer : LayerView) → slice_get layers 0 ≡ Some layer → IsFirst layer
      first_is layer there =
          subst (λ (l : LayerView). IsFirst l) (same_Some searched.first layer (sym searched.begins ∙ there))
          searched.is_first

      -- ---- configurations

      -- the state on which a configuration is is like the one that its list leads to
      pub configuration_alike : (k t : ℕ) (layer : LayerView) (configuration : Configuration) (is : List ℕ)
          → k ≤ length graph → slice_get layers k ≡ Some layer
          → slice_get layer.configurations t ≡ Some configuration
          → slice_get layer.lists configuration.state ≡ Some is
          → s.Alike (state_after s configuration.turns.items) (state_after s is)
      configuration_alike zero t layer configuration is le there here on =
          let first : IsFirst layer = first_is layer there in
          let list : [] ≡ is = only [] is layer.lists configuration.state first.lists on in
          let one = only first.configuration configuration layer.configurations t first.configurations here in
          let turns : [] ≡ configuration.turns.items =
          sym first.turns ∙ ap (λ (c : Configuration). c.turns.items) one in
          subst (λ (js : List ℕ). s.Alike (state_after s js) (state_after s is)) turns
          (subst (λ (js : List ℕ). s.Alike s.begin (state_after s js)) list (laws.alike_itself s.begin))
      configuration_alike (suc k) t next successor js le there here on =
          let layer = layer_at k (omega (arith, le)) in
          let is : IsSuccessorConfiguration s (bounds_at scope k) layer.0 next.lists successor =
          (searched.joined k layer.0 next layer.1 there).configurations t successor here in
          let turns = is.configuration.turns.items ++ is.i ∷ [] in
          let old = configuration_alike k is.onward.at layer.0 is.configuration is.is (omega (arith, le)) layer.1
          is.onward.there is.onward.on in
          subst (λ (xs : List ℕ). s.Alike (state_after s xs) (state_after s js)) (sym is.turns)
          (laws.alike_on (state_after s turns) (s.turn (state_after s is.is) is.i) (state_after s js)
          (turned_alike is.configuration.turns.items is.i (state_after s is.is) old)
          (moved is.configuration.state is.i successor.state layer.0 next is.is js is.onward.on is.transition on))

      -- the list of a configuration, and one turn more
      onward_so_far : (k i : ℕ) (layer : LayerView) (configuration : Configuration) (is : List ℕ) → k ≤ length graph
          → slice_get layers k ≡ Some layer → IsOnward s (bounds_at scope k) layer configuration is i
          → IsSoFar s scope configuration.turns.items configuration.cost
          → IsSoFar s scope (configuration.turns.items ++ i ∷ [])
          (cost_after s (state_after s is) configuration.cost i)
      onward_so_far k i layer configuration is le there on so =
          on_so_far scope configuration.turns.items configuration.cost (state_after s is) i so
          (configuration_alike k on.at layer configuration is le there on.there on.on)
          (subst (λ n. MayGo s (bounds_at scope n) (point_at s is configuration) i)
          (sym (searched.on k layer there on.at configuration on.there).long) on.may)

      -- each configuration's list
      pub configuration_so_far : (k t : ℕ) (layer : LayerView) (configuration : Configuration) → k ≤ length graph
          → slice_get layers k ≡ Some layer → slice_get layer.configurations t ≡ Some configuration
          → IsSoFar s scope configuration.turns.items configuration.cost
      configuration_so_far zero t layer configuration le there here =
          let first : IsFirst layer = first_is layer there in
          let one = only first.configuration configuration layer.configurations t first.configurations here in
          subst (λ (c : Configuration). IsSoFar s scope c.turns.items c.cost) one
          (subst (λ (turns : List ℕ). IsSoFar s scope turns first.configuration.cost) (sym first.turns)
          (subst (λ (cost : Cost). IsSoFar s scope [] cost) (sym first.cost) (none_so_far scope)))
      configuration_so_far (suc k) t next successor le there here =
          let layer = layer_at k (omega (arith, le)) in
          let is : IsSuccessorConfiguration s (bounds_at scope k) layer.0 next.lists successor =
          (searched.joined k layer.0 next layer.1 there).configurations t successor here in
          let old = configuration_so_far k is.onward.at layer.0 is.configuration (omega (arith, le)) layer.1
          is.onward.there in
          subst (λ (turns : List ℕ). IsSoFar s scope turns successor.cost) (sym is.turns)
          (subst (λ (cost : Cost). IsSoFar s scope (is.configuration.turns.items ++ is.i ∷ []) cost) (sym is.cost)
          (onward_so_far k is.i layer.0 is.configuration is.is (omega (arith, le)) layer.1 is.onward old))

      -- ---- states

      -- each state's list
      list_so_far : (k m : ℕ) (layer : LayerView) (is : List ℕ) → k ≤ length graph → slice_get layers k ≡ Some layer
          → slice_get layer.lists m ≡ Some is → (cost : Cost) × IsSoFar s scope is cost
      list_so_far zero m layer is le there here =
          let first : IsFirst layer = first_is layer there in (
            no_cost,
            subst (λ (js : List ℕ). IsSoFar s scope js no_cost) (only [] is layer.lists m first.lists here)
                (none_so_far scope),
          )
      list_so_far (suc k) m next is le there here =
          let layer = layer_at k (omega (arith, le)) in
          let of : IsSuccessorList s (bounds_at scope k) layer.0 is =
          (searched.joined k layer.0 next layer.1 there).lists m is here in
          let old = configuration_so_far k of.onward.at layer.0 of.configuration (omega (arith, le)) layer.1
          of.onward.there in
          let cost = cost_after s (state_after s of.is) of.configuration.cost of.i in (
            cost,
            subst (λ (js : List ℕ). IsSoFar s scope js cost) (sym of.one.turns)
                (onward_so_far k of.i layer.0 of.configuration of.is (omega (arith, le)) layer.1 of.onward old),
          )

      -- ---- what was found

      -- each class was found by a list that is asked for
      pub found_asked : (c : ℕ) (found : List ℕ) → slice_get classes c ≡ Some found → IsAsked s scope found
      found_asked c found there =
          let f = searched.found c found there in
          let lt : f.0 < length graph = f.1.1.0 in
          let is : IsFoundIn s f.1.0.lists found = f.1.1.1.1 in
          let so = list_so_far f.0 is.at f.1.0 found (omega (arith, lt)) f.1.1.1.0 is.there in
          list_asked scope found so.0 so.1 searched.can_begin.busy is.over
