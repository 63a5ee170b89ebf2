-- Lists that are on the way, one turn less and one more, and the configurations on which they are in the next layer.
use Rattle.layered_search.specs.Limits.{ScopeView}
use Rattle.std.specs.Prelude.{◌≡◌, ◌<◌, ◌≤◌, ◌+◌, ℕ, zero, suc, List, [], ◌∷◌, ◌++◌, Bool, true, false, length, Option, Some, None, slice_get, refl}
use Rattle.smallvec.specs.SmallVec.{SmallVec}
use Rattle.std.proofs.Common.{sym, ap, ◌∙◌, subst, arith}
use Rattle.std.proofs.lemmas.Option.{same_Some, slice_get_within}
use Rattle.schedule_graph.specs.declared.graph.Edge.{Edge}
use Rattle.layered_search.specs.declared.frontier.layer.Layer.{Layer}
use Rattle.layered_search.specs.declared.frontier.layer.Visited.{Visited}
use Rattle.layered_search.specs.declared.frontier.layer.Configuration.{Configuration}
use Rattle.layered_search.specs.declared.limits.Bounds.{Bounds}
use Rattle.layered_search.specs.declared.cost.Cost.{Cost}
use Rattle.layered_search.specs.declared.frontier.transitions.Choice.{Choice}
use Rattle.layered_search.specs.System.{System, IsSystem, Keys, AreKeys, after_turns, state_after}
use Rattle.layered_search.specs.Lists.{plus, is_cut, AreBusy}
use Rattle.layered_search.specs.Asked.{IsWithin, IsOnly, GoAlong, IsOnWay, bounds_at}
use Rattle.layered_search.specs.Kept.{layer_of}
use Rattle.layered_search.specs.Layers.{point_at}
use Rattle.layered_search.specs.Merged.{bounded_cuts}
use Rattle.layered_search.specs.Transitions.{AreAllChoices}
use Rattle.layered_search.specs.Points.{Point, cost_after, start, along, MayGo}
use Rattle.layered_search.specs.Spreading.{AreEdgesOfAll}
use Rattle.layered_search.specs.States.{IsSoFar, HasConfiguration, AreAllOnWay}
use Rattle.layered_search.specs.Expanded.{Expansion, AreExpanded}
use Rattle.layered_search.proofs.Places.{within_some, ap_at, last_of}
use Rattle.layered_search.proofs.Lists.Along.{after_append, along_append, along_state}
use Rattle.layered_search.proofs.Counts.Merged.{alike_cut}
use Rattle.layered_search.proofs.Layers.Kept.{list_at, lists_many}
use Rattle.layered_search.proofs.Layers.SoFar.{cuts_there, on_so_far}

-- ---- the last turn of a list

along_back : (begin js : List ℕ) (i : ℕ) → GoAlong begin (js ++ i ∷ [])
    → GoAlong begin js × IsOnly (slice_get begin (length js)) i
along_back [] js i so = (tt, tt)
along_back (b ∷ bs) [] i so = (tt, so.0)
along_back (b ∷ bs) (j ∷ js) i so = let rest = along_back bs js i so.1 in ((so.0, rest.0), rest.1)

-- two lists that go along with some turns, and are as long, are the same as far as these go
along_same : (begin is js : List ℕ) → GoAlong begin is → GoAlong begin js → length is ≡ length js
    → length is ≤ length begin → is ≡ js
along_same begin [] [] one other e le = refl
along_same begin [] (j ∷ js) one other e le = absurd (omega (arith, e))
along_same begin (i ∷ is) [] one other e le = absurd (omega (arith, e))
along_same [] (i ∷ is) (j ∷ js) one other e le = absurd (omega (arith, le))
along_same (b ∷ bs) (i ∷ is) (j ∷ js) one other e le =
    ap (λ n. n ∷ is) (one.0 ∙ sym other.0)
    ∙ ap (λ (xs : List ℕ). j ∷ xs) (along_same bs is js one.1 other.1 (omega (arith, e)) (omega (arith, le)))

more_by : (m n : ℕ) → m < n → (d : ℕ) × (n ≡ suc m + d)
more_by m zero lt = absurd (omega (arith, lt))
more_by zero (suc n) lt = (n, omega arith)
more_by (suc m) (suc n) lt = let rest = more_by m n (omega (arith, lt)) in
    let e = rest.1 in (rest.0, omega (arith, e))

within_less : (b : Bool) (most : Option ℕ) (n : ℕ) → IsWithin most (plus b n) → IsWithin most n
within_less b None n few = tt
within_less true (Some most) n few = omega (arith, few)
within_less false (Some most) n few = few

-- ---- cuts that are bounded

cuts_alike : (most : Option ℕ) (b : Bool) (m n : ℕ) → bounded_cuts most m ≡ bounded_cuts most n
    → bounded_cuts most (plus b m) ≡ bounded_cuts most (plus b n)
cuts_alike None b m n e = refl
cuts_alike (Some most) true m n e = ap suc e
cuts_alike (Some most) false m n e = e

within_alike : (most : Option ℕ) (m n : ℕ) → bounded_cuts most m ≡ bounded_cuts most n → IsWithin most m
    → IsWithin most n
within_alike None m n e few = tt
within_alike (Some most) m n e few = subst (λ x. x ≤ most) e few

module _ {State : Type 0} (s : System State) where
  busy_back : (v : State) (js : List ℕ) (i : ℕ) → AreBusy s v (js ++ i ∷ [])
      → AreBusy s v js × (s.is_busy (after_turns s v js) i ≡ true)
  busy_back v [] i busy = (tt, busy.0)
  busy_back v (j ∷ js) i busy = let rest = busy_back (s.turn v j) js i busy.1 in ((busy.0, rest.0), rest.1)

  cost_on : (js : List ℕ) (i : ℕ)
      → (along s (start s) (js ++ i ∷ [])).cost ≡ cost_after s (state_after s js) (along s (start s) js).cost i
  cost_on js i =
      ap_at (λ (p : Point State). p.cost) (along s (start s) (js ++ i ∷ [])) (along s (along s (start s) js) (i ∷ []))
      (along_append s (start s) js (i ∷ []))
      ∙ ap_at (λ (v : State). cost_after s v (along s (start s) js).cost i) (along s (start s) js).state
      (state_after s js) (along_state s (start s) js)

  -- the list after which the last turn was taken, and that turn
  pub on_way_back : (scope : ScopeView) (js : List ℕ) (i : ℕ) → IsOnWay s scope (js ++ i ∷ [])
      → IsOnWay s scope js
      × MayGo s (bounds_at scope (length js))
      (record { state = state_after s js; cost = (along s (start s) js).cost }) i
  on_way_back scope js i on = (
    record {
      busy = busy.0;
      few_cuts = subst (λ n. IsWithin scope.cuts n) (cuts_there s js) few_before;
      begins = begins.0;
    },
    record { only = begins.1; busy = busy.1; few = few },
  )
    where
      busy : AreBusy s s.begin js × (s.is_busy (state_after s js) i ≡ true)
      busy = busy_back s.begin js i on.busy

      begins : GoAlong scope.begin js × IsOnly (slice_get scope.begin (length js)) i
      begins = along_back scope.begin js i on.begins

      few : IsWithin scope.cuts (cost_after s (state_after s js) (along s (start s) js).cost i).cuts
      few = subst (λ n. IsWithin scope.cuts n)
          (sym (cuts_there s (js ++ i ∷ [])) ∙ ap (λ (m : Cost). m.cuts) (cost_on js i)) on.few_cuts

      few_before : IsWithin scope.cuts (along s (start s) js).cost.cuts
      few_before = within_less (is_cut s (state_after s js) (along s (start s) js).cost.last i) scope.cuts
          (along s (start s) js).cost.cuts few

  pub on_way_of : (scope : ScopeView) (turns : List ℕ) (cost : Cost) → IsSoFar s scope turns cost → IsOnWay s scope turns
  on_way_of scope turns cost so = record {
    busy = so.busy;
    few_cuts = subst (λ n. IsWithin scope.cuts n) (ap (λ (m : Cost). m.cuts) so.cost_are ∙ cuts_there s turns) so.few;
    begins = so.along_it;
  }

  -- so no list is on the way that is longer than all of some length that are
  pub on_way_front : (scope : ScopeView) (n d : ℕ) (is : List ℕ) → length is ≡ n + d → IsOnWay s scope is
      → (js : List ℕ) × (IsOnWay s scope js × (length js ≡ n))
  on_way_front scope n zero is e on = (is, (on, omega (arith, e)))
  on_way_front scope n (suc d) is e on =
      let back = last_of is (n + d) (omega (arith, e)) in
      on_way_front scope n d back.0 back.1.1.1
      (on_way_back scope back.0 back.1.0 (subst (λ (xs : List ℕ). IsOnWay s scope xs) back.1.1.0 on)).0

  -- ---- who may go on in states that are alike

  module _ (laws : IsSystem s) (most : Option ℕ) (u v : State) (cost other : Cost) (i : ℕ) (alike : s.Alike u v)
      (last : cost.last ≡ other.last) (cuts : bounded_cuts most cost.cuts ≡ bounded_cuts most other.cuts) where
    pub cuts_after_alike : bounded_cuts most (cost_after s u cost i).cuts
        ≡ bounded_cuts most (cost_after s v other i).cuts
    cuts_after_alike =
        ap (λ (b : Bool). bounded_cuts most (plus b cost.cuts))
        (alike_cut s laws u v cost.last i alike ∙ ap (λ (l : Option ℕ). is_cut s v l i) last)
        ∙ cuts_alike most (is_cut s v other.last i) cost.cuts other.cuts cuts

    pub may_alike : (bounds : Bounds) → bounds.cuts ≡ most → MayGo s bounds (record { state = u; cost = cost }) i
        → MayGo s bounds (record { state = v; cost = other }) i
    may_alike bounds is may = record {
      only = may.only;
      busy = sym (laws.alike_busy u v i alike) ∙ may.busy;
      few = subst (λ (m : Option ℕ). IsWithin m (cost_after s v other i).cuts) (sym is)
          (within_alike most (cost_after s u cost i).cuts (cost_after s v other i).cuts cuts_after_alike
          (subst (λ (m : Option ℕ). IsWithin m (cost_after s u cost i).cuts) is may.few));
    }

  -- ---- the turns that all lists begin with

  -- where these can be taken, after the first ones of them the next one's actor may go on
  pub begin_goes_on : IsSystem s → (scope : ScopeView) → IsOnWay s scope scope.begin → (turns : List ℕ) (cost : Cost)
      → IsSoFar s scope turns cost → length turns < length scope.begin
      → (v : State) → s.Alike (state_after s turns) v
      → (i : ℕ) × MayGo s (bounds_at scope (length turns)) (record { state = v; cost = cost }) i
  begin_goes_on laws scope begins turns cost so lt v alike = (
    i,
    may_alike laws scope.cuts (state_after s turns) v cost cost i alike refl refl (bounds_at scope (length turns)) refl
        (subst (λ (m : Cost).
        MayGo s (bounds_at scope (length turns)) (record { state = state_after s turns; cost = m }) i)
        (sym so.cost_are) there),
  )
    where
      more : (d : ℕ) × (length scope.begin ≡ suc (length turns) + d)
      more = more_by (length turns) (length scope.begin) lt

      front : (js : List ℕ) × (IsOnWay s scope js × (length js ≡ suc (length turns)))
      front = on_way_front scope (suc (length turns)) more.0 scope.begin more.1 begins

      last : (ks : List ℕ) × ((i : ℕ) × ((front.0 ≡ ks ++ i ∷ []) × (length ks ≡ length turns)))
      last = last_of front.0 (length turns) front.1.1

      ks : List ℕ
      ks = last.0

      i : ℕ
      i = last.1.0

      back : IsOnWay s scope ks
          × MayGo s (bounds_at scope (length ks))
          (record { state = state_after s ks; cost = (along s (start s) ks).cost }) i
      back = on_way_back scope ks i (subst (λ (xs : List ℕ). IsOnWay s scope xs) last.1.1.0 front.1.0)

      same : ks ≡ turns
      same = let long = last.1.1.1 in
          along_same scope.begin ks turns back.0.begins so.along_it long (omega (arith, long, lt))

      there : MayGo s (bounds_at scope (length turns))
          (record { state = state_after s turns; cost = (along s (start s) turns).cost }) i
      there = subst (λ (xs : List ℕ). MayGo s (bounds_at scope (length xs))
          (record { state = state_after s xs; cost = (along s (start s) xs).cost }) i) same back.1

-- ---- from one layer to the next

module _ {State Memory Key : Type 0} (s : System State) (k : Keys State Memory Key) (laws : IsSystem s)
    (are_keys : AreKeys s k) (g : Expansion s k) (scope : ScopeView) (memory : Memory) (next : List (Visited Key))
    (end_classes : List (Option ℕ)) (places : List (SmallVec ℕ)) (classes : List (List ℕ))
    (expanded : AreExpanded s k g memory next end_classes places classes) (bounds_are : g.bounds ≡ bounds_at scope g.n)
    (on_way : AreAllOnWay s k g.before scope g.n g.layer) where
  -- states of one key of the layer are alike
  key_alike : (u v : State) (key : Key) → k.IsKey g.before g.n u key → k.IsKey g.before g.n v key → s.Alike u v
  key_alike u v key here there = are_keys.same_alike g.before g.n u v key key here there (are_keys.same_itself key)

  -- a configuration's list, and one turn more
  so_on : (t : ℕ) (configuration : Configuration) (visited : Visited Key) (i : ℕ)
      → slice_get g.layer.configurations.items t ≡ Some configuration
      → slice_get g.layer.states.items configuration.state ≡ Some visited
      → MayGo s g.bounds (point_at s visited.turns.items configuration) i
      → IsSoFar s scope (configuration.turns.items ++ i ∷ [])
      (cost_after s (state_after s visited.turns.items) configuration.cost i)
  so_on t configuration visited i there here may =
      on_so_far s laws scope configuration.turns.items configuration.cost (state_after s visited.turns.items) i
      (on_way.each t configuration there)
      (key_alike (state_after s configuration.turns.items) (state_after s visited.turns.items) visited.key
      (g.configurations t configuration visited there here) (g.keys.keys configuration.state visited here))
      (subst (λ n. MayGo s (bounds_at scope n) (point_at s visited.turns.items configuration) i)
      (sym (g.on t configuration there).long)
      (subst (λ (b : Bounds). MayGo s b (point_at s visited.turns.items configuration) i) bounds_are may))

  -- each of the next layer's states has a list on the way
  pub born_on_way : (m : ℕ) (one : Visited Key) → slice_get next m ≡ Some one → IsOnWay s scope one.turns.items
  born_on_way m one there =
      let after = expanded.successor m one there in
      let from = g.listed.each after.m after.transitions after.j after.transition after.listed after.is in
      let configuration : from.configuration ≡ after.configuration =
      same_Some from.configuration after.configuration (sym from.there ∙ after.there) in
      let at : after.configuration.state ≡ after.m =
      ap (λ (x : Configuration). x.state) (sym configuration) ∙ from.same in
      let list : from.is ≡ after.visited.turns.items =
      same_Some from.is after.visited.turns.items
      (sym from.on ∙ list_at g.layer.states.items after.m after.visited after.here) in
      let may : MayGo s g.bounds (point_at s after.visited.turns.items after.configuration) after.transition.actor =
      subst (λ (x : Configuration). MayGo s g.bounds (point_at s after.visited.turns.items x) after.transition.actor)
      configuration (subst (λ (is : List ℕ). MayGo s g.bounds (point_at s is from.configuration) after.transition.actor)
      list from.may) in
      let so = so_on after.transition.configuration after.configuration after.visited after.transition.actor after.there
      (ap (slice_get g.layer.states.items) at ∙ after.here) may in
      subst (λ (is : List ℕ). IsOnWay s scope is) (sym after.turns)
      (on_way_of s scope (after.configuration.turns.items ++ after.transition.actor ∷ [])
      (cost_after s (state_after s after.visited.turns.items) after.configuration.cost after.transition.actor) so)

  module _ (choices : List (SmallVec Choice)) (are : AreAllChoices s g.bounds (layer_of g.layer) g.transitions choices)
      (all : List (SmallVec Edge)) (after : Layer Key) (states_are : after.states.items ≡ next)
      (whole : length end_classes ≡ length g.layer.states.items)
      (edges : AreEdgesOfAll g.bounds g.layer.configurations.items choices places after.configurations.items all) where
    state_within : (t : ℕ) (configuration : Configuration)
        → slice_get g.layer.configurations.items t ≡ Some configuration
        → configuration.state < length g.layer.states.items
    state_within t configuration there =
        subst (λ n. configuration.state < n) (lists_many g.layer.states.items) (g.on t configuration there).on

    transitions_there : (t : ℕ) (configuration : Configuration)
        → slice_get g.layer.configurations.items t ≡ Some configuration → configuration.state < length g.transitions
    transitions_there t configuration there =
        subst (λ n. configuration.state < n) (sym g.listed.many) (g.on t configuration there).on

    each_next : (t : ℕ) (successor : Configuration) → slice_get after.configurations.items t ≡ Some successor
        → IsSoFar s scope successor.turns.items successor.cost
    each_next t successor there =
        let of = edges.successor t successor there in
        let here = within_some g.layer.states.items of.configuration.state
        (state_within of.s of.configuration of.there) in
        let list = list_at g.layer.states.items of.configuration.state here.0 here.1 in
        let transitions = within_some g.transitions of.configuration.state
        (transitions_there of.s of.configuration of.there) in
        let choice = (are.each of.s of.configuration here.0.turns.items transitions.0 of.those of.there list
        transitions.1 of.chosen).each of.is.at of.is.choice of.is.there in
        subst (λ (is : List ℕ). IsSoFar s scope is successor.cost) (sym of.is.is.turns)
        (subst (λ (cost : Cost). IsSoFar s scope (of.configuration.turns.items ++ of.is.choice.actor ∷ []) cost)
        (sym (of.is.is.cost ∙ choice.cost))
        (so_on of.s of.configuration here.0 of.is.choice.actor of.there here.1 choice.may))

    module _ (js : List ℕ) (i : ℕ) (on : IsOnWay s scope (js ++ i ∷ [])) (long : length js ≡ g.n) where
      back : IsOnWay s scope js × MayGo s (bounds_at scope (length js))
          (record { state = state_after s js; cost = (along s (start s) js).cost }) i
      back = on_way_back s scope js i on

      old : HasConfiguration s k g.before g.n scope g.layer js
      old = on_way.all js back.0 long

      alike : s.Alike (state_after s js) (state_after s old.visited.turns.items)
      alike = key_alike (state_after s js) (state_after s old.visited.turns.items) old.visited.key old.key
          (g.keys.keys old.configuration.state old.visited old.on)

      may : MayGo s g.bounds (point_at s old.visited.turns.items old.configuration) i
      may = subst (λ (b : Bounds). MayGo s b (point_at s old.visited.turns.items old.configuration) i)
          (ap (bounds_at scope) long ∙ sym bounds_are)
          (may_alike s laws scope.cuts (state_after s js) (state_after s old.visited.turns.items)
          (along s (start s) js).cost old.configuration.cost i alike (sym old.last) (sym old.cuts)
          (bounds_at scope (length js)) refl back.1)

      cuts_next : (a : ℕ) (other : Configuration) (cost : Cost)
          → cost ≡ cost_after s (state_after s old.visited.turns.items) old.configuration.cost a → a ≡ i
          → bounded_cuts g.bounds.cuts other.cost.cuts ≡ bounded_cuts g.bounds.cuts cost.cuts
          → bounded_cuts scope.cuts other.cost.cuts
          ≡ bounded_cuts scope.cuts (along s (start s) (js ++ i ∷ [])).cost.cuts
      cuts_next a other cost is same_actor e =
          subst (λ (b : Bounds). bounded_cuts b.cuts other.cost.cuts ≡ bounded_cuts b.cuts cost.cuts) bounds_are e
          ∙ (ap (λ (m : Cost). bounded_cuts scope.cuts m.cuts)
          (is ∙ ap (λ j. cost_after s (state_after s old.visited.turns.items) old.configuration.cost j) same_actor)
          ∙ (sym (cuts_after_alike s laws scope.cuts (state_after s js) (state_after s old.visited.turns.items)
          (along s (start s) js).cost old.configuration.cost i alike (sym old.last) (sym old.cuts))
          ∙ ap (λ (m : Cost). bounded_cuts scope.cuts m.cuts) (sym (cost_on s js i))))

      pub one_next : HasConfiguration s k memory (g.n + 1) scope after (js ++ i ∷ [])
      one_next =
          let list = list_at g.layer.states.items old.configuration.state old.visited old.on in
          let transitions = within_some g.transitions old.configuration.state
          (transitions_there old.at old.configuration old.there) in
          let at_within = slice_get_within g.layer.configurations.items old.at old.configuration old.there in
          let those = within_some choices old.at (subst (λ n. old.at < n) (sym are.many) at_within) in
          let chosen = are.each old.at old.configuration old.visited.turns.items transitions.0 those.0 old.there list
          transitions.1 those.1 in
          let choice = chosen.all i may in
          let own = chosen.each choice.0 choice.1.0 choice.1.1.0 in
          let row = within_some places old.configuration.state
          (subst (λ n. old.configuration.state < n) (sym (expanded.many ∙ whole))
          (state_within old.at old.configuration old.there)) in
          let to = expanded.leads old.configuration.state old.visited transitions.0 row.0 old.on transitions.1 row.1
          choice.1.0.at own.transition.0 own.transition.1.0 in
          let its = within_some all old.at (subst (λ n. old.at < n) (sym edges.many) at_within) in
          let by = edges.edges old.at old.configuration those.0 row.0 its.0 old.there those.1 row.1 its.1 in
          let edge = within_some its.0.items choice.0
          (subst (λ n. choice.0 < n) (sym by.many) (slice_get_within those.0.items choice.0 choice.1.0 choice.1.1.0)) in
          let there = (by.each choice.0 choice.1.0 to.0 edge.0 choice.1.1.0 to.1.1.0 edge.1).there in
          let actor : own.transition.0.actor ≡ i = own.transition.1.1 ∙ choice.1.1.1 in
          let up : suc g.n ≡ g.n + 1 = omega arith in
          let key : k.IsKey memory (suc g.n) (s.turn (state_after s js) i) to.1.0.key =
          subst (λ a. k.IsKey memory (suc g.n) (s.turn (state_after s js) a) to.1.0.key) actor
          (subst (λ n. (v : State) → k.IsKey g.before n v old.visited.key
          → k.IsKey memory (suc n) (s.turn v own.transition.0.actor) to.1.0.key)
          (g.keys.long old.configuration.state old.visited old.on) to.1.1.1.1 (state_after s js) old.key) in
          record {
            at = edge.0.to;
            configuration = there.other;
            there = there.there;
            visited = to.1.0;
            on = ap (λ (all_visited : List (Visited Key)). slice_get all_visited there.other.state) states_are
                ∙ (ap (slice_get next) there.on ∙ to.1.1.1.0);
            key = subst (λ n. k.IsKey memory n (state_after s (js ++ i ∷ [])) to.1.0.key) up
                (subst (λ (v : State). k.IsKey memory (suc g.n) v to.1.0.key)
                (sym (after_append s s.begin js (i ∷ []))) key);
            last = there.last ∙ (ap (λ (m : Cost). m.last) own.cost
                ∙ (ap Some choice.1.1.1 ∙ sym (ap (λ (m : Cost). m.last) (cost_on s js i))));
            cuts = cuts_next choice.1.0.actor there.other choice.1.0.cost own.cost choice.1.1.1 there.cuts;
          }

    pub all_on_way : AreAllOnWay s k memory scope (g.n + 1) after
    all_on_way = record {
      each = each_next;
      all = λ is on long.
          let back = last_of is g.n (omega (arith, long)) in
          subst (λ (xs : List ℕ). HasConfiguration s k memory (g.n + 1) scope after xs) (sym back.1.1.0)
          (one_next back.0 back.1.0 (subst (λ (xs : List ℕ). IsOnWay s scope xs) back.1.1.0 on) back.1.1.1);
    }
