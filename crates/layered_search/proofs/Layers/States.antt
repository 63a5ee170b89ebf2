-- How many states there are, from layer to layer.
use Rattle.layered_search.specs.Limits.{ScopeView}
use Rattle.std.specs.Prelude.{◌≡◌, ◌<◌, ◌≤◌, ◌+◌, ◌⊎◌, ℕ, zero, suc, List, [], ◌∷◌, ◌++◌, length, Option, Some, slice_get, refl}
use Rattle.smallvec.specs.SmallVec.{SmallVec}
use Rattle.std.proofs.Common.{inl, inr, ⊎_elim, sym, ap, ◌∙◌, subst, arith, length-append}
use Rattle.std.proofs.lemmas.Option.{same_Some, none-some, slice_get_within}
use Rattle.schedule_graph.specs.declared.graph.Edge.{Edge}
use Rattle.layered_search.specs.declared.frontier.layer.Layer.{Layer}
use Rattle.layered_search.specs.declared.frontier.layer.Visited.{Visited}
use Rattle.layered_search.specs.declared.frontier.layer.Configuration.{Configuration}
use Rattle.layered_search.specs.declared.cost.Cost.{Cost}
use Rattle.layered_search.specs.declared.frontier.transitions.Choice.{Choice}
use Rattle.layered_search.specs.System.{System, IsSystem, Keys, AreKeys, CountStates, state_after}
use Rattle.layered_search.specs.Asked.{bounds_at, IsOnWay, HaveOneState, AreApartStates, HasItsState, AreStates, HasMoreStates, IsTooLong}
use Rattle.layered_search.specs.Kept.{lists_of, layer_of, HaveKeys, IsFirstOf}
use Rattle.layered_search.specs.Layers.{AreOn}
use Rattle.layered_search.specs.Merged.{bounded_cuts}
use Rattle.layered_search.specs.Transitions.{AreAllChoices}
use Rattle.layered_search.specs.Points.{no_cost}
use Rattle.layered_search.specs.Spreading.{AreEdgesOfAll}
use Rattle.layered_search.specs.States.{AreStatesAmong, IsSoFar, HasConfiguration, AreAllOnWay, AreStatesUpTo, IsCounted}
use Rattle.layered_search.specs.Expanded.{Expansion, AreExpanded}
use Rattle.layered_search.proofs.Places.{at_or_below, get_first}
use Rattle.layered_search.proofs.Layers.Kept.{visited_at, list_at, lists_many}
use Rattle.layered_search.proofs.Layers.OnWay.{on_way_of, on_way_front, born_on_way, all_on_way}
use Rattle.layered_search.proofs.Layers.SoFar.{none_so_far, list_few, only}

-- ---- two lists, one after the other

get_second : {A : Type 0} (xs ys : List A) (k : ℕ) (x : A) → slice_get ys k ≡ Some x
    → slice_get (xs ++ ys) (length xs + k) ≡ Some x
get_second [] ys k x e = ap (slice_get ys) (omega arith) ∙ e
get_second (z ∷ zs) ys k x e =
    ap (slice_get (z ∷ (zs ++ ys))) (let up : suc (length zs) + k ≡ suc (length zs + k) = omega arith in up)
    ∙ get_second zs ys k x e

get_either : {A : Type 0} (xs ys : List A) (k : ℕ) (x : A) → slice_get (xs ++ ys) k ≡ Some x
    → (slice_get xs k ≡ Some x) ⊎ ((j : ℕ) × ((k ≡ length xs + j) × (slice_get ys j ≡ Some x)))
get_either [] ys k x e = inr (k, (omega arith, e))
get_either (z ∷ zs) ys zero x e = inl e
get_either (z ∷ zs) ys (suc k) x e = ⊎_elim (λ h. inl h)
    (λ h. let is = h.1.0 in inr (h.0, (omega (arith, is), h.1.1))) (get_either zs ys k x e)

-- ---- the states of one layer more

-- states that lists of n + 1 turns lead to, by their keys
module _ {State Memory Key : Type 0} (s : System State) (k : Keys State Memory Key) (memory : Memory)
    (counts : CountStates s k memory) (scope : ScopeView) (n m states found : ℕ) (all_visited : List (Visited Key))
    (keys : HaveKeys s k memory (n + 1) all_visited)
    (on_way : (j : ℕ) (visited : Visited Key) → slice_get all_visited j ≡ Some visited
    → IsOnWay s scope visited.turns.items)
    (among : AreStatesAmong s k all_visited m states) (so_far : AreStatesUpTo s scope n found) where
  abbrev lists : List (List ℕ)
  lists = so_far.lists ++ lists_of among.chosen

  one_at : (j : ℕ) (is : List ℕ) → slice_get (lists_of among.chosen) j ≡ Some is
      → (l : ℕ) × ((visited : Visited Key) × ((slice_get among.chosen j ≡ Some visited)
      × ((slice_get all_visited l ≡ Some visited) × (visited.turns.items ≡ is))))
  one_at j is e =
      let own = visited_at among.chosen j is e in
      let from = among.from j own.0 own.1.0 in
      (from.0, (own.0, (own.1.0, (from.1.1, sym own.1.1))))

  long_at : (j : ℕ) (is : List ℕ) → slice_get (lists_of among.chosen) j ≡ Some is → length is ≡ n + 1
  long_at j is e = let own = one_at j is e in ap length (sym own.1.1.1.1) ∙ keys.long own.0 own.1.0 own.1.1.1.0

  each_on_way : (j : ℕ) (is : List ℕ) → slice_get lists j ≡ Some is → IsOnWay s scope is
  each_on_way j is e = ⊎_elim (λ was. so_far.apart.each j is was)
      (λ h. let own = one_at h.0 is h.1.1 in
      subst (λ (xs : List ℕ). IsOnWay s scope xs) own.1.1.1.1 (on_way own.0 own.1.0 own.1.1.1.0))
      (get_either so_far.lists (lists_of among.chosen) j is e)

  apart_new : (i j : ℕ) (is js : List ℕ) → slice_get (lists_of among.chosen) i ≡ Some is
      → slice_get (lists_of among.chosen) j ≡ Some js → HaveOneState s is js → i ≡ j
  apart_new i j is js e q same =
      let one = one_at i is e in
      let two = one_at j js q in
      let as_one : s.CountAsOne (state_after s one.1.0.turns.items) (state_after s two.1.0.turns.items) =
      subst (λ (xs : List ℕ). s.CountAsOne (state_after s xs) (state_after s two.1.0.turns.items)) (sym one.1.1.1.1)
      (subst (λ (xs : List ℕ). s.CountAsOne (state_after s is) (state_after s xs)) (sym two.1.1.1.1) same.1) in
      among.apart i j one.1.0 two.1.0 one.1.1.0 two.1.1.0
      ((counts (n + 1) (state_after s one.1.0.turns.items) (state_after s two.1.0.turns.items) one.1.0.key two.1.0.key
      (keys.keys one.0 one.1.0 one.1.1.1.0) (keys.keys two.0 two.1.0 two.1.1.1.0)).1 as_one)

  -- a list of up to n turns, and one of n + 1
  unlike : (l j : ℕ) (is js : List ℕ) → slice_get so_far.lists l ≡ Some is
      → slice_get (lists_of among.chosen) j ≡ Some js → length is ≡ length js → ⊥
  unlike l j is js e q same =
      let few = so_far.short l is e in
      let many = long_at j js q in
      omega (arith, few, many, same)

  apart : (i l : ℕ) (is js : List ℕ) → slice_get lists i ≡ Some is → slice_get lists l ≡ Some js
      → HaveOneState s is js → i ≡ l
  apart i l is js e q same = ⊎_elim
      (λ was. ⊎_elim (λ its. so_far.apart.apart i l is js was its same)
      (λ new. absurd (unlike i new.0 is js was new.1.1 same.0))
      (get_either so_far.lists (lists_of among.chosen) l js q))
      (λ new. ⊎_elim (λ its. absurd (unlike l new.0 js is its new.1.1 (sym same.0)))
      (λ too. new.1.0 ∙ (ap (λ j. length so_far.lists + j) (apart_new new.0 too.0 is js new.1.1 too.1.1 same)
      ∙ sym too.1.0)) (get_either so_far.lists (lists_of among.chosen) l js q))
      (get_either so_far.lists (lists_of among.chosen) i is e)

  are_apart : AreApartStates s scope lists
  are_apart = record { each = each_on_way; apart = apart }

  many_lists : length lists ≡ found + states
  many_lists =
      let sum = length-append so_far.lists (lists_of among.chosen) in
      let mapped = lists_many among.chosen in
      let old = so_far.many in
      let new = among.many in
      omega (arith, sum, mapped, old, new)

  -- with those found so far they are more than so many
  pub more_states : (limit : ℕ) → limit < found + states → HasMoreStates s scope limit
  more_states limit more =
      record { lists = lists; more = subst (λ x. limit < x) (sym many_lists) more; apart = are_apart }

  module _ (whole : m ≡ length all_visited) (layer : Layer Key) (states_are : layer.states.items ≡ all_visited)
      (all : AreAllOnWay s k memory scope (n + 1) layer) where
    its_state : (is : List ℕ) → IsOnWay s scope is → length is ≡ n + 1 → HasItsState s lists is
    its_state is on e =
        let has : HasConfiguration s k memory (n + 1) scope layer is = all.all is on e in
        let there : slice_get all_visited has.configuration.state ≡ Some has.visited =
        ap (λ (xs : List (Visited Key)). slice_get xs has.configuration.state) (sym states_are) ∙ has.on in
        let lt : has.configuration.state < m = subst (λ x. has.configuration.state < x) (sym whole)
        (slice_get_within all_visited has.configuration.state has.visited there) in
        let one = among.all has.configuration.state has.visited lt there in
        let from = among.from one.0 one.1.0 one.1.1.0 in
        let its : List ℕ = one.1.0.turns.items in
        let same = (counts (n + 1) (state_after s is) (state_after s its) has.visited.key one.1.0.key has.key
        (keys.keys from.0 one.1.0 from.1.1)).0 one.1.1.1 in (
          length so_far.lists + one.0,
          (
            its,
            (
              get_second so_far.lists (lists_of among.chosen) one.0 its (list_at among.chosen one.0 one.1.0 one.1.1.0),
              (e ∙ sym (keys.long from.0 one.1.0 from.1.1), same),
            ),
          ),
        )

    pub next_states : AreStatesUpTo s scope (n + 1) (found + states)
    next_states = record {
      lists = lists;
      many = many_lists;
      short = λ j is e. ⊎_elim (λ was. let few = so_far.short j is was in omega (arith, few))
          (λ h. let long = long_at h.0 is h.1.1 in omega (arith, long))
          (get_either so_far.lists (lists_of among.chosen) j is e);
      apart = are_apart;
      all = λ is on le. ⊎_elim
          (λ lt. let was = so_far.all is on (omega (arith, lt)) in
          (was.0, (was.1.0, (get_first so_far.lists (lists_of among.chosen) was.0 was.1.0 was.1.1.0, was.1.1.1))))
          (λ e. its_state is on e) (at_or_below (length is) (n + 1) (omega (arith, le)));
    }

-- ---- the first layer, and the last

only_none : (j : ℕ) (is : List ℕ) → slice_get ([] ∷ []) j ≡ Some is → (j ≡ 0) × (is ≡ [])
only_none zero is e = (refl, sym (same_Some [] is e))
only_none (suc j) is e = absurd (none-some is e)

no_turns : (is : List ℕ) → length is ≤ 0 → is ≡ []
no_turns [] le = refl
no_turns (i ∷ is) le = absurd (omega (arith, le))

le_or_more : (m n : ℕ) → (m ≤ n) ⊎ ((d : ℕ) × (m ≡ n + d))
le_or_more zero n = inl (omega arith)
le_or_more (suc m) zero = inr (suc m, omega arith)
le_or_more (suc m) (suc n) = ⊎_elim (λ le. inl (omega (arith, le)))
    (λ more. let is = more.1 in inr (more.0, omega (arith, is))) (le_or_more m n)

module _ {State : Type 0} (s : System State) (scope : ScopeView) where
  none_on_way : IsOnWay s scope []
  none_on_way = on_way_of s scope [] no_cost (none_so_far s scope)

  one_state : AreApartStates s scope ([] ∷ [])
  one_state = record {
    each = λ j is e. subst (λ (xs : List ℕ). IsOnWay s scope xs) (sym (only_none j is e).1) none_on_way;
    apart = λ j l is js e q same. (only_none j is e).0 ∙ sym (only_none l js q).0;
  }

  -- the empty list is always there
  pub some_state : HasMoreStates s scope 0
  some_state = record { lists = [] ∷ []; more = omega arith; apart = one_state }

  module _ {Memory Key : Type 0} (k : Keys State Memory Key) (memory : Memory) where
    module _ (are_keys : AreKeys s k) (counts : CountStates s k memory) (key : Key)
        (is_key : k.IsKey memory 0 s.begin key) where
      first_states : AreStatesUpTo s scope 0 1
      first_states = record {
        lists = [] ∷ [];
        many = refl;
        short = λ j is e. let none = ap length (only_none j is e).1 in omega (arith, none);
        apart = one_state;
        all = λ is on le.
            let none = no_turns is le in
            let same : s.CountAsOne (state_after s is) s.begin =
            subst (λ (xs : List ℕ). s.CountAsOne (state_after s xs) s.begin) (sym none) itself in
            (0, ([], (refl, (ap length none, same))));
      }
        where
          itself : s.CountAsOne s.begin s.begin
          itself = (counts 0 s.begin s.begin key key is_key is_key).0 (are_keys.one_itself key)

      -- the only configuration of the first layer is that of the empty list
      first_on_way : (layer : Layer Key) → IsFirstOf key layer → AreAllOnWay s k memory scope 0 layer
      first_on_way layer first = record {
        each = λ t x e.
            let same : first.configuration ≡ x =
            only first.configuration x layer.configurations.items t first.configurations e in
            subst (λ (y : Configuration). IsSoFar s scope y.turns.items y.cost) same
            (subst (λ (is : List ℕ). IsSoFar s scope is first.configuration.cost) (sym first.none)
            (subst (λ (m : Cost). IsSoFar s scope [] m) (sym first.cost) (none_so_far s scope)));
        all = λ is on_way long.
            let none = no_turns is (omega (arith, long)) in
            subst (λ (xs : List ℕ). HasConfiguration s k memory 0 scope layer xs) (sym none) (record {
              at = 0;
              configuration = first.configuration;
              there = ap (λ (xs : List Configuration). slice_get xs 0) first.configurations;
              visited = first.visited;
              on = ap (slice_get layer.states.items) first.on
                  ∙ ap (λ (xs : List (Visited Key)). slice_get xs 0) first.states;
              key = subst (λ (x : Key). k.IsKey memory 0 s.begin x) (sym first.key_is) is_key;
              last = ap (λ (m : Cost). m.last) first.cost;
              cuts = ap (λ (m : Cost). bounded_cuts scope.cuts m.cuts) first.cost;
            });
      }

      pub first_counted : (layer : Layer Key) → IsFirstOf key layer → IsCounted s k memory scope 0 1 layer
      first_counted layer first = record { on_way = first_on_way layer first; found = first_states }

    -- a configuration that is left after so many layers has a list of too many turns
    pub left_long : (n states turns : ℕ) (layer : Layer Key) (configuration : Configuration)
        → slice_get layer.configurations.items 0 ≡ Some configuration → AreOn n (layer_of layer)
        → IsCounted s k memory scope n states layer → turns < n → (is : List ℕ) × IsTooLong s scope turns is
    left_long n states turns layer configuration there on counted more =
        let so = counted.on_way.each 0 configuration there in (
          configuration.turns.items,
          (
            record {
              busy = so.busy;
              few_cuts = list_few s scope configuration.turns.items configuration.cost so;
              begins = so.along_it;
            },
            subst (λ m. turns < m) (sym (on 0 configuration there).long) more,
          ),
        )

    -- where the last layer has no configuration no list is longer
    pub all_states : (n states : ℕ) (layer : Layer Key) → layer.configurations.items ≡ []
        → IsCounted s k memory scope n states layer → AreStates s scope states
    all_states n states layer nobody counted = record {
      lists = so_far.lists;
      many = so_far.many;
      apart = so_far.apart;
      all = λ is on. by is on (le_or_more (length is) n);
    }
      where
        so_far : AreStatesUpTo s scope n states
        so_far = counted.found

        by : (is : List ℕ) → IsOnWay s scope is → (length is ≤ n) ⊎ ((d : ℕ) × (length is ≡ n + d))
            → HasItsState s so_far.lists is
        by is on (inl le) = so_far.all is on le
        by is on (inr more) =
            let front = on_way_front s scope n more.0 is more.1 on in
            let has : HasConfiguration s k memory n scope layer front.0 =
            counted.on_way.all front.0 front.1.0 front.1.1 in
            absurd (none-some has.configuration
            (ap (λ (xs : List Configuration). slice_get xs has.at) (sym nobody) ∙ has.there))

-- ---- a layer that is gone on from

module _ {State Memory Key : Type 0} (s : System State) (k : Keys State Memory Key) (laws : IsSystem s)
    (are_keys : AreKeys s k) (g : Expansion s k) (scope : ScopeView) (memory : Memory) (next : List (Visited Key))
    (end_classes : List (Option ℕ)) (places : List (SmallVec ℕ)) (classes : List (List ℕ))
    (expanded : AreExpanded s k g memory next end_classes places classes) (bounds_are : g.bounds ≡ bounds_at scope g.n)
    (states found : ℕ) (counted : IsCounted s k g.before scope g.n found g.layer) (counts : CountStates s k memory)
    (among : AreStatesAmong s k next (length next) states) where
  next_keys : HaveKeys s k memory (g.n + 1) next
  next_keys = subst (λ x. HaveKeys s k memory x next) (let up : suc g.n ≡ g.n + 1 = omega arith in up) expanded.keys

  next_on_way : (j : ℕ) (visited : Visited Key) → slice_get next j ≡ Some visited → IsOnWay s scope visited.turns.items
  next_on_way =
      born_on_way s k laws are_keys g scope memory next end_classes places classes expanded bounds_are counted.on_way

  -- with those of its states that were met there are more states than so many
  pub expanded_more_states : (limit : ℕ) → limit < found + states → HasMoreStates s scope limit
  expanded_more_states limit more =
      more_states s k memory counts scope g.n (length next) states found next next_keys next_on_way among counted.found
      limit more

  -- and once all were met the next layer's are counted
  pub expanded_counted : (choices : List (SmallVec Choice))
      → AreAllChoices s g.bounds (layer_of g.layer) g.transitions choices
      → (all : List (SmallVec Edge)) (after : Layer Key)
      → after.states.items ≡ next → length end_classes ≡ length g.layer.states.items
      → AreEdgesOfAll g.bounds g.layer.configurations.items choices places after.configurations.items all
      → IsCounted s k memory scope (g.n + 1) (found + states) after
  expanded_counted choices are all after states_are whole edges = record { on_way = on_way; found = found_next }
    where
      on_way : AreAllOnWay s k memory scope (g.n + 1) after
      on_way = all_on_way s k laws are_keys g scope memory next end_classes places classes expanded bounds_are
          counted.on_way choices are all after states_are whole edges

      found_next : AreStatesUpTo s scope (g.n + 1) (found + states)
      found_next = next_states s k memory counts scope g.n (length next) states found next next_keys next_on_way among
          counted.found refl after states_are on_way
