-- The transitions from a layer, and who may have the next turn from its configurations.
use Rattle.std.specs.Prelude.{◌≡◌, ◌<◌, ◌≤◌, ◌+◌, ◌⊎◌, ◌++◌, ℕ, zero, suc, List, [], ◌∷◌, length, true, Some, slice_get, slice_set, refl}
use Rattle.smallvec.specs.SmallVec.{SmallVec}
use Rattle.std.proofs.Common.{inl, inr, ⊎_elim, sym, ap, ◌∙◌, subst, arith}
use Rattle.std.proofs.lemmas.Option.{same_Some, none-some}
use Rattle.layered_search.specs.declared.limits.Bounds.{Bounds}
use Rattle.layered_search.specs.declared.frontier.layer.Configuration.{Configuration}
use Rattle.layered_search.specs.declared.frontier.transitions.Transition.{Transition}
use Rattle.layered_search.specs.declared.frontier.transitions.Choice.{Choice}
use Rattle.layered_search.specs.System.{System, IsSystem, state_after}
use Rattle.layered_search.specs.Layers.{LayerView, point_at}
use Rattle.layered_search.specs.Distinct.{Keeps}
use Rattle.layered_search.specs.Transitions.{IsOf, IsOneOf, IsChoice, IsChosen, AreChoices, AreFirstChoices, IsTransitionFrom, AreTransitions}
use Rattle.layered_search.specs.Points.{Point, MayGo}
use Rattle.layered_search.proofs.Places.{at_or_below, get_push, get_last, get_set, length_set}
use Rattle.layered_search.proofs.Layers.EdgesGrown.{keeps_push}

-- ---- the transition of an actor

pub of_on : (transitions new : List Transition) (i at : ℕ) → Keeps transitions new → IsOf transitions i at
    → IsOf new i at
of_on transitions new i at keeps is = (is.0, (keeps at is.0 is.1.0, is.1.1))

set_there : {A : Type 0} (xs : List A) (i : ℕ) (x y : A) → slice_get xs i ≡ Some y
    → slice_get (slice_set xs i x) i ≡ Some x
set_there [] i x y e = absurd (none-some y e)
set_there (z ∷ zs) zero x y e = refl
set_there (z ∷ zs) (suc i) x y e = set_there zs i x y e

module _ {State : Type 0} (s : System State) where
  -- ---- one actor after another is asked

  -- those below n who may have the next turn there
  pub record AreChoicesBelow (bounds : Bounds) (p : Point State) (transitions : List Transition) (n : ℕ)
      (choices : List Choice) : Type 0 where
    pub all : (i : ℕ) → i < n → MayGo s bounds p i → IsChosen choices i
    pub each : (k : ℕ) (choice : Choice) → slice_get choices k ≡ Some choice → IsChoice s bounds p transitions choice
    pub below : (k : ℕ) (choice : Choice) → slice_get choices k ≡ Some choice → choice.actor < n
    pub apart : (k l : ℕ) (choice other : Choice) → slice_get choices k ≡ Some choice
        → slice_get choices l ≡ Some other → choice.actor ≡ other.actor → k ≡ l

  choice_on : (bounds : Bounds) (p : Point State) (transitions new : List Transition) (choice : Choice)
      → Keeps transitions new → IsChoice s bounds p transitions choice → IsChoice s bounds p new choice
  choice_on bounds p transitions new choice keeps is = record {
    may = is.may;
    cost = is.cost;
    transition = of_on transitions new choice.actor choice.at keeps is.transition;
  }

  module _ (bounds : Bounds) (p : Point State) where
    -- whom a configuration may have next, when its state's transitions have grown
    pub choices_on : (transitions new : List Transition) (choices : List Choice) → Keeps transitions new
        → AreChoices s bounds p transitions choices → AreChoices s bounds p new choices
    choices_on transitions new choices keeps are = record {
      all = are.all;
      each = λ k choice there. choice_on bounds p transitions new choice keeps (are.each k choice there);
      apart = are.apart;
    }

    module _ (transitions : List Transition) (n : ℕ) (choices : List Choice)
        (are : AreChoicesBelow bounds p transitions n choices) where
      less : (k : ℕ) (choice : Choice) → slice_get choices k ≡ Some choice → choice.actor < n + 1
      less k choice there = let lt : choice.actor < n = are.below k choice there in omega arith

      -- that actor may not have the next turn
      pub choices_other : (MayGo s bounds p n → ⊥) → AreChoicesBelow bounds p transitions (n + 1) choices
      choices_other not_so = record {
        all = λ i lt may. ⊎_elim (λ l. are.all i l may)
            (λ e. absurd (not_so (subst (λ j. MayGo s bounds p j) e may))) (at_or_below i n lt);
        each = are.each;
        below = less;
        apart = are.apart;
      }

      -- it may, and this is its choice
      module _ (new : List Transition) (keeps : Keeps transitions new) (choice : Choice)
          (is : IsChoice s bounds p new choice) (own : choice.actor ≡ n) where
        later : (i : ℕ) → IsChosen choices i → IsChosen (choices ++ choice ∷ []) i
        later i found =
            (found.0, (found.1.0, (keeps_push choices choice found.0 found.1.0 found.1.1.0, found.1.1.1)))

        clash : (k l : ℕ) (c d : Choice) → slice_get choices k ≡ Some c → d ≡ choice → c.actor ≡ d.actor → k ≡ l
        clash k l c d there e q =
            let lt : c.actor < n = are.below k c there in
            let same : c.actor ≡ n = q ∙ (ap (λ (x : Choice). x.actor) e ∙ own) in
            absurd (omega (arith, lt, same))

        pub choices_more : AreChoicesBelow bounds p new (n + 1) (choices ++ choice ∷ [])
        choices_more = record {
          all = λ i lt may. ⊎_elim (λ l. later i (are.all i l may))
              (λ e. (length choices, (choice, (get_last choices choice, own ∙ sym e)))) (at_or_below i n lt);
          each = λ k c there. ⊎_elim (λ was. choice_on bounds p transitions new c keeps (are.each k c was))
              (λ last. subst (λ (x : Choice). IsChoice s bounds p new x) (sym last.1) is)
              (get_push choices choice k c there);
          below = λ k c there. ⊎_elim (less k c)
              (λ last. let e : c.actor ≡ n = ap (λ (x : Choice). x.actor) last.1 ∙ own in omega (arith, e))
              (get_push choices choice k c there);
          apart = λ k l c d here there q.
              ⊎_elim
              (λ h. ⊎_elim (λ t. are.apart k l c d h t q) (λ t. clash k l c d h t.1 q)
              (get_push choices choice l d there))
              (λ h. ⊎_elim (λ t. sym (clash l k d c t h.1 (sym q))) (λ t. h.0 ∙ sym t.0)
              (get_push choices choice l d there))
              (get_push choices choice k c here);
        }

    -- all actors have been asked
    pub choices_all : IsSystem s → (is : List ℕ) → p.state ≡ state_after s is → (transitions : List Transition) (n : ℕ)
        (choices : List Choice) → s.actors ≤ n → AreChoicesBelow bounds p transitions n choices
        → AreChoices s bounds p transitions choices
    choices_all laws is at transitions n choices le are = record {
      all = λ i may.
          let lt : i < s.actors = laws.few is i (subst (λ (v : State). s.is_busy v i ≡ true) at may.busy) in
          are.all i (omega (arith, lt, le)) may;
      each = are.each;
      apart = are.apart;
    }

  -- a transition from a configuration is one that was there, or its own
  pub one_of : (bounds : Bounds) (configuration : ℕ) (p : Point State) (i : ℕ) (one : Transition) → MayGo s bounds p i
      → one ≡ record { configuration = configuration; actor = i } → IsOneOf s bounds configuration p one
  one_of bounds configuration p i one may is = record {
    from = ap (λ (x : Transition). x.configuration) is;
    may = subst (λ j. MayGo s bounds p j) (sym (ap (λ (x : Transition). x.actor) is)) may;
  }

  -- ---- one configuration after another

  module _ (bounds : Bounds) (layer : LayerView) (transitions new : List (SmallVec Transition)) (m : ℕ)
      (row grown : SmallVec Transition) (was : slice_get transitions m ≡ Some row)
      (set : new ≡ slice_set transitions m grown) (keeps : Keeps row.items grown.items) where
    each_row : (k : ℕ) (those : SmallVec Transition) → slice_get new k ≡ Some those
        → ((k ≡ m) × (those ≡ grown)) ⊎ (slice_get transitions k ≡ Some those)
    each_row k those there =
        ⊎_elim (λ h. inl h) (λ h. inr h.1)
        (get_set transitions m k grown those
        (ap (λ (xs : List (SmallVec Transition)). slice_get xs k) (sym set) ∙ there))

    module _ (t : ℕ) (configuration : Configuration) (is : List ℕ)
        (here : slice_get layer.configurations t ≡ Some configuration) (at : configuration.state ≡ m)
        (on : slice_get layer.lists configuration.state ≡ Some is)
        (own : (j : ℕ) (one : Transition) → slice_get grown.items j ≡ Some one
        → (slice_get row.items j ≡ Some one) ⊎ IsOneOf s bounds t (point_at s is configuration) one) where
      from_here : (one : Transition) → IsOneOf s bounds t (point_at s is configuration) one
          → IsTransitionFrom s bounds layer m one
      from_here one its = record {
        configuration = configuration;
        is = is;
        there = ap (slice_get layer.configurations) its.from ∙ here;
        same = at;
        on = ap (slice_get layer.lists) (sym at) ∙ on;
        may = its.may;
      }

      pub transitions_more : AreTransitions s bounds layer transitions → AreTransitions s bounds layer new
      transitions_more are = record {
        many = ap length set ∙ (length_set transitions m grown ∙ are.many);
        each = λ k those j one there there_in. ⊎_elim
            (λ h. subst (λ n. IsTransitionFrom s bounds layer n one) (sym h.0)
            (⊎_elim (are.each m row j one was) (from_here one)
            (own j one (ap (λ (v : SmallVec Transition). slice_get v.items j) (sym h.1) ∙ there_in))))
            (λ h. are.each k those j one h there_in)
            (each_row k those there);
      }

    -- the choices of the configurations before
    pub first_on : (all : List (SmallVec Choice)) → AreFirstChoices s bounds layer transitions all
        → AreFirstChoices s bounds layer new all
    first_on all are t configuration is those choices here on there chosen = ⊎_elim
        (λ h. choices_on bounds (point_at s is configuration) row.items those.items choices.items
        (subst (λ (v : SmallVec Transition). Keeps row.items v.items) (sym h.1) keeps)
        (are t configuration is row choices here on (ap (slice_get transitions) h.0 ∙ was) chosen))
        (λ h. are t configuration is those choices here on h chosen)
        (each_row configuration.state those there)

  pub first_more : (bounds : Bounds) (layer : LayerView) (transitions : List (SmallVec Transition))
      (all new : List (SmallVec Choice)) (choices : SmallVec Choice) (configuration : Configuration) (is : List ℕ)
      (those : SmallVec Transition) → new ≡ all ++ choices ∷ []
      → slice_get layer.configurations (length all) ≡ Some configuration
      → slice_get layer.lists configuration.state ≡ Some is → slice_get transitions configuration.state ≡ Some those
      → AreChoices s bounds (point_at s is configuration) those.items choices.items
      → AreFirstChoices s bounds layer transitions all → AreFirstChoices s bounds layer transitions new
  first_more bounds layer transitions all new choices configuration is those e here on there own are =
      λ t st l mvs cs st_here l_on mvs_there cs_there. ⊎_elim
      (are t st l mvs cs st_here l_on mvs_there)
      (λ last.
      let same : configuration ≡ st =
      same_Some configuration st (sym here ∙ (ap (slice_get layer.configurations) (sym last.0) ∙ st_here)) in
      let alive : is ≡ l =
      same_Some is l (sym on ∙ (ap (λ (x : Configuration). slice_get layer.lists x.state) same ∙ l_on)) in
      let row : those ≡ mvs =
      same_Some those mvs (sym there ∙ (ap (λ (x : Configuration). slice_get transitions x.state) same ∙ mvs_there)) in
      subst (λ (c : SmallVec Choice). AreChoices s bounds (point_at s l st) mvs.items c.items) (sym last.1)
      (subst (λ (x : Configuration). AreChoices s bounds (point_at s l x) mvs.items choices.items) same
      (subst (λ (x : List ℕ). AreChoices s bounds (point_at s x configuration) mvs.items choices.items) alive
      (subst (λ (x : SmallVec Transition). AreChoices s bounds (point_at s is configuration) x.items choices.items)
      row own))))
      (get_push all choices t cs (ap (λ (xs : List (SmallVec Choice)). slice_get xs t) (sym e) ∙ cs_there))

  -- ---- one configuration of the layer, and its state

  module _ (bounds : Bounds) (layer : LayerView) (transitions : List (SmallVec Transition)) (t : ℕ)
      (configuration : Configuration) (is : List ℕ) (row grown : SmallVec Transition)
      (here : slice_get layer.configurations t ≡ Some configuration)
      (on : slice_get layer.lists configuration.state ≡ Some is)
      (was : slice_get transitions configuration.state ≡ Some row)
      (keeps : Keeps row.items grown.items)
      (own : (j : ℕ) (one : Transition) → slice_get grown.items j ≡ Some one
      → (slice_get row.items j ≡ Some one) ⊎ IsOneOf s bounds t (point_at s is configuration) one) where
    pub transitions_grown : AreTransitions s bounds layer transitions
        → AreTransitions s bounds layer (slice_set transitions configuration.state grown)
    transitions_grown are =
        transitions_more bounds layer transitions (slice_set transitions configuration.state grown)
        configuration.state row grown was refl keeps t configuration is here refl on own are

    pub choices_grown : (all new : List (SmallVec Choice)) (choices : SmallVec Choice) → length all ≡ t
        → new ≡ all ++ choices ∷ [] → AreChoices s bounds (point_at s is configuration) grown.items choices.items
        → AreFirstChoices s bounds layer transitions all
        → AreFirstChoices s bounds layer (slice_set transitions configuration.state grown) new
    choices_grown all new choices long e are before =
        first_more bounds layer (slice_set transitions configuration.state grown) all new choices configuration is
        grown e (ap (slice_get layer.configurations) long ∙ here) on
        (set_there transitions configuration.state grown row was) are
        (first_on bounds layer transitions (slice_set transitions configuration.state grown) configuration.state row
        grown was refl keeps all before)
