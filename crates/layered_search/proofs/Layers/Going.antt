-- A layer gone on from by keys: one transition after another, and one state after another.
use Rattle.std.specs.Prelude.{◌≡◌, ◌<◌, ◌+◌, ◌⊎◌, ◌++◌, ◌^◌, ℕ, suc, List, [], ◌∷◌, length, Option, Some, None, slice_get, refl}
use Rattle.smallvec.specs.SmallVec.{SmallVec}
use Rattle.std.proofs.Common.{inl, inr, ⊎_elim, sym, ap, ◌∙◌, subst, arith, length-append, get_or}
use Rattle.std.proofs.lemmas.List.{length-map}
use Rattle.std.proofs.lemmas.Option.{same_Some, slice_get_read, slice_get_within}
use Rattle.layered_search.specs.declared.frontier.layer.Layer.{Layer}
use Rattle.layered_search.specs.declared.frontier.layer.Visited.{Visited}
use Rattle.layered_search.specs.declared.frontier.layer.Configuration.{Configuration}
use Rattle.layered_search.specs.declared.frontier.transitions.Transition.{Transition}
use Rattle.layered_search.specs.System.{System, IsSystem, Keys, AreKeys, Follows, state_after}
use Rattle.layered_search.specs.Kept.{layer_of}
use Rattle.layered_search.specs.Lists.{IsOver}
use Rattle.layered_search.specs.Layers.{IsEndClass, AreApartClasses}
use Rattle.layered_search.specs.Distinct.{Keeps}
use Rattle.layered_search.specs.Marked.{IsSameAt, IsPut}
use Rattle.layered_search.specs.Transitions.{IsTransitionFrom}
use Rattle.layered_search.specs.Expanded.{CanGoOn, AreThere, IsAfterTurn, IsTaken, IsAfterOneOf, LeadTo, AreTaken, IsEndClassBy, Expansion, IsExpansion, IsNext, IsAfterTransition, AreExpanded}
use Rattle.layered_search.proofs.Places.{get_push, get_last, mapped_to}
use Rattle.layered_search.proofs.Lists.Along.{after_append}
use Rattle.layered_search.proofs.Layers.EdgesGrown.{keeps_on, keeps_push}

module _ {State Memory Key : Type 0} (s : System State) (k : Keys State Memory Key) (laws : AreKeys s k) where
  -- ---- where a turn leads, with more that is known

  module _ (before old c d : Memory) (first : k.Grows before old) (then : k.Grows c d) where
    pub follows_on : (n : ℕ) (key next : Key) (i : ℕ) → Follows s k old c n key i next
        → Follows s k before d n key i next
    follows_on n key next i follows v is =
        laws.stays c d (suc n) (s.turn v i) next then (follows v (laws.stays before old n v key first is))

    pub after_on : (visited : Visited Key) (configuration : Configuration) (i : ℕ) (one : Visited Key)
        → IsAfterTurn s k old c visited configuration i one → IsAfterTurn s k before d visited configuration i one
    after_on visited configuration i one is = record {
      turns = is.turns;
      follows = follows_on (length visited.turns.items) visited.key one.key i is.follows;
    }

  -- ---- one transition

  -- the key after the turn was put among the next layer's states
  module _ (visited : Visited Key) (configuration : Configuration) (actor : ℕ) (memory new : Memory)
      (old next : List (Visited Key)) (at : ℕ) (key : Key)
      (follows : Follows s k memory new (length visited.turns.items) visited.key actor key)
      (put : (m : ℕ) (one : Visited Key) → slice_get next m ≡ Some one
      → (slice_get old m ≡ Some one) ⊎ IsPut key (configuration.turns.items ++ actor ∷ []) one) where
    its_own : (one : Visited Key) → IsPut key (configuration.turns.items ++ actor ∷ []) one
        → IsAfterTurn s k memory new visited configuration actor one
    its_own one is = record {
      turns = is.turns_are;
      follows =
          subst (λ (x : Key). Follows s k memory new (length visited.turns.items) visited.key actor x) (sym is.key_is)
          follows;
    }

    pub is_taken : k.IsSound new → k.Grows memory new → Keeps old next → IsSameAt k key next at
        → IsTaken s k visited configuration actor memory new old next at
    is_taken sound grows keeps found = record {
      sound = sound;
      grows = grows;
      keeps = keeps;
      to = found.0;
      there = found.1.0;
      follows = λ v is.
          laws.same_key new (suc (length visited.turns.items)) (s.turn v actor) key found.0.key (follows v is)
          found.1.1;
      successor = λ m one there. ⊎_elim (λ was. inl was) (λ is. inr (its_own one is)) (put m one there);
    }

  -- and the state may be gone on from still
  pub can_still : (visited : Visited Key) (memory new : Memory) → k.IsSound new → k.Grows memory new
      → CanGoOn s k memory visited → CanGoOn s k new visited
  can_still visited memory new sound grows can = record {
    sound = sound;
    here =
        laws.stays memory new (length visited.turns.items) (state_after s visited.turns.items) visited.key grows
        can.here;
    short = can.short;
  }

  -- ---- one transition after another

  pub taken_none : (configurations : List Configuration) (visited : Visited Key) (memory : Memory)
      (old : List (Visited Key)) → k.IsSound memory → AreTaken s k configurations visited [] memory memory old old []
  taken_none configurations visited memory old sound = record {
    sound = sound;
    grows = laws.grows_itself memory;
    keeps = λ m x e. e;
    many = omega arith;
    leads = λ j one there. absurd (let lt = slice_get_within [] j one there in omega (arith, lt));
    successor = λ m one there. inl there;
  }

  module _ (configurations : List Configuration) (visited : Visited Key) (memory mid new : Memory)
      (old between next : List (Visited Key)) (transitions : List Transition) (places : List ℕ)
      (one : Transition) (configuration : Configuration) (at : ℕ)
      (are : AreTaken s k configurations visited transitions memory mid old between places)
      (is : IsTaken s k visited configuration one.actor mid new between next at)
      (there : slice_get configurations one.configuration ≡ Some configuration) where
    abbrev long : ℕ
    long = length visited.turns.items

    leads_there : LeadTo s k memory new next visited (transitions ++ one ∷ []) (places ++ at ∷ [])
    leads_there j m here = ⊎_elim
        (λ was. let before = are.leads j m was in (
          before.0,
          (
            before.1.0,
            (
              keeps_push places at j before.0 before.1.1.0,
              (
                is.keeps before.0 before.1.0 before.1.1.1.0,
                follows_on memory memory mid new (laws.grows_itself memory) is.grows long visited.key before.1.0.key
                    m.actor before.1.1.1.1,
              ),
            ),
          ),
        ))
        (λ last.
        let own : Follows s k memory new long visited.key one.actor is.to.key =
        follows_on memory mid new new are.grows (laws.grows_itself new) long visited.key is.to.key one.actor is.follows
        in (
          at,
          (
            is.to,
            (
              ap (slice_get (places ++ at ∷ [])) (last.0 ∙ sym are.many) ∙ get_last places at,
              (
                is.there,
                subst (λ (x : Transition). Follows s k memory new long visited.key x.actor is.to.key) (sym last.1) own,
              ),
            ),
          ),
        ))
        (get_push transitions one j m here)

    successor_there : (m : ℕ) (x : Visited Key) → slice_get next m ≡ Some x
        → (slice_get old m ≡ Some x)
        ⊎ IsAfterOneOf s k memory new configurations visited (transitions ++ one ∷ []) x
    successor_there m x here = ⊎_elim
        (λ was. ⊎_elim (λ older. inl older)
        (λ of. inr (record {
          j = of.j;
          transition = of.transition;
          is = keeps_push transitions one of.j of.transition of.is;
          configuration = of.configuration;
          there = of.there;
          after =
              after_on memory memory mid new (laws.grows_itself memory) is.grows visited of.configuration
              of.transition.actor x of.after;
        }))
        (are.successor m x was))
        (λ own. inr (record {
          j = length transitions;
          transition = one;
          is = get_last transitions one;
          configuration = configuration;
          there = there;
          after = after_on memory mid new new are.grows (laws.grows_itself new) visited configuration one.actor x own;
        }))
        (is.successor m x here)

    taken_one : AreTaken s k configurations visited (transitions ++ one ∷ []) memory new old next (places ++ at ∷ [])
    taken_one = record {
      sound = is.sound;
      grows = laws.grows_on memory mid new are.grows is.grows;
      keeps = keeps_on old between next are.keeps is.keeps;
      many =
          let a = length-append places (at ∷ []) in
          let b = length-append transitions (one ∷ []) in
          let e = are.many in
          omega (arith, a, b, e);
      leads = leads_there;
      successor = successor_there;
    }

    pub taken_more : (all : List Transition) (more : List ℕ) → all ≡ transitions ++ one ∷ [] → more ≡ places ++ at ∷ []
        → AreTaken s k configurations visited all memory new old next more
    taken_more all more all_are more_are =
        subst (λ (ms : List Transition). AreTaken s k configurations visited ms memory new old next more) (sym all_are)
        (subst (λ (ps : List ℕ). AreTaken s k configurations visited (transitions ++ one ∷ []) memory new old next ps)
        (sym more_are) taken_one)

  -- ---- what may be gone on from

  module _ (g : Expansion s k) (m : ℕ) (visited : Visited Key)
      (here : slice_get g.layer.states.items m ≡ Some visited) where
    pub can_go_on : (memory : Memory) (next : List (Visited Key)) (end_classes : List (Option ℕ))
        (places : List (SmallVec ℕ)) (classes : List (List ℕ))
        → AreExpanded s k g memory next end_classes places classes
        → CanGoOn s k memory visited
    can_go_on memory next end_classes places classes expanded =
        let short : g.n + 1 < 2 ^ 40 = g.short in
        let long : length visited.turns.items ≡ g.n = g.keys.long m visited here in
        record {
          sound = expanded.sound;
          here =
              subst (λ (n : ℕ). k.IsKey memory n (state_after s visited.turns.items) visited.key) (sym long)
              (laws.stays g.before memory g.n (state_after s visited.turns.items) visited.key expanded.grows
              (g.keys.keys m visited here));
          short = omega (arith, short, long);
        }

    module _ (those : SmallVec Transition) (listed : slice_get g.transitions m ≡ Some those) (j : ℕ)
        (one : Transition) (is : slice_get those.items j ≡ Some one) where
      abbrev its_transition : IsTransitionFrom s g.bounds (layer_of g.layer) m one
      its_transition = g.listed.each m those j one listed is

      pub are_there : IsSystem s → (one.actor < s.actors) × (one.configuration < length g.layer.configurations.items)
      are_there system = (
        system.few its_transition.is one.actor its_transition.may.busy,
        slice_get_within g.layer.configurations.items one.configuration its_transition.configuration
            its_transition.there,
      )

      -- the list of the transition's configuration leads to a state of that key
      pub configurations_there : (configuration : Configuration)
          → slice_get g.layer.configurations.items one.configuration ≡ Some configuration
          → k.IsKey g.before g.n (state_after s configuration.turns.items) visited.key
          × (length configuration.turns.items ≡ g.n)
      configurations_there configuration there =
          let same : its_transition.configuration ≡ configuration =
          same_Some its_transition.configuration configuration (sym its_transition.there ∙ there) in
          let on : configuration.state ≡ m = ap (λ (x : Configuration). x.state) (sym same) ∙ its_transition.same in (
            g.configurations one.configuration configuration visited there
                (ap (slice_get g.layer.states.items) on ∙ here),
            (g.on one.configuration configuration there).long,
          )

  -- ---- one state after another

  end_class_on : (old new : List (List ℕ)) (is : List ℕ) (end_class : Option ℕ) → Keeps old new
      → IsEndClass s old is end_class → IsEndClass s new is end_class
  end_class_on old new is None keeps class = class
  end_class_on old new is (Some at) keeps class = record {
    over = class.over;
    found = class.found;
    there = keeps at class.found class.there;
    agrees = class.agrees;
  }

  -- one more
  module _ (g : Expansion s k) (memory new : Memory) (old next : List (Visited Key))
      (end_classes more_end_classes : List (Option ℕ)) (places more_places : List (SmallVec ℕ))
      (classes more : List (List ℕ)) (visited : Visited Key) (those : SmallVec Transition) (end_class : Option ℕ)
      (row : SmallVec ℕ) (expanded : AreExpanded s k g memory old end_classes places classes)
      (here : slice_get g.layer.states.items (length end_classes) ≡ Some visited)
      (listed : slice_get g.transitions (length end_classes) ≡ Some those)
      (ended : IsEndClassBy s classes more visited.turns.items end_class)
      (taken : AreTaken s k g.layer.configurations.items visited those.items memory new old next row.items)
      (end_classes_are : more_end_classes ≡ end_classes ++ end_class ∷ [])
      (places_are : more_places ≡ places ++ row ∷ []) where
    abbrev n : ℕ
    n = length end_classes

    -- so many turns led to the state
    so_many : length visited.turns.items ≡ g.n
    so_many = g.keys.long n visited here

    same_here : (m : ℕ) (one : Visited Key) → m ≡ n → slice_get g.layer.states.items m ≡ Some one → visited ≡ one
    same_here m one e there =
        same_Some visited one (sym here ∙ (ap (slice_get g.layer.states.items) (sym e) ∙ there))

    follows_before : (key : Key) (i : ℕ) → Follows s k memory new (length visited.turns.items) visited.key i key
        → Follows s k g.before new g.n visited.key i key
    follows_before key i follows =
        follows_on g.before memory new new expanded.grows (laws.grows_itself new) g.n visited.key key i
        (subst (λ (m : ℕ). Follows s k memory new m visited.key i key) so_many follows)

    -- a state that is new there, with its key
    module _ (one : Visited Key)
        (of : IsAfterOneOf s k memory new g.layer.configurations.items visited those.items one) where
      abbrev its_configuration : k.IsKey g.before g.n (state_after s of.configuration.turns.items) visited.key
          × (length of.configuration.turns.items ≡ g.n)
      its_configuration =
          configurations_there g n visited here those listed of.j of.transition of.is of.configuration of.there

      own_follows : Follows s k g.before new g.n visited.key of.transition.actor one.key
      own_follows = follows_before one.key of.transition.actor of.after.follows

      own_key : k.IsKey new (suc g.n) (state_after s one.turns.items) one.key
      own_key =
          subst (λ (turns : List ℕ). k.IsKey new (suc g.n) (state_after s turns) one.key) (sym of.after.turns)
          (subst (λ (v : State). k.IsKey new (suc g.n) v one.key)
          (sym (after_append s s.begin of.configuration.turns.items (of.transition.actor ∷ [])))
          (own_follows (state_after s of.configuration.turns.items) its_configuration.0))

      own_long : length one.turns.items ≡ suc g.n
      own_long =
          let up : g.n + 1 ≡ suc g.n = omega arith in
          ap length of.after.turns
          ∙ (length-append of.configuration.turns.items (of.transition.actor ∷ [])
          ∙ (ap (λ (m : ℕ). m + 1) its_configuration.1 ∙ up))

      own_successor : IsAfterTransition s k g new one
      own_successor = record {
        m = n;
        visited = visited;
        here = here;
        transitions = those;
        listed = listed;
        j = of.j;
        transition = of.transition;
        is = of.is;
        configuration = of.configuration;
        there = of.there;
        turns = of.after.turns;
        follows = own_follows;
      }

    successor_on : (one : Visited Key) → IsAfterTransition s k g memory one → IsAfterTransition s k g new one
    successor_on one is = record {
      m = is.m;
      visited = is.visited;
      here = is.here;
      transitions = is.transitions;
      listed = is.listed;
      j = is.j;
      transition = is.transition;
      is = is.is;
      configuration = is.configuration;
      there = is.there;
      turns = is.turns;
      follows =
          follows_on g.before g.before memory new (laws.grows_itself g.before) taken.grows g.n is.visited.key one.key
          is.transition.actor is.follows;
    }

    own_leads : LeadTo s k g.before new next visited those.items row.items
    own_leads j transition it = let own = taken.leads j transition it in (
      own.0,
      (
        own.1.0,
        (
          own.1.1.0,
          (
            own.1.1.1.0,
            subst (λ (m : ℕ). Follows s k g.before new m visited.key transition.actor own.1.0.key) (sym so_many)
                (follows_before own.1.0.key transition.actor own.1.1.1.1),
          ),
        ),
      ),
    )

    leads_more : (m : ℕ) (one : Visited Key) (transitions : SmallVec Transition) (at : SmallVec ℕ)
        → slice_get g.layer.states.items m ≡ Some one → slice_get g.transitions m ≡ Some transitions
        → slice_get more_places m ≡ Some at → LeadTo s k g.before new next one transitions.items at.items
    leads_more m one transitions at there is at_there = ⊎_elim
        (λ was. λ j transition it. let before = expanded.leads m one transitions at there is was j transition it in (
          before.0,
          (
            before.1.0,
            (
              before.1.1.0,
              (
                taken.keeps before.0 before.1.0 before.1.1.1.0,
                follows_on g.before g.before memory new (laws.grows_itself g.before) taken.grows
                    (length one.turns.items) one.key before.1.0.key transition.actor before.1.1.1.1,
              ),
            ),
          ),
        ))
        (λ last.
        let e : m ≡ n = last.0 ∙ expanded.many in
        let moved : those ≡ transitions =
        same_Some those transitions (sym listed ∙ (ap (slice_get g.transitions) (sym e) ∙ is)) in
        subst (λ (x : Visited Key). LeadTo s k g.before new next x transitions.items at.items) (same_here m one e there)
        (subst (λ (x : SmallVec Transition). LeadTo s k g.before new next visited x.items at.items) moved
        (subst (λ (x : SmallVec ℕ). LeadTo s k g.before new next visited those.items x.items) (sym last.1) own_leads)))
        (get_push places row m at (ap (λ (xs : List (SmallVec ℕ)). slice_get xs m) (sym places_are) ∙ at_there))

    end_classes_more : (m : ℕ) (one : Visited Key) (t : Option ℕ) → slice_get g.layer.states.items m ≡ Some one
        → slice_get more_end_classes m ≡ Some t → IsEndClass s more one.turns.items t
    end_classes_more m one t there t_there = ⊎_elim
        (λ was. end_class_on classes more one.turns.items t ended.keeps (expanded.are_end_classes m one t there was))
        (λ last.
        subst (λ (x : Visited Key). IsEndClass s more x.turns.items t) (same_here m one last.0 there)
        (subst (λ (o : Option ℕ). IsEndClass s more visited.turns.items o) (sym last.1) ended.class))
        (get_push end_classes end_class m t
        (ap (λ (xs : List (Option ℕ)). slice_get xs m) (sym end_classes_are) ∙ t_there))

    pub expanded_more : AreExpanded s k g new next more_end_classes more_places more
    expanded_more =
        let long_end_classes : length more_end_classes ≡ n + 1 =
        ap length end_classes_are ∙ length-append end_classes (end_class ∷ []) in
        let long_places : length more_places ≡ length places + 1 =
        ap length places_are ∙ length-append places (row ∷ []) in
        let many = expanded.many in
        let inside = slice_get_within g.layer.states.items n visited here in
        record {
          sound = taken.sound;
          grows = laws.grows_on g.before memory new expanded.grows taken.grows;
          many = omega (arith, long_end_classes, long_places, many);
          fits = omega (arith, long_end_classes, inside);
          are_end_classes = end_classes_more;
          leads = leads_more;
          keys = record {
            long = λ m one there. ⊎_elim (λ was. expanded.keys.long m one was) (λ of. own_long one of)
                (taken.successor m one there);
            keys = λ m one there. ⊎_elim
                (λ was. laws.stays memory new (suc g.n) (state_after s one.turns.items) one.key taken.grows
                (expanded.keys.keys m one was))
                (λ of. own_key one of) (taken.successor m one there);
          };
          successor = λ m one there. ⊎_elim (λ was. successor_on one (expanded.successor m one was))
              (λ of. own_successor one of) (taken.successor m one there);
          keeps = keeps_on g.found classes more expanded.keeps ended.keeps;
          are_found = λ m c there. ⊎_elim (λ was. expanded.are_found m c was)
              (λ is. inr (record {
                at = n;
                there =
                    mapped_to (λ (one : Visited Key). one.turns.items) g.layer.states.items n visited here
                    ∙ ap Some (sym is.0);
                over = subst (λ (ts : List ℕ). IsOver s (state_after s ts)) (sym is.0) is.1;
              }))
              (ended.found m c there);
          apart = λ were. ended.apart (expanded.apart were);
        }

  -- ---- the state that comes next

  -- the one with its transitions at that place of the expansion's layer
  module _ (g : Expansion s k) (memory : Memory) (layer : Layer Key) (transitions : List (SmallVec Transition))
      (found : List (List ℕ)) (is : IsExpansion s k g memory layer transitions found) where
    expansion_many : length transitions ≡ length layer.states.items
    expansion_many =
        ap length (sym is.transitions_are)
        ∙ (g.listed.many
        ∙ (length-map g.layer.states.items (λ (one : Visited Key). one.turns.items)
        ∙ ap (λ (l : Layer Key). length l.states.items) is.layer_is))

    -- the state that is read at a place, and its transitions
    pub expansion_at : (m : ℕ) (visited : Visited Key) (those : SmallVec Transition) → m < length layer.states.items
        → visited ≡ get_or layer.states.items m visited → those ≡ get_or transitions m those
        → (slice_get layer.states.items m ≡ Some visited) × (slice_get transitions m ≡ Some those)
    expansion_at m visited those lt read read_too = (
      slice_get_read layer.states.items (length layer.states.items) m visited refl lt read,
      slice_get_read transitions (length transitions) m those refl (omega (arith, lt, expansion_many)) read_too,
    )

    -- nothing was gone on from
    pub expansion_none : AreExpanded s k g memory [] [] [] found
    expansion_none = record {
      sound = is.sound;
      grows = subst (λ (m : Memory). k.Grows m memory) (sym is.before_is) (laws.grows_itself memory);
      many = omega arith;
      fits = omega arith;
      are_end_classes = λ m visited t there none.
          absurd (let lt = slice_get_within [] m t none in omega (arith, lt));
      leads = λ m visited those row there listed none.
          absurd (let lt = slice_get_within [] m row none in omega (arith, lt));
      keys = record {
        long = λ m one none. absurd (let lt = slice_get_within [] m one none in omega (arith, lt));
        keys = λ m one none. absurd (let lt = slice_get_within [] m one none in omega (arith, lt));
      };
      successor = λ m one none. absurd (let lt = slice_get_within [] m one none in omega (arith, lt));
      keeps = λ m x e. ap (λ (xs : List (List ℕ)). slice_get xs m) (sym is.found_is) ∙ e;
      are_found = λ m x e. inl (ap (λ (xs : List (List ℕ)). slice_get xs m) is.found_is ∙ e);
      apart = λ were. subst (λ (xs : List (List ℕ)). AreApartClasses s xs) is.found_is were;
    }

    module _ (m : ℕ) (visited : Visited Key) (those : SmallVec Transition)
        (here : slice_get layer.states.items m ≡ Some visited) (listed : slice_get transitions m ≡ Some those) where
      here_too : slice_get g.layer.states.items m ≡ Some visited
      here_too = ap (λ (l : Layer Key). slice_get l.states.items m) is.layer_is ∙ here

      listed_too : slice_get g.transitions m ≡ Some those
      listed_too = ap (λ (ms : List (SmallVec Transition)). slice_get ms m) is.transitions_are ∙ listed

      pub expansion_can : (now : Memory) (next : List (Visited Key)) (end_classes : List (Option ℕ))
          (places : List (SmallVec ℕ)) (classes : List (List ℕ))
          → AreExpanded s k g now next end_classes places classes → CanGoOn s k now visited
      expansion_can now next end_classes places classes expanded =
          can_go_on g m visited here_too now next end_classes places classes expanded

      pub expansion_there : IsSystem s → AreThere s layer.configurations.items those.items
      expansion_there system =
          subst (λ (l : Layer Key). AreThere s l.configurations.items those.items) is.layer_is
          (λ j one it. are_there g m visited here_too those listed_too j one it system)

      pub expansion_next : (n : ℕ) → n ≡ m → IsNext s k g layer.configurations.items n visited those.items
      expansion_next n e =
          subst (λ (x : ℕ). IsNext s k g layer.configurations.items x visited those.items) (sym e) (record {
            configurations_are = ap (λ (l : Layer Key). l.configurations.items) is.layer_is;
            there = here_too;
            those = those;
            listed = listed_too;
            transitions_are = refl;
          })
