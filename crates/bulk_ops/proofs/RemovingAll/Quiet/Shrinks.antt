-- While no other takes a step, what is cleared only loses what stood below the target as clearing began; and once the target
-- is gone, all of that is.
use Rattle.std.specs.Prelude.{◌≡◌, ◌≢◌, ℕ, zero, suc, ◌≤◌, ◌==◌, ◌⊎◌, List, [], ◌∷◌, Bool, true, false, if◌then◌else◌, length, slice_get, Option, Some, None, is_some, refl}
use Rattle.std.proofs.Common.{sym, ap, subst, ◌∙◌, inl, inr, arith, not-suc-le-zero, eq-eqb, eqb-true}
use Rattle.std.proofs.lemmas.Bool.{false≢true, eqb-false}
use Rattle.std.proofs.lemmas.Option.{none-some, same_Some}
use Rattle.tree_model.specs.declared.answer.Event.{Event}
use Rattle.tree_model.specs.declared.inode.Inode.{Inode}
use Rattle.tree_model.specs.declared.inode.Place.{Place}
use Rattle.tree_model.specs.State.{TOP, object_at, place_at, put_at, child, Stands, is_within, names_below}
use Rattle.tree_model.specs.Steps.{outcome}
use Rattle.tree_model.specs.Trees.{IsTree, IsState, Rooted, top, below}
use Rattle.tree_model.specs.History.{IsLegal}
use Rattle.tree_model.proofs.Places.{place_at-within, length-put_at, object_at-put_at, place_at-put_at, place_at-put_other}
use Rattle.tree_model.proofs.Children.{entry, place_at-child, place_at-no_child}
use Rattle.tree_model.proofs.Standing.{Under, Under-itself, Under-child, not_under, Stands-names_below}
use Rattle.tree_model.proofs.Hanging.{stood, Rooted-parent}
use Rattle.tree_model.proofs.Changed.{not_top}
use Rattle.tree_model.proofs.HistoryLaws.{histories_keep_trees, legal_at_each_moment}
use Rattle.step_resolver.specs.Trail.{is_by}
use Rattle.step_resolver.specs.FootprintLaws.{IsQuiet}
use Rattle.step_resolver.specs.WalkHistory.{WalkInHistory, begin_of, state_at, timeline}
use Rattle.step_resolver.proofs.Ends.EntriesLeftAlone.{next_moment, past_the_end}
use Rattle.bulk_ops.specs.RemoveAllTells.{Down, here, under, outermost, is_removal, one_more_if, TakesAway, LeavesEntries, OnlyTakesAway, IsLastOnTarget}
use Rattle.bulk_ops.specs.RemoveAllQuiet.{is_at_or_below, cleared}
use Rattle.bulk_ops.proofs.RemovingAll.Quiet.Gone.{same_node, same_nodes, length-without, object_at-without, place_at-without, placed, placed-put_none}
use Rattle.bulk_ops.proofs.RemovingAll.Quiet.Falls.{Takes, removal_takes}

-- a moment that is no later than the next is no later than this one, or is the next
or_next : (s t : ℕ) → s ≤ suc t → (s ≤ t) ⊎ (s ≡ suc t)
or_next zero t le = inl (omega arith)
or_next (suc s) zero le = inr (omega arith)
or_next (suc s) (suc t) le = on (or_next s t (omega arith))
  where
    on : (s ≤ t) ⊎ (s ≡ suc t) → (suc s ≤ suc t) ⊎ (suc s ≡ suc (suc t))
    on (inl a) = inl (omega arith)
    on (inr e) = inr (ap suc e)

-- what leads up to the top and stands nowhere is the top
only_top : (nodes : List Inode) {d : ℕ} → Rooted nodes d → place_at nodes d ≡ None → d ≡ TOP
only_top nodes top none = refl
only_top nodes (below place p up) none = absurd (none-some place (sym none ∙ p))

module _ (c : WalkInHistory) (state : IsState (begin_of c)) (legal : IsLegal (begin_of c) c.window) (quiet : IsQuiet c)
    (dir : ℕ) (target : List ℕ) (only : OnlyTakesAway c dir target) where
  abbrev nodes_at : ℕ → List Inode
  nodes_at t = (state_at c t).nodes

  tree : (t : ℕ) → IsTree (nodes_at t)
  tree t = ((histories_keep_trees (begin_of c) c.window state).1 t).tree

  each : (t : ℕ) → LeavesEntries c t ⊎ TakesAway c dir target t
  each t = on (slice_get c.window t) refl
    where
      on : (o : Option Event) → slice_get c.window t ≡ o → LeavesEntries c t ⊎ TakesAway c dir target t
      on None q = inl (ap (λ s. s.nodes) (past_the_end (begin_of c) c.window t q))
      on (Some event) q = only t (ap (is_by c.actor) q ∙ eq-eqb event.actor c.actor (quiet t event q))

  -- ---- nothing comes to stand anywhere

  from_next : (t : ℕ) → LeavesEntries c t ⊎ TakesAway c dir target t → (x : ℕ) (place : Place) → place_at (nodes_at (suc t)) x ≡ Some place → place_at (nodes_at t) x ≡ Some place
  from_next t (inl same) x place p = sym (ap (λ ns. place_at ns x) same) ∙ p
  from_next t (inr taken) x place p = (stood (nodes_at t) taken.entry x place (sym (ap (λ ns. place_at ns x) taken.gone) ∙ p)).1

  earlier : (t s : ℕ) → s ≤ t → (x : ℕ) (place : Place) → place_at (nodes_at t) x ≡ Some place → place_at (nodes_at s) x ≡ Some place
  earlier zero zero le x place p = p
  earlier zero (suc s) le x place p = absurd (not-suc-le-zero le)
  earlier (suc t) s le x place p = on (or_next s t le) (λ a. earlier t s a x place (from_next t (each t) x place p))
    where
      on : (s ≤ t) ⊎ (s ≡ suc t) → (s ≤ t → place_at (nodes_at s) x ≡ Some place) → place_at (nodes_at s) x ≡ Some place
      on (inl a) back = back a
      on (inr e) back = subst (λ k. place_at (nodes_at k) x ≡ Some place) (sym e) p

  at_first : (t x : ℕ) (place : Place) → place_at (nodes_at t) x ≡ Some place → place_at (nodes_at 0) x ≡ Some place
  at_first t = earlier t 0 (omega arith)

  -- ---- what is taken away stood at or below the target

  pub record InTarget (x : ℕ) : Type 0 where
    pub node : ℕ
    pub stands : place_at (nodes_at 0) node ≡ Some (entry dir target)
    pub under_it : Under (nodes_at 0) node x

  in_target : {names : List (List ℕ)} {inner since : ℕ} (name : List ℕ) (x : ℕ) → Down (timeline c) dir names inner since
      → place_at (nodes_at 0) x ≡ Some (entry inner name) → outermost name names ≡ target → InTarget x
  in_target name x (here m) p e = record { node = x; stands = p ∙ ap (λ n. Some (entry dir n)) e; under_it = Under-itself (nodes_at 0) x x refl }
  in_target {inner = inner} name x (under {d = d} above t y m way at there is_dir le) p e =
      let up = in_target above inner way (at_first t inner (entry d above) (place_at-child (nodes_at t) d above inner there)) e in
      record { node = up.node; stands = up.stands; under_it = Under-child (nodes_at 0) up.node x (entry inner name) p up.under_it }

  taken_in : (t : ℕ) (taken : TakesAway c dir target t) → InTarget taken.entry
  taken_in t taken = in_target taken.name taken.entry taken.way
      (at_first t taken.entry (entry taken.inner taken.name) (place_at-child (nodes_at t) taken.inner taken.name taken.entry taken.child)) taken.below

  -- ---- the nodes stay what they are

  pub objects : (t x : ℕ) → object_at (nodes_at t) x ≡ object_at (nodes_at 0) x
  objects zero x = refl
  objects (suc t) x = on (each t) ∙ objects t x
    where
      on : LeavesEntries c t ⊎ TakesAway c dir target t → object_at (nodes_at (suc t)) x ≡ object_at (nodes_at t) x
      on (inl same) = ap (λ ns. object_at ns x) same
      on (inr taken) = ap (λ ns. object_at ns x) taken.gone ∙ object_at-put_at (nodes_at t) taken.entry None x

  lengths : (t : ℕ) → length (nodes_at t) ≡ length (nodes_at 0)
  lengths zero = refl
  lengths (suc t) = on (each t) ∙ lengths t
    where
      on : LeavesEntries c t ⊎ TakesAway c dir target t → length (nodes_at (suc t)) ≡ length (nodes_at t)
      on (inl same) = ap length same
      on (inr taken) = ap length taken.gone ∙ length-put_at (nodes_at t) taken.entry None

  -- ---- where no target is, nothing is taken away

  pub none_taken : ((x : ℕ) → place_at (nodes_at 0) x ≢ Some (entry dir target)) → (t : ℕ) → nodes_at t ≡ nodes_at 0
  none_taken free zero = refl
  none_taken free (suc t) = on (each t) ∙ none_taken free t
    where
      on : LeavesEntries c t ⊎ TakesAway c dir target t → nodes_at (suc t) ≡ nodes_at t
      on (inl same) = same
      on (inr taken) = let r = taken_in t taken in absurd (free r.node r.stands)

  -- ---- a target that stood there

  module _ (r : ℕ) (stands : place_at (nodes_at 0) r ≡ Some (entry dir target)) where
    abbrev Kept : ℕ → ℕ → Type 0
    Kept t x = (place_at (nodes_at t) x ≡ place_at (nodes_at 0) x) ⊎ ((place_at (nodes_at t) x ≡ None) × Under (nodes_at 0) r x)

    still : (t x : ℕ) → place_at (nodes_at (suc t)) x ≡ place_at (nodes_at t) x → Kept t x → Kept (suc t) x
    still t x e (inl same) = inl (e ∙ same)
    still t x e (inr gone) = inr (e ∙ gone.0, gone.1)

    -- what stands elsewhere than before stands nowhere, and stood at or below the target
    kept : (t x : ℕ) → Kept t x
    kept zero x = inl refl
    kept (suc t) x = on (each t) (kept t x)
      where
        on_taken : (taken : TakesAway c dir target t) → Kept t x → (b : Bool) → (x == taken.entry) ≡ b → Kept (suc t) x
        on_taken taken before true q =
            let same : x ≡ taken.entry = eqb-true x taken.entry q in
            let it = taken_in t taken in
            let node : it.node ≡ r = (tree 0).apart it.node r (entry dir target) it.stands stands in
            let within = place_at-within (nodes_at t) taken.entry (entry taken.inner taken.name) (place_at-child (nodes_at t) taken.inner taken.name taken.entry taken.child) in
            inr (
              ap (λ ns. place_at ns x) taken.gone ∙ ap (place_at (put_at (nodes_at t) taken.entry None)) same ∙ place_at-put_at (nodes_at t) taken.entry None within,
              subst (λ y. Under (nodes_at 0) r y) (sym same) (subst (λ n. Under (nodes_at 0) n taken.entry) node it.under_it),
            )
        on_taken taken before false q =
            still t x (ap (λ ns. place_at ns x) taken.gone ∙ place_at-put_other (nodes_at t) taken.entry None x (eqb-false x taken.entry q)) before

        on : LeavesEntries c t ⊎ TakesAway c dir target t → Kept t x → Kept (suc t) x
        on (inl same) before = still t x (ap (λ ns. place_at ns x) same) before
        on (inr taken) before = on_taken taken before (x == taken.entry) refl

    module _ (last : IsLastOnTarget c dir target) (end : ℕ) (late : suc last.when ≤ end) where
      no_longer : place_at (nodes_at end) r ≢ Some (entry dir target)
      no_longer p = on last.ended
        where
          still_there : place_at (nodes_at (suc last.when)) r ≡ Some (entry dir target)
          still_there = earlier end (suc last.when) late r (entry dir target) p

          on : (child (nodes_at last.when) dir target ≡ None)
              ⊎ ((x : ℕ) × ((child (nodes_at last.when) dir target ≡ Some x) × (nodes_at (suc last.when) ≡ put_at (nodes_at last.when) x None))) → ⊥
          on (inl none) = place_at-no_child (nodes_at last.when) dir target none r (from_next last.when (each last.when) r (entry dir target) still_there)
          on (inr taken) =
              let s = stood (nodes_at last.when) taken.0 r (entry dir target) (sym (ap (λ ns. place_at ns r) taken.1.1) ∙ still_there) in
              s.0 ((tree last.when).apart r taken.0 (entry dir target) s.1 (place_at-child (nodes_at last.when) dir target taken.0 taken.1.0))

      target_gone : place_at (nodes_at end) r ≡ None
      target_gone = on (kept end r)
        where
          on : Kept end r → place_at (nodes_at end) r ≡ None
          on (inl same) = absurd (no_longer (same ∙ stands))
          on (inr gone) = gone.0

      not_the_top : (names : List (List ℕ)) (x : ℕ) → Stands (nodes_at 0) r x names → x ≢ TOP
      not_the_top [] x e q = not_top (nodes_at 0) (tree 0) r (entry dir target) stands (sym e ∙ q)
      not_the_top (n ∷ names) x s q = not_top (nodes_at 0) (tree 0) x (entry s.1.0 n) s.1.1.0 q

      -- what is gone has no entries, so that all that stood below the target is gone with it
      all_gone : (names : List (List ℕ)) (x : ℕ) → Stands (nodes_at 0) r x names → place_at (nodes_at end) x ≡ None
      all_gone [] x e = ap (place_at (nodes_at end)) e ∙ target_gone
      all_gone (n ∷ names) x s = on (kept end x) (all_gone names s.1.0 s.1.1.1)
        where
          on : Kept end x → place_at (nodes_at end) s.1.0 ≡ None → place_at (nodes_at end) x ≡ None
          on (inl same) above = absurd (not_the_top names s.1.0 s.1.1.1
              (only_top (nodes_at end) (Rooted-parent (nodes_at end) (tree end) x (entry s.1.0 n) (same ∙ s.1.1.0)) above))
          on (inr gone) above = gone.0

      places : (x : ℕ) → place_at (nodes_at end) x ≡ (if is_within (nodes_at 0) r x then None else place_at (nodes_at 0) x)
      places x = on (names_below (nodes_at 0) r x) refl
        where
          by : (b : Bool) → is_within (nodes_at 0) r x ≡ b → place_at (nodes_at end) x ≡ (if b then None else place_at (nodes_at 0) x)
              → place_at (nodes_at end) x ≡ (if is_within (nodes_at 0) r x then None else place_at (nodes_at 0) x)
          by b q e = e ∙ ap (λ v. if v then None else place_at (nodes_at 0) x) (sym q)

          elsewhere : is_within (nodes_at 0) r x ≡ false → Kept end x → place_at (nodes_at end) x ≡ place_at (nodes_at 0) x
          elsewhere q (inl same) = same
          elsewhere q (inr gone) = absurd (not_under (nodes_at 0) (tree 0) r x q gone.1)

          on : (o : Option (List (List ℕ))) → names_below (nodes_at 0) r x ≡ o
              → place_at (nodes_at end) x ≡ (if is_within (nodes_at 0) r x then None else place_at (nodes_at 0) x)
          on None q = by false (ap is_some q) (elsewhere (ap is_some q) (kept end x))
          on (Some names) q = by true (ap is_some q) (all_gone names x (Stands-names_below (nodes_at 0) r x names q))

  -- ---- the nodes at the end

  abbrev goes : ℕ → Bool
  goes = is_at_or_below (nodes_at 0) (child (nodes_at 0) dir target)

  pub cleared_at : (last : IsLastOnTarget c dir target) (end : ℕ) → suc last.when ≤ end → nodes_at end ≡ cleared (nodes_at 0) dir target
  cleared_at last end late = same_nodes (nodes_at end) (cleared (nodes_at 0) dir target)
      (lengths end ∙ sym (length-without goes 0 (nodes_at 0)))
      (λ x. objects end x ∙ sym (object_at-without goes 0 (nodes_at 0) x))
      (λ x. on (child (nodes_at 0) dir target) refl x ∙ sym (place_at-without goes 0 (nodes_at 0) x x (omega arith)))
    where
      on : (o : Option ℕ) → child (nodes_at 0) dir target ≡ o → (x : ℕ)
          → place_at (nodes_at end) x ≡ (if goes x then None else place_at (nodes_at 0) x)
      on None q x = ap (λ ns. place_at ns x) (none_taken (place_at-no_child (nodes_at 0) dir target q) end)
          ∙ ap (λ v. if is_at_or_below (nodes_at 0) v x then None else place_at (nodes_at 0) x) (sym q)
      on (Some r) q x = places r (place_at-child (nodes_at 0) dir target r q) last end late x
          ∙ ap (λ v. if is_at_or_below (nodes_at 0) v x then None else place_at (nodes_at 0) x) (sym q)

  -- each node stands where it stood, or it goes and stands nowhere
  pub partly_cleared : (t x : ℕ) → (slice_get (nodes_at t) x ≡ slice_get (nodes_at 0) x) ⊎ (slice_get (nodes_at t) x ≡ slice_get (cleared (nodes_at 0) dir target) x)
  partly_cleared t x = on (child (nodes_at 0) dir target) refl
    where
      as_meant : goes x ≡ true → place_at (nodes_at t) x ≡ None → slice_get (nodes_at t) x ≡ slice_get (cleared (nodes_at 0) dir target) x
      as_meant q none = same_node (nodes_at t) (cleared (nodes_at 0) dir target) x
          (objects t x ∙ sym (object_at-without goes 0 (nodes_at 0) x))
          (none ∙ sym (place_at-without goes 0 (nodes_at 0) x x (omega arith) ∙ ap (λ v. if v then None else place_at (nodes_at 0) x) q))

      by : (r : ℕ) (stands : place_at (nodes_at 0) r ≡ Some (entry dir target)) → child (nodes_at 0) dir target ≡ Some r → (b : Bool) → is_within (nodes_at 0) r x ≡ b → Kept r stands t x
          → (slice_get (nodes_at t) x ≡ slice_get (nodes_at 0) x) ⊎ (slice_get (nodes_at t) x ≡ slice_get (cleared (nodes_at 0) dir target) x)
      by r stands q b w (inl same) = inl (same_node (nodes_at t) (nodes_at 0) x (objects t x) same)
      by r stands q true w (inr gone) = inr (as_meant (ap (λ v. is_at_or_below (nodes_at 0) v x) q ∙ w) gone.0)
      by r stands q false w (inr gone) = absurd (not_under (nodes_at 0) (tree 0) r x w gone.1)

      on : (o : Option ℕ) → child (nodes_at 0) dir target ≡ o
          → (slice_get (nodes_at t) x ≡ slice_get (nodes_at 0) x) ⊎ (slice_get (nodes_at t) x ≡ slice_get (cleared (nodes_at 0) dir target) x)
      on None q = inl (ap (λ ns. slice_get ns x) (none_taken (place_at-no_child (nodes_at 0) dir target q) t))
      on (Some r) q = by r (place_at-child (nodes_at 0) dir target r q) q (is_within (nodes_at 0) r x) refl (kept r (place_at-child (nodes_at 0) dir target r q) t x)

  -- what goes stood somewhere
  pub goes_stood : (x : ℕ) → is_at_or_below (nodes_at 0) (child (nodes_at 0) dir target) x ≡ true → is_some (place_at (nodes_at 0) x) ≡ true
  goes_stood x = on (child (nodes_at 0) dir target) refl
    where
      stood_below : (r : ℕ) → place_at (nodes_at 0) r ≡ Some (entry dir target) → (names : List (List ℕ)) → Stands (nodes_at 0) r x names → is_some (place_at (nodes_at 0) x) ≡ true
      stood_below r p [] e = ap (λ y. is_some (place_at (nodes_at 0) y)) e ∙ ap is_some p
      stood_below r p (n ∷ names) s = ap is_some s.1.1.0

      by_names : (r : ℕ) → place_at (nodes_at 0) r ≡ Some (entry dir target) → (o : Option (List (List ℕ))) → names_below (nodes_at 0) r x ≡ o
          → is_some o ≡ true → is_some (place_at (nodes_at 0) x) ≡ true
      by_names r p None q e = absurd (false≢true e)
      by_names r p (Some names) q e = stood_below r p names (Stands-names_below (nodes_at 0) r x names q)

      on : (o : Option ℕ) → child (nodes_at 0) dir target ≡ o → is_at_or_below (nodes_at 0) o x ≡ true → is_some (place_at (nodes_at 0) x) ≡ true
      on None q e = absurd (false≢true e)
      on (Some r) q e = by_names r (place_at-child (nodes_at 0) dir target r q) (names_below (nodes_at 0) r x) refl e

  -- ---- fewer stand by one for each removal

  pub one_fewer : (t : ℕ) (event : Event) → slice_get c.window t ≡ Some event
      → placed (nodes_at t) ≡ one_more_if (is_removal event.step event.answer) (placed (nodes_at (suc t)))
  one_fewer t event q = on (each t)
    where
      took : (taken : TakesAway c dir target t) → is_removal event.step event.answer ≡ true
      took taken = ap (λ v. is_removal v.step v.answer) (same_Some event _ (sym q ∙ taken.event)) ∙ taken.is_removal

      takes : is_removal event.step event.answer ≡ true → Takes (state_at c t) (outcome (state_at c t) event.actor event.step)
      takes removes = removal_takes (state_at c t) event.actor event.step event.answer removes ((legal_at_each_moment (begin_of c) c.window).0 legal t event q)

      left : nodes_at (suc t) ≡ nodes_at t → is_removal event.step event.answer ≡ true → ⊥
      left same removes =
          let o = takes removes in
          let p = place_at-child (nodes_at t) o.dir o.name o.entry o.child in
          (stood (nodes_at t) o.entry o.entry (entry o.dir o.name)
          (ap (λ ns. place_at ns o.entry) (sym o.after ∙ sym (ap (λ s. s.nodes) (next_moment (begin_of c) c.window t event q)) ∙ same) ∙ p)).0 refl

      by : nodes_at (suc t) ≡ nodes_at t → (b : Bool) → is_removal event.step event.answer ≡ b
          → placed (nodes_at t) ≡ one_more_if (is_removal event.step event.answer) (placed (nodes_at (suc t)))
      by same true r = absurd (left same r)
      by same false r = ap placed (sym same) ∙ ap (λ b. one_more_if b (placed (nodes_at (suc t)))) (sym r)

      on : LeavesEntries c t ⊎ TakesAway c dir target t → placed (nodes_at t) ≡ one_more_if (is_removal event.step event.answer) (placed (nodes_at (suc t)))
      on (inl same) = by same (is_removal event.step event.answer) refl
      on (inr taken) =
          placed-put_none (nodes_at t) taken.entry (entry taken.inner taken.name) (place_at-child (nodes_at t) taken.inner taken.name taken.entry taken.child)
          ∙ ap (λ ns. suc (placed ns)) (sym taken.gone) ∙ ap (λ b. one_more_if b (placed (nodes_at (suc t)))) (sym (took taken))
