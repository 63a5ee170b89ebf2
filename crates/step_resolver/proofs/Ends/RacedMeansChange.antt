-- A walk that ends in Raced met a change: it is decided whether an entry is left alone, and what a path means is never Raced.
use Rattle.std.proofs.Common.{◌≡◌, ◌≢◌, ◌⊎◌, inl, inr, ⊎_elim, ℕ, zero, suc, ◌==◌, Bool, true, false, cond, List, [], ◌∷◌, Option, Some, None, slice_get, refl, sym, ap, ◌∙◌, subst, eqb-true}
use Rattle.std.proofs.lemmas.Bool.{eqb-false, false≢true, cases_eq}
use Rattle.std.proofs.lemmas.Option.{none-some, same_Some}
use Rattle.path_text.specs.declared.errno.Errno.{Errno}
use Rattle.path_text.specs.declared.errno.Errno.TheVariants.{Raced, CrossRoot}
use Rattle.tree_model.specs.declared.answer.Event.{Event}
use Rattle.tree_model.specs.State.{State, child}
use Rattle.tree_model.specs.History.{after_event, tree_at}
use Rattle.tree_model.specs.declared.inode.Place.{Place}
use Rattle.walk_plan.specs.Plan.{leads_out}
use Rattle.step_resolver.specs.Asked.{asked, follows, is_deepest}
use Rattle.step_resolver.specs.Meaning.{Meant, object, fails, LINKS_MAX, path_means, reading_means, reads_of}
use Rattle.step_resolver.specs.MeaningLaws.{meant_by, is_of_parts}
use Rattle.step_resolver.specs.Order.{failed}
use Rattle.step_resolver.specs.WalkHistory.{WalkInHistory, begin_of, parts_of_walk}
use Rattle.step_resolver.specs.Footprint.{IsLeftAlone, AllLeftAlone, ground, IsMeant}
use Rattle.step_resolver.specs.Headline.{Means, MeansDeepest}
use Rattle.step_resolver.specs.FootprintLaws.{IsChanged, SomeIsChanged, RacedTellsOfChange}
use Rattle.step_resolver.specs.Deepest.{Deep, whole, up_to, none, path_deepest, reading_deepest, IsMeantDeep}
use Rattle.step_resolver.proofs.Meaning.Deepest.{deepest_means_the_same, reads_of-meant_by}
use Rattle.step_resolver.proofs.Meaning.Errors.{parts_fail_as_paths}
use Rattle.step_resolver.proofs.Ends.WalksMean.{walks_mean}
use Rattle.step_resolver.proofs.Ends.DeepestMeaning.{follows_deepest}

-- ---- whether an entry is left alone

same_option : (x y : Option ℕ) → (x ≡ y) ⊎ (x ≢ y)
same_option None None = inl refl
same_option None (Some y) = inr (λ e. none-some y e)
same_option (Some x) None = inr (λ e. none-some x (sym e))
same_option (Some x) (Some y) = ⊎_elim (λ e. inl (ap Some e)) (λ ne. inr (λ e. ne (same_Some x y e))) (cases_eq x y)

module _ (a : ℕ) (e : Place) where
  abbrev at_entry : State → Option ℕ
  at_entry s = child s.nodes e.parent e.name

  abbrev Alone : State → List Event → Type 0
  Alone s window = (t : ℕ) (event : Event) → slice_get window t ≡ Some event → event.actor ≢ a → at_entry (tree_at s window (suc t)) ≡ at_entry (tree_at s window t)

  record Changes (s : State) (window : List Event) : Type 0 where
    pub when : ℕ
    pub event : Event
    pub is_event : slice_get window when ≡ Some event
    pub by_other : event.actor ≢ a
    pub changed : at_entry (tree_at s window (suc when)) ≢ at_entry (tree_at s window when)

  one_more : (s : State) (event : Event) (window : List Event) → (event.actor ≢ a → at_entry (after_event s event) ≡ at_entry s)
      → Alone (after_event s event) window → Alone s (event ∷ window)
  one_more s event window first further zero later q ne = first (subst (λ k. k.actor ≢ a) (sym (same_Some event later q)) ne)
  one_more s event window first further (suc t) later q ne = further t later q ne

  decided : (window : List Event) (s : State) → Alone s window ⊎ Changes s window
  decided [] s = inl (λ t event q ne. absurd (none-some event q))
  decided (event ∷ window) s = on (decided window (after_event s event))
    where
      first : Alone (after_event s event) window → (b : Bool) → (event.actor == a) ≡ b → Alone s (event ∷ window) ⊎ Changes s (event ∷ window)
      first further true q = inl (one_more s event window (λ ne. absurd (ne (eqb-true event.actor a q))) further)
      first further false q =
          ⊎_elim (λ same. inl (one_more s event window (λ ne. same) further))
          (λ differs. inr (record { when = 0; event = event; is_event = refl; by_other = eqb-false event.actor a q; changed = differs }))
          (same_option (at_entry (after_event s event)) (at_entry s))

      on : Alone (after_event s event) window ⊎ Changes (after_event s event) window → Alone s (event ∷ window) ⊎ Changes s (event ∷ window)
      on (inl further) = first further (event.actor == a) refl
      on (inr c) = inr (record { when = suc c.when; event = c.event; is_event = c.is_event; by_other = c.by_other; changed = c.changed })

alone_or_changed : (w : WalkInHistory) (e : Place) → IsLeftAlone w e ⊎ IsChanged w e
alone_or_changed w e =
    ⊎_elim (λ alone. inl (record { same = alone }))
    (λ c. inr (record { when = c.when; event = c.event; is_event = c.is_event; by_other = c.by_other; changed = c.changed }))
    (decided w.actor e w.window (begin_of w))

all_alone_or_changed : (w : WalkInHistory) (entries : List Place) → AllLeftAlone w entries ⊎ SomeIsChanged w entries
all_alone_or_changed w [] = inl tt
all_alone_or_changed w (e ∷ entries) =
    ⊎_elim
    (λ alone. ⊎_elim (λ others. inl (alone, others)) (λ c. inr (inr c)) (all_alone_or_changed w entries))
    (λ c. inr (inl c))
    (alone_or_changed w e)

-- ---- Raced is no meaning

raced_is_not : (m : Meant) → ((error : Errno) (reads : List Place) → m ≡ fails error reads → error ≢ Raced) → IsMeant m (failed Raced) → ⊥
raced_is_not (object x b reads) other h = h
raced_is_not (fails error reads) other h = other error reads refl (sym h)

raced_is_not_deep : (k : Deep) → ((error : Errno) (reads : List Place) → meant_by k ≡ fails error reads → error ≢ Raced) → IsMeantDeep k (failed Raced) → ⊥
raced_is_not_deep (whole x b reads) other h = h
raced_is_not_deep (up_to x b rest reads) other h = h
raced_is_not_deep (none error reads) other h = other error reads refl (sym h)

module _ (w : WalkInHistory) where
  abbrev meaning : Meant
  meaning = reading_means (ground w) w.path (follows w.way.goal)

  never_raced : (error : Errno) (reads : List Place) → meaning ≡ fails error reads → error ≢ Raced
  never_raced error reads e q = on (leads_out w.path.absolute w.way.flags) refl
    where
      on : (t : Bool) → leads_out w.path.absolute w.way.flags ≡ t → ⊥
      on true t =
          let crossed : fails CrossRoot [] ≡ fails error reads =
          sym (ap (λ t. cond t (fails CrossRoot []) (path_means (ground w) (parts_of_walk w))) t) ∙ e in
          let same : CrossRoot ≡ error = cc (crossed) in
          let clash : CrossRoot ≡ Raced = same ∙ q in
          cc (clash)
      on false t =
          let part = parts_fail_as_paths LINKS_MAX (ground w) w.root (parts_of_walk w) LINKS_MAX error reads
          (sym (ap (λ t. cond t (fails CrossRoot []) (path_means (ground w) (parts_of_walk w))) t) ∙ e) in
          false≢true (subst (λ r. is_of_parts r ≡ true) q part)

  -- the deepest has the same meaning
  same_meaning : is_deepest w.way.goal ≡ true → meant_by (reading_deepest (ground w) w.path) ≡ meaning
  same_meaning deep =
      on (leads_out w.path.absolute w.way.flags)
      ∙ ap (λ follow. reading_means (ground w) w.path follow) (sym (follows_deepest w.way.goal deep))
    where
      on : (t : Bool) → meant_by (cond t (none CrossRoot []) (path_deepest (ground w) (asked true w.path.parts)))
          ≡ cond t (fails CrossRoot []) (path_means (ground w) (asked true w.path.parts))
      on true = refl
      on false = deepest_means_the_same LINKS_MAX (ground w) w.root (asked true w.path.parts) LINKS_MAX

  module _ (tells : Means w (failed Raced) × MeansDeepest w (failed Raced)) (alone : AllLeftAlone w (reads_of meaning)) where
    not_raced : (t : Bool) → is_deepest w.way.goal ≡ t → ⊥
    not_raced false plain = raced_is_not meaning never_raced (tells.0 tt plain refl alone)
    not_raced true deep =
        raced_is_not_deep (reading_deepest (ground w) w.path)
        (λ error reads e. never_raced error reads (sym (same_meaning deep) ∙ e))
        (tells.1 tt deep refl
        (subst (AllLeftAlone w) (sym (ap reads_of (same_meaning deep)) ∙ reads_of-meant_by (reading_deepest (ground w) w.path)) alone))

pub raced_tells_of_change : RacedTellsOfChange
raced_tells_of_change w is leads =
    ⊎_elim
    (λ alone. absurd (not_raced w (walks_mean w (failed Raced) is leads) alone (is_deepest w.way.goal) refl))
    (λ changed. changed)
    (all_alone_or_changed w (reads_of (reading_means (ground w) w.path (follows w.way.goal))))
