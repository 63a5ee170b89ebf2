-- Where an actor acts alone, each entry is left alone by others, and so the names told are those that were passed.
use Rattle.std.specs.Prelude.{◌≡◌, ℕ, zero, suc, List, [], ◌∷◌, ◌++◌, Some, slice_get, refl}
use Rattle.std.proofs.Common.{subst}
use Rattle.std.proofs.lemmas.Option.{same_Some}
use Rattle.tree_model.specs.declared.answer.Event.{Event}
use Rattle.tree_model.specs.declared.inode.Place.{Place}
use Rattle.step_resolver.specs.Footprint.{AllLeftAlone}
use Rattle.step_resolver.specs.WalkHistory.{WalkInHistory}

-- all of these events are the actor's
abbrev pub AllOwn : ℕ → List Event → Type 0
AllOwn a [] = Unit {0}
AllOwn a (event ∷ events) = (event.actor ≡ a) × AllOwn a events

pub own_events_alone : (a : ℕ) (events : List Event) → ((t : ℕ) (event : Event) → slice_get events t ≡ Some event → event.actor ≡ a) → AllOwn a events
own_events_alone a [] quiet = tt
own_events_alone a (event ∷ events) quiet = (quiet 0 event refl, own_events_alone a events (λ t e q. quiet (suc t) e q))

each_own : (a : ℕ) (events : List Event) → AllOwn a events → (t : ℕ) (event : Event) → slice_get events t ≡ Some event → event.actor ≡ a
each_own a [] own t event q = cc (q)
each_own a (e ∷ events) own zero event q = subst (λ (x : Event). x.actor ≡ a) (same_Some e event q) own.0
each_own a (e ∷ events) own (suc t) event q = each_own a events own.1 t event q

pub own_front : (a : ℕ) (first rest : List Event) → AllOwn a (first ++ rest) → AllOwn a first
own_front a [] rest own = tt
own_front a (event ∷ first) rest own = (own.0, own_front a first rest own.1)

pub own_back : (a : ℕ) (first rest : List Event) → AllOwn a (first ++ rest) → AllOwn a rest
own_back a [] rest own = own
own_back a (event ∷ first) rest own = own_back a first rest own.1

pub left_alone : (w : WalkInHistory) → AllOwn w.actor w.window → (entries : List Place) → AllLeftAlone w entries
left_alone w own [] = tt
left_alone w own (entry ∷ entries) = (record { same = λ t event q other. absurd (other (each_own w.actor w.window own t event q)) }, left_alone w own entries)
