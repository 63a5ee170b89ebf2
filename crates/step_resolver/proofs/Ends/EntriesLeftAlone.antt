-- Entries that no other's event changes are at each moment what they were at the window's beginning.
use Rattle.std.specs.Prelude.{◌≡◌, ℕ, zero, suc, ◌+◌, ◌==◌, List, [], ◌∷◌, ◌++◌, Bool, true, false, cond, length, slice_get, Option, Some, None, refl}
use Rattle.std.proofs.Common.{sym, ap, subst, ◌∙◌, length-append, arith}
use Rattle.std.proofs.lemmas.Bool.{false≢true, eqb-false}
use Rattle.std.proofs.lemmas.Option.{none-some, same_Some}
use Rattle.tree_model.specs.declared.answer.Event.{Event}
use Rattle.tree_model.specs.declared.inode.Inode.{Inode}
use Rattle.tree_model.specs.declared.inode.Place.{Place}
use Rattle.tree_model.specs.State.{State, TOP, child, Stands}
use Rattle.tree_model.specs.Trees.{IsTree, Rooted, top, below}
use Rattle.tree_model.specs.History.{after_event, tree_at}
use Rattle.tree_model.specs.StepLaws.{NodesAreLeft, is_on_entries}
use Rattle.tree_model.specs.PlaceLaws.{StandsAtOneWay}
use Rattle.tree_model.proofs.Children.{entry, place_at-child}
use Rattle.tree_model.proofs.Changed.{not_top}
use Rattle.step_resolver.specs.Order.{Way, Walking, opening, reading, rising, judging, duping, ending, closing, Turn, more, found, partial, failed, take as takes, due, Line, answered, no_room, not_made, events_of, LeadsTo}
use Rattle.step_resolver.specs.WalkHistory.{WalkInHistory, begin_of, state_at, timeline, own_events}
use Rattle.step_resolver.specs.Footprint.{IsLeftAlone}

-- ---- the walk's own events leave the nodes

abbrev pub AllTell : List Event → Type 0
AllTell [] = Unit {0}
AllTell (event ∷ events) = (is_on_entries event.step ≡ false) × AllTell events

pub due_tells : (way : Way) (walk : Walking) → is_on_entries (due way walk) ≡ false
due_tells way (opening position own follow n rest) = refl
due_tells way (reading position link rest) = refl
due_tells way (rising handle names rest) = refl
due_tells way (judging handle names rest) = refl
due_tells way (duping rest) = refl
due_tells way (ending handle names rest) = refl
due_tells way (closing h hs after) = refl

pub lines_only_tell : (a : ℕ) (way : Way) (lines : List Line) (turn end : Turn) → LeadsTo way turn lines end → AllTell (events_of a lines)
lines_only_tell a way [] turn end leads = tt
lines_only_tell a way (answered step answer ∷ lines) (more walk) end leads =
    (ap is_on_entries leads.0 ∙ due_tells way walk, lines_only_tell a way lines (takes way true walk answer) end leads.1)
lines_only_tell a way (no_room step answer ∷ lines) (more walk) end leads =
    (ap is_on_entries leads.0 ∙ due_tells way walk, lines_only_tell a way lines (takes way false walk answer) end leads.1)
lines_only_tell a way (not_made error ∷ lines) (more walk) end leads = lines_only_tell a way lines _ end leads.1
lines_only_tell a way (line ∷ lines) (found handle names) end leads = absurd leads
lines_only_tell a way (line ∷ lines) (partial handle names rest) end leads = absurd leads
lines_only_tell a way (line ∷ lines) (failed error) end leads = absurd leads

pub own_tells : (a : ℕ) (events : List Event) → AllTell (own_events a events) → (t : ℕ) (event : Event) → slice_get events t ≡ Some event
    → (event.actor == a) ≡ true → is_on_entries event.step ≡ false
own_tells a [] all t event e own = absurd (none-some event e)
own_tells a (first ∷ events) all t event e own = on (first.actor == a) refl t e (λ rest k f. own_tells a events rest k event f own)
  where
    same : (b : Bool) → (first.actor == a) ≡ b → AllTell (cond b (first ∷ own_events a events) (own_events a events))
    same b q = subst (λ x. AllTell (cond x (first ∷ own_events a events) (own_events a events))) q all

    on : (b : Bool) → (first.actor == a) ≡ b → (k : ℕ) → slice_get (first ∷ events) k ≡ Some event
        → (AllTell (own_events a events) → (j : ℕ) → slice_get events j ≡ Some event → is_on_entries event.step ≡ false) → is_on_entries event.step ≡ false
    on true q zero f more_own = ap (λ v. is_on_entries v.step) (sym (same_Some first event f)) ∙ (same true q).0
    on true q (suc k) f more_own = more_own (same true q).1 k f
    on false q zero f more_own = absurd (false≢true (sym q ∙ ap (λ v. v.actor == a) (same_Some first event f) ∙ own))
    on false q (suc k) f more_own = more_own (same false q) k f

-- from one moment to the next
pub next_moment : (s : State) (events : List Event) (t : ℕ) (event : Event) → slice_get events t ≡ Some event
    → tree_at s events (suc t) ≡ after_event (tree_at s events t) event
next_moment s [] t event e = absurd (none-some event e)
next_moment s (first ∷ events) zero event e = ap (after_event s) (same_Some first event e)
next_moment s (first ∷ events) (suc t) event e = next_moment (after_event s first) events t event e

pub past_the_end : (s : State) (events : List Event) (t : ℕ) → slice_get events t ≡ None → tree_at s events (suc t) ≡ tree_at s events t
past_the_end s [] zero e = refl
past_the_end s [] (suc t) e = refl
past_the_end s (first ∷ events) zero e = absurd (none-some first (sym e))
past_the_end s (first ∷ events) (suc t) e = past_the_end (after_event s first) events t e

-- an entry that is left alone is the same at each moment
pub steady : NodesAreLeft → (w : WalkInHistory) → AllTell (own_events w.actor w.window) → (e : Place) → IsLeftAlone w e
    → (t : ℕ) → child ((timeline w).nodes_at t) e.parent e.name ≡ child (begin_of w).nodes e.parent e.name
steady left w tells e alone zero = refl
steady left w tells e alone (suc t) = on (slice_get w.window t) refl ∙ steady left w tells e alone t
  where
    on_event : (event : Event) → slice_get w.window t ≡ Some event → (b : Bool) → (event.actor == w.actor) ≡ b
        → child ((timeline w).nodes_at (suc t)) e.parent e.name ≡ child ((timeline w).nodes_at t) e.parent e.name
    on_event event q true own = ap (λ nodes. child nodes e.parent e.name)
        (ap (λ s. s.nodes) (next_moment (begin_of w) w.window t event q)
        ∙ left (state_at w t) event.actor event.step (own_tells w.actor w.window tells t event q own))
    on_event event q false other = alone.same t event q (eqb-false event.actor w.actor other)

    on : (o : Option Event) → slice_get w.window t ≡ o → child ((timeline w).nodes_at (suc t)) e.parent e.name ≡ child ((timeline w).nodes_at t) e.parent e.name
    on None q = ap (λ s. child s.nodes e.parent e.name) (past_the_end (begin_of w) w.window t q)
    on (Some event) q = on_event event q (event.actor == w.actor) refl

-- ---- no directory below the root has the root as its child

stands_below_top : (nodes : List Inode) → IsTree nodes → (r x : ℕ) (names above : List (List ℕ)) → Stands nodes r x names → Stands nodes TOP r above
    → Stands nodes TOP x (names ++ above)
stands_below_top nodes is r x [] above stands top_stands = subst (λ y. Stands nodes TOP y above) (sym stands) top_stands
stands_below_top nodes is r x (n ∷ names) above stands top_stands = (
  not_top nodes is x (entry stands.1.0 n) stands.1.1.0,
  (stands.1.0, (stands.1.1.0, stands_below_top nodes is r stands.1.0 names above stands.1.1.1 top_stands)),
)

rooted_stands : (nodes : List Inode) → IsTree nodes → {x : ℕ} → Rooted nodes x → (names : List (List ℕ)) × Stands nodes TOP x names
rooted_stands nodes is top = ([], refl)
rooted_stands nodes is (below {x = x} place p up) =
    let rest = rooted_stands nodes is up in
    (place.name ∷ rest.0, (not_top nodes is x place p, (place.parent, (p, rest.1))))

too_long_for_itself : (n : List ℕ) (names above : List (List ℕ)) → above ≡ n ∷ (names ++ above) → ⊥
too_long_for_itself n names above e =
    let lengths : length above ≡ suc (length (names ++ above)) = ap length e in
    let parts : length (names ++ above) ≡ length names + length above = length-append names above in
    omega arith

pub root_is_no_child : StandsAtOneWay → (nodes : List Inode) → IsTree nodes → (r d : ℕ) (names : List (List ℕ)) (n : List ℕ) → Stands nodes r d names
    → child nodes d n ≡ Some r → ⊥
root_is_no_child one nodes is r d names n stands c =
    let p = place_at-child nodes d n r c in
    let up = rooted_stands nodes is (is.rooted r (entry d n) p) in
    too_long_for_itself n names up.0
    (one nodes TOP r up.0 (n ∷ (names ++ up.0)) up.1
    (not_top nodes is r (entry d n) p, (d, (p, stands_below_top nodes is r d names up.0 stands up.1))))
