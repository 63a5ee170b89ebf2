-- What stays from one moment to the next: objects are of one kind for good, and what was removed stays so.
use Rattle.std.proofs.Common.{◌≡◌, ◌≢◌, ℕ, ◌<◌, ◌≤◌, true, not, ◌==◌, ◌&&◌, List, [], ◌∷◌, length, Option, Some, None, is_some, refl, sym, ap, ◌∙◌, arith}
use Rattle.std.proofs.Math.Bool.{and-false}
use Rattle.std.proofs.lemmas.Bool.{false≢true}
use Rattle.tree_model.specs.declared.answer.Event.{Event}
use Rattle.tree_model.specs.declared.inode.Inode.{Inode}
use Rattle.tree_model.specs.declared.inode.Object.{Object}
use Rattle.tree_model.specs.declared.inode.Place.{Place}
use Rattle.tree_model.specs.StepWith.{StepWith}
use Rattle.tree_model.specs.History.{after_event, after_events}
use Rattle.tree_model.specs.State.{State, TOP, object_at, place_at, child, is_gone, put_at}
use Rattle.tree_model.specs.Steps.{Outcome}
use Rattle.tree_model.proofs.Changed.{Changed, kept, made, removed, moved, replaced, exchanged}
use Rattle.tree_model.proofs.Children.{entry, place_at-child}
use Rattle.tree_model.proofs.Outcomes.{Does, refuses, tells, opens_on, closes, changes_to, does}
use Rattle.tree_model.proofs.Places.{place_at-append_within, place_at-put_other}
use Rattle.tree_model.proofs.StepLaws.{numbers_grow, objects_stay}
use Rattle.calls_by_system_calls.specs.Linux.{Change, both_open, with_change}

-- ---- what was removed

not_placed : (nodes : List Inode) (y c : ℕ) (place : Place) → is_gone nodes y ≡ true → place_at nodes c ≡ Some place → y ≢ c
not_placed nodes y c place gone e same =
    false≢true (sym (ap (λ o. not (c == TOP) && not (is_some o)) e ∙ and-false (not (c == TOP)))
    ∙ ap (is_gone nodes) (sym same) ∙ gone)

not_child : (nodes : List Inode) (y d : ℕ) (n : List ℕ) (c : ℕ) → is_gone nodes y ≡ true → child nodes d n ≡ Some c → y ≢ c
not_child nodes y d n c gone e = not_placed nodes y c (entry d n) gone (place_at-child nodes d n c e)

same_place : {nodes new : List Inode} → Changed nodes new → (y : ℕ) → y < length nodes → is_gone nodes y ≡ true
    → place_at new y ≡ place_at nodes y
same_place kept y within gone = refl
same_place {nodes} (made d n object e1 e2 e3 e4 fits) y within gone = place_at-append_within nodes _ y within
same_place {nodes} (removed d n c e1 e2) y within gone = place_at-put_other nodes c None y (not_child nodes y d n c gone e1)
same_place {nodes} (moved d n f m c e1 e2 e3 e4 e5) y within gone =
    place_at-put_other nodes c (Some (entry f m)) y (not_child nodes y d n c gone e3)
same_place {nodes} (replaced d n f m c e e1 e2 e3 e4 e5 e6 e7) y within gone =
    place_at-put_other (put_at nodes e None) c (Some (entry f m)) y (not_child nodes y d n c gone e3)
    ∙ place_at-put_other nodes e None y (not_child nodes y f m e gone e4)
same_place {nodes} (exchanged d n f m c e e1 e2 e3 e4 e5 e6 e7) y within gone =
    place_at-put_other (put_at nodes c (Some (entry f m))) e (Some (entry d n)) y (not_child nodes y f m e gone e4)
    ∙ place_at-put_other nodes c (Some (entry f m)) y (not_child nodes y d n c gone e3)

gone_by : {s : State} {a : ℕ} {step : StepWith ℕ} {o : Outcome} → Does s a step o → (y : ℕ) → y < length s.nodes
    → is_gone s.nodes y ≡ true → is_gone o.after.nodes y ≡ true
gone_by (refuses error) y within gone = gone
gone_by (tells answer e) y within gone = gone
gone_by (opens_on x what e1 e2 e3) y within gone = gone
gone_by (closes h x e1) y within gone = gone
gone_by (changes_to nodes e1 changed) y within gone =
    ap (λ o. not (y == TOP) && not (is_some o)) (same_place changed y within gone) ∙ gone

-- ---- event by event

pub nodes_grow : (s : State) (events : List Event) → length s.nodes ≤ length (after_events s events).nodes
nodes_grow s [] = omega arith
nodes_grow s (event ∷ events) =
    omega (arith, (numbers_grow s event.actor event.step).0, nodes_grow (after_event s event) events)

pub gone_stays : (s : State) (events : List Event) (y : ℕ) → y < length s.nodes → is_gone s.nodes y ≡ true
    → is_gone (after_events s events).nodes y ≡ true
gone_stays s [] y within gone = gone
gone_stays s (event ∷ events) y within gone =
    let grown = (numbers_grow s event.actor event.step).0 in
    gone_stays (after_event s event) events y (omega (arith, within, grown)) (gone_by (does s event.actor event.step) y within gone)

pub object_stays : (s : State) (events : List Event) (y : ℕ) (what : Object) → object_at s.nodes y ≡ Some what
    → object_at (after_events s events).nodes y ≡ Some what
object_stays s [] y what is = is
object_stays s (event ∷ events) y what is =
    object_stays (after_event s event) events y what (objects_stay s event.actor event.step y what is)

-- ---- the program's own change

pub object_kept : (s : State) (own : Option Change) (y : ℕ) (what : Object) → object_at s.nodes y ≡ Some what
    → object_at (with_change s own).nodes y ≡ Some what
object_kept s None y what is = is
object_kept s (Some change) y what is =
    objects_stay (both_open s.nodes change.directory change.second) 0 change.step y what is

pub nodes_kept : (s : State) (own : Option Change) → length s.nodes ≤ length (with_change s own).nodes
nodes_kept s None = omega arith
nodes_kept s (Some change) = (numbers_grow (both_open s.nodes change.directory change.second) 0 change.step).0

pub gone_kept : (s : State) (own : Option Change) (y : ℕ) → y < length s.nodes → is_gone s.nodes y ≡ true
    → is_gone (with_change s own).nodes y ≡ true
gone_kept s None y within gone = gone
gone_kept s (Some change) y within gone =
    gone_by (does (both_open s.nodes change.directory change.second) 0 change.step) y within gone
