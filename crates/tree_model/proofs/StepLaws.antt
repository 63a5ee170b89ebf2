-- What steps leave as it was.
use Rattle.std.proofs.Common.{◌≡◌, ◌≢◌, ⊎_elim, ℕ, zero, suc, ◌≤◌, Bool, true, false, ◌==◌, cond, List, [], ◌∷◌, ◌++◌, length, Option, Some, None, slice_get, slice_set, refl, sym, ap, ◌∙◌, subst, eqb-true, eq-eqb, ne_eqb, length-append, length-set, arith}
use Rattle.std.specs.Option.{option_map}
use Rattle.std.proofs.lemmas.Bool.{false≢true, true≢false, eqb-false, cases_eq, cond-true, cond-false}
use Rattle.std.proofs.lemmas.Option.{none-some, same_Some}
pub use Rattle.path_text.proofs.Lists.{slice_get-append}
use Rattle.tree_model.specs.declared.answer.Answer.TheVariants.{Opened, Done}
use Rattle.tree_model.specs.declared.inode.Object.{Object}
use Rattle.tree_model.specs.declared.inode.OpenHandle.{OpenHandle}
use Rattle.tree_model.specs.declared.step.Kind.{Kind}
use Rattle.tree_model.specs.StepWith.{StepWith}
use Rattle.tree_model.specs.declared.step.StepOf.TheVariants.{Close}
use Rattle.tree_model.specs.State.{State, object_at}
use Rattle.tree_model.specs.Steps.{Outcome, node_held, held, kind_of, with_handle}
use Rattle.tree_model.specs.StepLaws.{only_tells, is_on_entries, is_close_of, TellingChangesNothing, NodesAreLeft, HandlesAreLeft, NumbersGrow, NumbersGrowByOne, ObjectsStay, OthersHandlesStay, OwnHandlesStay, ClosedIsClosed, OpenedIsOpen}
use Rattle.tree_model.proofs.Changed.{Changed-grows, Changed-by_one}
use Rattle.tree_model.proofs.Outcomes.{Does, refuses, tells, opens_on, closes, changes_to, does}
use Rattle.tree_model.proofs.Places.{slice_get-last}

-- ---- the tree as a whole, and the nodes

leaves_all : {s : State} {a : ℕ} {step : StepWith ℕ} {o : Outcome} → Does s a step o → only_tells o.answer ≡ true → o.after ≡ s
leaves_all (refuses error) e = refl
leaves_all (tells answer e') e = refl
leaves_all (opens_on x what e1 e2 e3) e = absurd (false≢true e)
leaves_all (closes h x e1) e = absurd (false≢true e)
leaves_all (changes_to nodes e1 changed) e = absurd (false≢true e)

pub telling_changes_nothing : TellingChangesNothing
telling_changes_nothing s a step e = leaves_all (does s a step) e

leaves_nodes : {s : State} {a : ℕ} {step : StepWith ℕ} {o : Outcome} → Does s a step o → is_on_entries step ≡ false → o.after.nodes ≡ s.nodes
leaves_nodes (refuses error) e = refl
leaves_nodes (tells answer e') e = refl
leaves_nodes (opens_on x what e1 e2 e3) e = refl
leaves_nodes (closes h x e1) e = refl
leaves_nodes (changes_to nodes e1 changed) e = absurd (true≢false (sym e1 ∙ e))

pub nodes_are_left : NodesAreLeft
nodes_are_left s a step e = leaves_nodes (does s a step) e

leaves_handles : {s : State} {a : ℕ} {step : StepWith ℕ} {o : Outcome} → Does s a step o → is_on_entries step ≡ true → o.after.handles ≡ s.handles
leaves_handles (refuses error) e = refl
leaves_handles (tells answer e') e = refl
leaves_handles (opens_on x what e1 e2 e3) e = absurd (false≢true (sym e1 ∙ e))
leaves_handles (closes h x e1) e = absurd (false≢true e)
leaves_handles (changes_to nodes e1 changed) e = refl

pub handles_are_left : HandlesAreLeft
handles_are_left s a step e = leaves_handles (does s a step) e

grow : {s : State} {a : ℕ} {step : StepWith ℕ} {o : Outcome} → Does s a step o → (length s.nodes ≤ length o.after.nodes) × (length s.handles ≤ length o.after.handles)
grow (refuses error) = (omega arith, omega arith)
grow (tells answer e') = (omega arith, omega arith)
grow {s} {a} (opens_on x what e1 e2 e3) = (omega arith, omega (arith, length-append s.handles (Some (record { actor = a; node = x }) ∷ [])))
grow {s} (closes h x e1) = (omega arith, omega (arith, length-set s.handles h None))
grow (changes_to nodes e1 changed) = ((Changed-grows changed).longer, omega arith)

pub numbers_grow : NumbersGrow
numbers_grow s a step = grow (does s a step)

by_one : {s : State} {a : ℕ} {step : StepWith ℕ} {o : Outcome} → Does s a step o
    → (length o.after.nodes ≤ suc (length s.nodes)) × (length o.after.handles ≤ suc (length s.handles))
by_one (refuses error) = (omega arith, omega arith)
by_one (tells answer e') = (omega arith, omega arith)
by_one {s} {a} (opens_on x what e1 e2 e3) = (omega arith, omega (arith, length-append s.handles (Some (record { actor = a; node = x }) ∷ [])))
by_one {s} (closes h x e1) = (omega arith, omega (arith, length-set s.handles h None))
by_one (changes_to nodes e1 changed) = (Changed-by_one changed, omega arith)

pub numbers_grow_by_one : NumbersGrowByOne
numbers_grow_by_one s a step = by_one (does s a step)

objects_stay_by : {s : State} {a : ℕ} {step : StepWith ℕ} {o : Outcome} → Does s a step o → (x : ℕ) (object : Object)
    → object_at s.nodes x ≡ Some object → object_at o.after.nodes x ≡ Some object
objects_stay_by (refuses error) x object e = e
objects_stay_by (tells answer e') x object e = e
objects_stay_by (opens_on y what e1 e2 e3) x object e = e
objects_stay_by (closes h y e1) x object e = e
objects_stay_by (changes_to nodes e1 changed) x object e = (Changed-grows changed).objects x object e

pub objects_stay : ObjectsStay
objects_stay s a step x object e = objects_stay_by (does s a step) x object e

-- ---- the handles

-- a handle that is open and the actor's, as it stands in the list
pub held-is : (a : ℕ) (o : Option (Option OpenHandle)) (x : ℕ) → node_held a o ≡ Some x → o ≡ Some (Some (record { actor = a; node = x }))
held-is a None x e = absurd (none-some x e)
held-is a (Some None) x e = absurd (none-some x e)
held-is a (Some (Some open_handle)) x e = by (open_handle.actor == a) refl e
  where
    by : (b : Bool) → (open_handle.actor == a) ≡ b → cond b (Some open_handle.node) None ≡ Some x → Some (Some open_handle) ≡ Some (Some (record { actor = a; node = x }))
    by true q e = λ i. Some (Some (record { actor = eqb-true open_handle.actor a q i; node = same_Some open_handle.node x e i }))
    by false q e = absurd (none-some x e)

node_held-own : (a x : ℕ) → node_held a (Some (Some (record { actor = a; node = x }))) ≡ Some x
node_held-own a x = cond-true (a == a) (Some x) None (eq-eqb a a refl)

node_held-other : (a b x : ℕ) → b ≢ a → node_held b (Some (Some (record { actor = a; node = x }))) ≡ None
node_held-other a b x ne = cond-false (a == b) (Some x) None (ne_eqb a b (λ q. ne (sym q)))

-- one more handle is no other actor's
held_more-other : (handles : List (Option OpenHandle)) (a b x h : ℕ) → b ≢ a
    → node_held b (slice_get (handles ++ Some (record { actor = a; node = x }) ∷ []) h) ≡ node_held b (slice_get handles h)
held_more-other [] a b x zero ne = node_held-other a b x ne
held_more-other [] a b x (suc h) ne = refl
held_more-other (first ∷ handles) a b x zero ne = refl
held_more-other (first ∷ handles) a b x (suc h) ne = held_more-other handles a b x h ne

pub slice_get-set_other : {A : Type 0} (xs : List A) (i : ℕ) (y : A) (k : ℕ) → k ≢ i → slice_get (slice_set xs i y) k ≡ slice_get xs k
slice_get-set_other [] i y k ne = refl
slice_get-set_other (x ∷ xs) zero y zero ne = absurd (ne refl)
slice_get-set_other (x ∷ xs) zero y (suc k) ne = refl
slice_get-set_other (x ∷ xs) (suc i) y zero ne = refl
slice_get-set_other (x ∷ xs) (suc i) y (suc k) ne = slice_get-set_other xs i y k (λ e. ne (ap suc e))

-- the one that was closed is open to nobody
pub held_closed : (handles : List (Option OpenHandle)) (h b : ℕ) → node_held b (slice_get (slice_set handles h None) h) ≡ None
held_closed [] h b = refl
held_closed (first ∷ handles) zero b = refl
held_closed (first ∷ handles) (suc h) b = held_closed handles h b

others_stay : {s : State} {a : ℕ} {step : StepWith ℕ} {o : Outcome} → Does s a step o → (b h : ℕ) → b ≢ a → held o.after b h ≡ held s b h
others_stay (refuses error) b h ne = refl
others_stay (tells answer e') b h ne = refl
others_stay {s} {a} (opens_on x what e1 e2 e3) b h ne = held_more-other s.handles a b x h ne
others_stay {s} {a} (closes k x e1) b h ne =
    ⊎_elim
    (λ q. subst (λ h. node_held b (slice_get (slice_set s.handles k None) h) ≡ node_held b (slice_get s.handles h)) (sym q)
    (held_closed s.handles k b ∙ sym (ap (node_held b) (held-is a (slice_get s.handles k) x e1) ∙ node_held-other a b x ne)))
    (λ other. ap (node_held b) (slice_get-set_other s.handles k None h other))
    (cases_eq h k)
others_stay (changes_to nodes e1 changed) b h ne = refl

pub others_handles_stay : OthersHandlesStay
others_handles_stay s a step b h ne = others_stay (does s a step) b h ne

own_stay : {s : State} {a : ℕ} {step : StepWith ℕ} {o : Outcome} → Does s a step o → (h x : ℕ) → held s a h ≡ Some x → is_close_of h step ≡ false → held o.after a h ≡ Some x
own_stay (refuses error) h x e open_still = e
own_stay (tells answer e') h x e open_still = e
own_stay {s} {a} (opens_on y what e1 e2 e3) h x e open_still =
    ap (node_held a) (slice_get-append s.handles _ h (Some (record { actor = a; node = x })) (held-is a (slice_get s.handles h) x e)) ∙ node_held-own a x
own_stay {s} {a} (closes k y e1) h x e open_still =
    ap (node_held a) (slice_get-set_other s.handles k None h (λ q. eqb-false k h open_still (sym q))) ∙ e
own_stay (changes_to nodes e1 changed) h x e open_still = e

pub own_handles_stay : OwnHandlesStay
own_handles_stay s a step h x e open_still = own_stay (does s a step) h x e open_still

closed_by : {s : State} {a h : ℕ} {o : Outcome} → Does s a (Close h) o → o.answer ≡ Done → (b : ℕ) → held o.after b h ≡ None
closed_by (refuses error) e b = cc (e)
closed_by (tells answer e') e b = absurd (false≢true (sym (ap only_tells e) ∙ e'))
closed_by (opens_on x what e1 e2 e3) e b = cc (e)
closed_by {s} (closes h x e1) e b = held_closed s.handles h b
closed_by (changes_to nodes e1 changed) e b = absurd (false≢true e1)

pub closed_is_closed : ClosedIsClosed
closed_is_closed s a h e b = closed_by (does s a (Close h)) e b

opened_by : {s : State} {a : ℕ} {step : StepWith ℕ} {o : Outcome} → Does s a step o → (h x : ℕ) (kind : Kind) → o.answer ≡ Opened h x kind
    → (h ≡ length s.handles) × (held o.after a h ≡ Some x) × (o.after ≡ with_handle s a x) × (option_map kind_of (object_at s.nodes x) ≡ Some kind)
opened_by (refuses error) h x kind e = cc (e)
opened_by (tells answer e') h x kind e = absurd (false≢true (sym (ap only_tells e) ∙ e'))
opened_by {s} {a} (opens_on y what e1 e2 e3) h x kind e =
    let number : length s.handles ≡ h = cc (e) in
    let node : y ≡ x = cc (e) in
    let is : kind_of what ≡ kind = cc (e) in (
      sym number,
      subst (λ k. held (with_handle s a y) a k ≡ Some x) number
          (ap (node_held a) (slice_get-last s.handles (Some (record { actor = a; node = y }))) ∙ node_held-own a y ∙ ap Some node),
      ap (with_handle s a) node,
      ap (λ k. option_map kind_of (object_at s.nodes k)) (sym node) ∙ ap (option_map kind_of) e3 ∙ ap Some is,
    )
opened_by (closes k y e1) h x kind e = cc (e)
opened_by (changes_to nodes e1 changed) h x kind e = cc (e)

pub opened_is_open : OpenedIsOpen
opened_is_open s a step h x kind e = opened_by (does s a step) h x kind e
