-- How many handles are open, step by step.
use Rattle.std.proofs.Common.{◌≡◌, ⊎_elim, ℕ, zero, suc, ◌+◌, ◌≤◌, Bool, true, false, cond, nat_le, List, [], ◌∷◌, ◌++◌, length, Option, Some, None, is_some, slice_get, slice_set, refl, sym, ap, ◌∙◌, subst, eq-eqb, ne_eqb, length-append, length-set, arith}
use Rattle.std.specs.List.{count_by}
use Rattle.std.proofs.lemmas.Bool.{false≢true, cases_eq, leb-false, or_parts}
use Rattle.std.proofs.lemmas.List.Sums.{sum_by-cons, sum_by-append}
use Rattle.std.proofs.lemmas.Option.{none-some, same_Some}
use Rattle.tree_model.specs.declared.answer.Answer.{Answer}
use Rattle.tree_model.specs.declared.answer.Answer.TheVariants.{Opened, Text, Names, NotBelow, Listed, Done, Refused}
use Rattle.tree_model.specs.declared.inode.OpenHandle.{OpenHandle}
use Rattle.tree_model.specs.StepWith.{StepWith}
use Rattle.tree_model.specs.declared.step.StepOf.TheVariants.{Open, Dup, Parent, ReadLink, NameBelow, List as ListNames, Close, MakeDir, MakeFile, MakeLink, RemoveFile, RemoveDir, Rename}
use Rattle.tree_model.specs.declared.tree.TheConstants.{HANDLES_MAX, NUMBERS_MAX}
use Rattle.tree_model.specs.State.{State}
use Rattle.tree_model.specs.StepLaws.{only_tells, is_on_entries, opened_count, closed_count, IsWithinLimits, HandlesAreCounted, OthersCountsStay, LimitsAreKept}
use Rattle.tree_model.specs.Steps.{Outcome, outcome, is_held_by, held_count}
use Rattle.tree_model.proofs.Changed.{Changed-few}
use Rattle.tree_model.proofs.Outcomes.{Does, refuses, tells, opens_on, closes, changes_to, does}
use Rattle.tree_model.proofs.StepLaws.{held-is}

-- one element more counts once where it passes, and one that fails in the place of one that passes counts once less
count_by-one_more : {A : Type 0} (p : A → Bool) (xs : List A) (y : A) → count_by p (xs ++ y ∷ []) ≡ count_by p xs + cond (p y) 1 0
count_by-one_more p xs y = sum_by-append (λ x. cond (p x) 1 0) xs (y ∷ []) ∙ ap (λ k. count_by p xs + k) (by (p y))
  where
    by : (b : Bool) → 0 + cond b 1 0 ≡ cond b 1 0
    by true = refl
    by false = refl

count_by-set : {A : Type 0} (p : A → Bool) (xs : List A) (i : ℕ) (x y : A) → slice_get xs i ≡ Some x
    → count_by p (slice_set xs i y) + cond (p x) 1 0 ≡ count_by p xs + cond (p y) 1 0
count_by-set p [] i x y e = absurd (none-some x e)
count_by-set p (z ∷ xs) zero x y e =
    let same : ◌≡◌ {A = ℕ} (cond (p z) 1 0) (cond (p x) 1 0) = ap (λ k. cond (p k) 1 0) (same_Some z x e) in
    omega (arith, sum_by-cons (λ x. cond (p x) 1 0) z xs, sum_by-cons (λ x. cond (p x) 1 0) y xs, same)
count_by-set p (z ∷ xs) (suc i) x y e =
    let rest = count_by-set p xs i x y e in
    omega (arith, sum_by-cons (λ x. cond (p x) 1 0) z xs, sum_by-cons (λ x. cond (p x) 1 0) z (slice_set xs i y), rest)

pub tells-opened : (answer : Answer) → only_tells answer ≡ true → opened_count answer ≡ 0
tells-opened (Opened h x kind) e = absurd (false≢true e)
tells-opened (Text text) e = refl
tells-opened (Names names) e = refl
tells-opened NotBelow e = refl
tells-opened (Listed names) e = refl
tells-opened Done e = refl
tells-opened (Refused error) e = refl

tells-closed : (answer : Answer) (step : StepWith ℕ) → only_tells answer ≡ true → closed_count answer step ≡ 0
tells-closed (Opened h x kind) step e = refl
tells-closed (Text text) step e = refl
tells-closed (Names names) step e = refl
tells-closed NotBelow step e = refl
tells-closed (Listed names) step e = refl
tells-closed Done step e = absurd (false≢true e)
tells-closed (Refused error) step e = refl

entries-closed : (step : StepWith ℕ) → is_on_entries step ≡ true → closed_count Done step ≡ 0
entries-closed (Open h n) e = refl
entries-closed (Dup h) e = refl
entries-closed (Parent h) e = refl
entries-closed (ReadLink h) e = refl
entries-closed (NameBelow r h) e = refl
entries-closed (ListNames h) e = refl
entries-closed (Close h) e = absurd (false≢true e)
entries-closed (MakeDir h n) e = refl
entries-closed (MakeFile h n) e = refl
entries-closed (MakeLink h n text) e = refl
entries-closed (RemoveFile h n) e = refl
entries-closed (RemoveDir h n) e = refl
entries-closed (Rename h n k m mode) e = refl

-- ---- one count for whichever handles a test passes

-- n where the test passes the actor's own handles, else none
abbrev if_own : Bool → ℕ → ℕ
if_own b n = cond b n 0

if_own-zero : (b : Bool) (n : ℕ) → n ≡ 0 → if_own b n ≡ 0
if_own-zero true n e = e
if_own-zero false n e = refl

module _ (test : Option OpenHandle → Bool) (none_fails : test None ≡ false) where
  counts : {s : State} {a : ℕ} {step : StepWith ℕ} {o : Outcome} (b : Bool) → ((x : ℕ) → test (Some (record { actor = a; node = x })) ≡ b) → Does s a step o
      → count_by test o.after.handles + if_own b (closed_count o.answer step) ≡ count_by test s.handles + if_own b (opened_count o.answer)
  counts b own (refuses error) = refl
  counts {step = step} b own (tells answer e) =
      omega (arith, if_own-zero b (closed_count answer step) (tells-closed answer step e), if_own-zero b (opened_count answer) (tells-opened answer e))
  counts {s} {a} b own (opens_on x what e1 e2 e3) =
      let new = count_by-one_more test s.handles (Some (record { actor = a; node = x })) in
      let test_is : ◌≡◌ {A = ℕ} (cond (test (Some (record { actor = a; node = x }))) 1 0) (cond b 1 0) = ap (λ t. cond t 1 0) (own x) in
      omega (arith, new, test_is, if_own-zero b 0 refl)
  counts {s} {a} b own (closes h x e1) =
      let less = count_by-set test s.handles h (Some (record { actor = a; node = x })) None (held-is a (slice_get s.handles h) x e1) in
      let test_is : ◌≡◌ {A = ℕ} (cond (test (Some (record { actor = a; node = x }))) 1 0) (cond b 1 0) = ap (λ t. cond t 1 0) (own x) in
      let none_is : ◌≡◌ {A = ℕ} (cond (test None) 1 0) 0 = ap (λ t. cond t 1 0) none_fails in
      omega (arith, less, test_is, none_is, if_own-zero b 0 refl)
  counts {step = step} b own (changes_to nodes e1 changed) =
      omega (arith, if_own-zero b (closed_count Done step) (entries-closed step e1), if_own-zero b 0 refl)

held_by_itself : (a x : ℕ) → is_held_by a (Some (record { actor = a; node = x })) ≡ true
held_by_itself a x = eq-eqb a a refl

pub handles_are_counted : HandlesAreCounted
handles_are_counted s a step =
    (counts (is_held_by a) refl true (held_by_itself a) (does s a step), counts is_some refl true (λ x. refl) (does s a step))

pub others_counts_stay : OthersCountsStay
others_counts_stay s a step b ne =
    let same = counts (is_held_by b) refl false (λ x. ne_eqb a b (λ q. ne (sym q))) (does s a step) in
    omega (arith, same)

-- ---- the limits

keeps_limits : {s : State} {a : ℕ} {step : StepWith ℕ} {o : Outcome} → IsWithinLimits s → Does s a step o → ((b : ℕ) → held_count o.after b ≤ HANDLES_MAX) → IsWithinLimits o.after
keeps_limits l (refuses error) few = l
keeps_limits l (tells answer e) few = l
keeps_limits {s} {a} l (opens_on x what e1 e2 e3) few =
    let room = leb-false NUMBERS_MAX (length s.handles) (or_parts (nat_le HANDLES_MAX (held_count s a)) (nat_le NUMBERS_MAX (length s.handles)) e2).1 in
    record {
      nodes = l.nodes;
      handles = omega (arith, room, length-append s.handles (Some (record { actor = a; node = x }) ∷ []));
      held = few;
    }
keeps_limits {s} l (closes h x e1) few = record { nodes = l.nodes; handles = let n = l.handles in omega (arith, length-set s.handles h None); held = few }
keeps_limits l (changes_to nodes e1 changed) few = record { nodes = Changed-few changed l.nodes; handles = l.handles; held = few }

-- an actor that opens a handle had fewer than it may have
own_few : {s : State} {a : ℕ} {step : StepWith ℕ} {o : Outcome} → held_count s a ≤ HANDLES_MAX → Does s a step o → held_count s a + opened_count o.answer ≤ HANDLES_MAX
own_few few (refuses error) = omega arith
own_few few (tells answer e) = omega (arith, tells-opened answer e)
own_few {s} {a} few (opens_on x what e1 e2 e3) =
    let room = leb-false HANDLES_MAX (held_count s a) (or_parts (nat_le HANDLES_MAX (held_count s a)) (nat_le NUMBERS_MAX (length s.handles)) e2).0 in
    omega (arith, room)
own_few few (closes h x e1) = omega arith
own_few few (changes_to nodes e1 changed) = omega arith

pub limits_are_kept : LimitsAreKept
limits_are_kept s a step l =
    keeps_limits l (does s a step) (λ b.
    ⊎_elim
    (λ q. subst (λ b. held_count (outcome s a step).after b ≤ HANDLES_MAX) (sym q)
    (let few = own_few (l.held a) (does s a step) in let count = (handles_are_counted s a step).0 in omega (arith, few, count)))
    (λ ne. let same = others_counts_stay s a step b ne in let few = l.held b in omega (arith, same, few))
    (cases_eq b a))
