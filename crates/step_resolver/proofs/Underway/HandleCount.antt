-- How many handles an actor holds, where but for one they are those from before.
use Rattle.std.specs.Prelude.{◌≡◌, ◌≢◌, ℕ, zero, suc, ◌+◌, ◌≤◌, ◌==◌, Bool, true, false, cond, List, [], ◌∷◌, slice_get, Option, Some, None, refl}
use Rattle.std.specs.List.{count_by}
use Rattle.std.proofs.Common.{sym, ap, ◌∙◌, arith}
use Rattle.std.proofs.lemmas.List.Sums.{sum_by-cons}
use Rattle.path_text.specs.declared.errno.Errno.TheVariants.{TooMany}
use Rattle.tree_model.specs.declared.answer.Answer.{Answer}
use Rattle.tree_model.specs.declared.answer.Answer.TheVariants.{Refused}
use Rattle.tree_model.specs.declared.inode.OpenHandle.{OpenHandle}
use Rattle.tree_model.specs.StepWith.{StepWith}
use Rattle.tree_model.specs.Entries.{refuse_if}
use Rattle.tree_model.specs.Steps.{outcome, held_count, node_held, is_held_by, is_full}
use Rattle.step_resolver.specs.Order.{Position, root_itself, holds, handles_of}
use Rattle.step_resolver.specs.WalkHistory.{WalkInHistory, begin_of, state_at}
use Rattle.step_resolver.specs.Failures.{MetRefusal, TellsTooMany}
use Rattle.step_resolver.proofs.Underway.WalkInvariant.{StepAt, HandlesAre}

abbrev ones : Option ℕ → ℕ
ones None = 0
ones (Some x) = 1

abbrev weight : ℕ → Option OpenHandle → ℕ
weight a g = cond (is_held_by a g) 1 0

weighs : (a : ℕ) (g : Option OpenHandle) → weight a g ≡ ones (node_held a (Some g))
weighs a None = refl
weighs a (Some open_handle) = on (open_handle.actor == a)
  where
    on : (b : Bool) → cond b 1 0 ≡ ones (refuse_if b (Some open_handle.node) None)
    on true = refl
    on false = refl

light : (a : ℕ) (g : Option OpenHandle) → weight a g ≤ 1
light a g = on (is_held_by a g)
  where
    on : (b : Bool) → cond b 1 0 ≤ 1
    on true = omega arith
    on false = omega arith

counted : (a : ℕ) (g : Option OpenHandle) (gs : List (Option OpenHandle)) → count_by (is_held_by a) (g ∷ gs) ≡ weight a g + count_by (is_held_by a) gs
counted a g gs = sum_by-cons (λ x. cond (is_held_by a x) 1 0) g gs

abbrev handle_in : ℕ → List (Option OpenHandle) → ℕ → Option ℕ
handle_in a gs k = node_held a (slice_get gs k)

same_weight : (a : ℕ) (x y : Option OpenHandle) → node_held a (Some y) ≡ node_held a (Some x) → weight a y ≡ weight a x
same_weight a x y e = weighs a y ∙ ap ones e ∙ sym (weighs a x)

no_weight : (a : ℕ) (y : Option OpenHandle) → node_held a (Some y) ≡ None → weight a y ≡ 0
no_weight a y e = weighs a y ∙ ap ones e

pub same_count : (a : ℕ) (xs ys : List (Option OpenHandle)) → ((k : ℕ) → handle_in a ys k ≡ handle_in a xs k)
    → count_by (is_held_by a) ys ≡ count_by (is_held_by a) xs
same_count a [] [] same = refl
same_count a [] (y ∷ ys) same =
    let rest = same_count a [] ys (λ k. same (suc k)) in
    omega (arith, counted a y ys, no_weight a y (same 0), rest)
same_count a (x ∷ xs) [] same =
    let rest = same_count a xs [] (λ k. same (suc k)) in
    omega (arith, counted a x xs, no_weight a x (sym (same 0)), rest)
same_count a (x ∷ xs) (y ∷ ys) same =
    let rest = same_count a xs ys (λ k. same (suc k)) in
    omega (arith, counted a x xs, counted a y ys, same_weight a x y (same 0), rest)

one_less : (k h : ℕ) → k ≢ h → suc k ≢ suc h
one_less k h ne e = ne (omega (arith, e))

pub one_more : (a : ℕ) (xs ys : List (Option OpenHandle)) (h : ℕ) → ((k : ℕ) → k ≢ h → handle_in a ys k ≡ handle_in a xs k)
    → count_by (is_held_by a) ys ≤ suc (count_by (is_held_by a) xs)
one_more a xs [] h same = omega arith
one_more a [] (y ∷ ys) zero same =
    let rest = same_count a [] ys (λ k. same (suc k) (λ e. cc (e))) in
    omega (arith, counted a y ys, light a y, rest)
one_more a [] (y ∷ ys) (suc h) same =
    let rest = one_more a [] ys h (λ k ne. same (suc k) (one_less k h ne)) in
    omega (arith, counted a y ys, no_weight a y (same 0 (λ e. cc (e))), rest)
one_more a (x ∷ xs) (y ∷ ys) zero same =
    let rest = same_count a xs ys (λ k. same (suc k) (λ e. cc (e))) in
    omega (arith, counted a x xs, counted a y ys, light a y, rest)
one_more a (x ∷ xs) (y ∷ ys) (suc h) same =
    let rest = one_more a xs ys h (λ k ne. same (suc k) (one_less k h ne)) in
    omega (arith, counted a x xs, counted a y ys, same_weight a x y (same 0 (λ e. cc (e))), rest)

-- a walk that holds no more than its place has opened one handle more at most
pub few_held : (w : WalkInHistory) (m : ℕ) (position : Position) → HandlesAre w m (handles_of position)
    → held_count (state_at w m) w.actor ≤ suc (held_count (begin_of w) w.actor)
few_held w m root_itself are =
    let same = same_count w.actor (begin_of w).handles (state_at w m).handles (λ k. are.others k tt) in omega (arith, same)
few_held w m (holds handle names) are =
    one_more w.actor (begin_of w).handles (state_at w m).handles handle.number (λ k ne. are.others k (ne, tt))

-- a step that was refused for want of handles
pub refusal_told : {w : WalkInHistory} {m t : ℕ} {step : StepWith ℕ} {answer : Answer} → StepAt w m t step answer → MetRefusal step w.lines
    → (outcome (state_at w t) w.actor step).answer ≡ Refused TooMany → is_full (state_at w t) w.actor ≡ true
    → held_count (state_at w t) w.actor ≤ suc (held_count (begin_of w) w.actor) → TellsTooMany w
refusal_told {w} {m} {t} {step} {answer} is line told full few = record {
  step = step;
  line = line;
  when = t;
  event = is.event ∙ ap (λ v. Some (record { actor = w.actor; step = step; answer = v })) (is.told ∙ told);
  told = told;
  full = full;
  few = few;
}
