-- What a step of the walk's own leaves: the handles, and what is held.
use Rattle.std.specs.Prelude.{◌≡◌, ℕ, suc, [], ◌∷◌, length, Some}
use Rattle.std.proofs.Common.{sym, ap, subst, ◌∙◌}
use Rattle.tree_model.specs.declared.answer.Answer.{Answer}
use Rattle.tree_model.specs.StepWith.{StepWith}
use Rattle.tree_model.specs.Steps.{outcome, held, with_handle}
use Rattle.step_resolver.specs.Order.{Position, root_itself, holds, handles_of, handle_at}
use Rattle.step_resolver.specs.WalkHistory.{WalkInHistory, state_at}
use Rattle.step_resolver.proofs.Underway.StepOutcomes.{IsMore, IsLess, with_handle-is_more}
use Rattle.step_resolver.proofs.Underway.WalkInvariant.{Lived, StepAt, held_at, IsNotIn, HandlesAre, root_open, held_kept, old_is_other, held_more, held_less, node_at, IsPositionHeld}

-- the two handles in the other order
pub handles_swapped : {w : WalkInHistory} {m h k : ℕ} → HandlesAre w m (h ∷ k ∷ []) → HandlesAre w m (k ∷ h ∷ [])
handles_swapped are = record { others = λ x out. are.others x (out.1.0, (out.0, tt)); fresh = (are.fresh.1.0, (are.fresh.0, tt)) }

-- a step that changes nothing
pub kept_on : {w : WalkInHistory} {now t : ℕ} {step : StepWith ℕ} {answer : Answer} → StepAt w now t step answer
    → (outcome (state_at w t) w.actor step).after ≡ state_at w t → (h : ℕ) → held_at w (suc t) h ≡ held_at w now h
kept_on {w} is same h = ap (λ s. held s w.actor h) (is.after ∙ same) ∙ is.kept h

-- a step that opens
pub more_on : {w : WalkInHistory} {now t : ℕ} {step : StepWith ℕ} {answer : Answer} → StepAt w now t step answer → (x : ℕ)
    → (outcome (state_at w t) w.actor step).after ≡ with_handle (state_at w t) w.actor x
    → IsMore (state_at w t) w.actor (state_at w (suc t)) (length (state_at w t).handles) x
more_on {w} {t = t} is x same =
    subst (λ s. IsMore (state_at w t) w.actor s (length (state_at w t).handles) x) (sym (is.after ∙ same)) (with_handle-is_more (state_at w t) w.actor x)

-- a place is open through its handle
pub position_open : {w : WalkInHistory} → Lived w → (now : ℕ) (position : Position) → IsPositionHeld w now position → HandlesAre w now (handles_of position)
    → held_at w now (handle_at w.way position) ≡ Some (node_at w position)
position_open lived now root_itself is are = root_open lived are
position_open lived now (holds handle names) is are = is.is_open

pub position_kept : (w : WalkInHistory) (m t : ℕ) (position : Position) → ((k : ℕ) → held_at w t k ≡ held_at w m k) → IsPositionHeld w m position → IsPositionHeld w t position
position_kept w m t root_itself kept is = tt
position_kept w m t (holds handle names) kept is = held_kept kept is

pub position_more : (w : WalkInHistory) (t : ℕ) {h x : ℕ} (position : Position) → IsMore (state_at w t) w.actor (state_at w (suc t)) h x
    → IsPositionHeld w t position → IsPositionHeld w (suc t) position
position_more w t root_itself new is = tt
position_more w t (holds handle names) new is = held_more new is

-- what is opened next isn't the place's handle
pub new_is_other : (w : WalkInHistory) (t : ℕ) {h x : ℕ} (position : Position) → IsMore (state_at w t) w.actor (state_at w (suc t)) h x
    → IsPositionHeld w t position → IsNotIn h (handles_of position)
new_is_other w t root_itself new is = tt
new_is_other w t (holds handle names) new is = ((λ e. old_is_other is new (sym e)), tt)

-- a place stays held when another handle is closed
pub position_less : (w : WalkInHistory) (t : ℕ) {h : ℕ} (position : Position) → IsLess (state_at w t) w.actor (state_at w (suc t)) h → IsNotIn h (handles_of position)
    → IsPositionHeld w t position → IsPositionHeld w (suc t) position
position_less w t root_itself gone out is = tt
position_less w t (holds handle names) gone out is = held_less gone (λ e. out.0 (sym e)) is
