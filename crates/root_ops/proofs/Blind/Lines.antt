-- Lines by other numbers lead where those numbers lead, so a call tells by any numbers what each call tells.
use Rattle.std.specs.Prelude.{◌≡◌, ℕ, [], ◌∷◌, true, false, refl}
use Rattle.std.proofs.Common.{sym, ap, ◌∙◌, subst}
use Rattle.path_text.specs.declared.errno.Errno.{Errno}
use Rattle.tree_model.specs.declared.answer.Answer.TheVariants.{Refused}
use Rattle.tree_model.specs.StepWith.{StepWith}
use Rattle.tree_model.specs.declared.step.StepOf.TheVariants as steps
use Rattle.step_resolver.specs.Order.{answered, no_room, not_made, is_close}
use Rattle.root_ops.specs.declared.below.Below.{Below}
use Rattle.root_ops.specs.declared.reply.Reply.{Reply as Told}
use Rattle.root_ops.specs.declared.reply.Reply.TheVariants as told
use Rattle.root_ops.specs.Blind.{LinesLeadBlindly, renumbered, CallsTellByAnyNumbers}
use Rattle.root_ops.specs.EachCall.{EachCallTells}
use Rattle.root_ops.specs.Order.{Doing, CallTurn, releasing, more, ends, take, starts, due, IsUnmade, LeadsTo}
use Rattle.root_ops.specs.Renumbered.{Numbering, step_by, doing_by, call_turn_by, below_by, op_by, reply_by, lines_by, told_by}
use Rattle.root_ops.specs.View.{reply_view}
use Rattle.root_ops.proofs.Blind.Calls.{calls_begin_blindly, steps_are_due_blindly, answers_are_taken_blindly}

-- ---- which steps may be left out

module _ (f : Numbering) where
  step_closing : (step : StepWith ℕ) → is_close (step_by f step) ≡ is_close step
  step_closing (steps.Close h) = refl
  step_closing step = refl

  due_closing : (below : Below) (doing : Doing) → is_close (due (below_by f below) (doing_by f doing)) ≡ is_close (due below doing)
  due_closing below doing = ap is_close (sym (steps_are_due_blindly f below doing)) ∙ step_closing (due below doing)

  unmade_by : (below : Below) (doing : Doing) (error : Errno) → IsUnmade below doing error → IsUnmade (below_by f below) (doing_by f doing) error
  unmade_by below (releasing h) error is = is
  unmade_by below doing error is = (is.0, due_closing below doing ∙ is.1)

-- ---- line by line

pub lines_lead_blindly : LinesLeadBlindly
lines_lead_blindly f below turn [] end led = ap (call_turn_by f) led
lines_lead_blindly f below (more doing) (answered step answer ∷ lines) end led = (
  ap (step_by f) led.0 ∙ steps_are_due_blindly f below doing,
  subst (λ t. LeadsTo (below_by f below) t (lines_by f lines) (call_turn_by f end)) (answers_are_taken_blindly f below true doing answer)
      (lines_lead_blindly f below (take below true doing answer) lines end led.1),
)
lines_lead_blindly f below (more doing) (no_room step answer ∷ lines) end led = (
  ap (step_by f) led.0 ∙ steps_are_due_blindly f below doing,
  subst (λ t. LeadsTo (below_by f below) t (lines_by f lines) (call_turn_by f end)) (answers_are_taken_blindly f below false doing answer)
      (lines_lead_blindly f below (take below false doing answer) lines end led.1),
)
lines_lead_blindly f below (more doing) (not_made error ∷ lines) end led = (
  unmade_by f below doing error led.0,
  subst (λ t. LeadsTo (below_by f below) t (lines_by f lines) (call_turn_by f end)) (answers_are_taken_blindly f below true doing (Refused error))
      (lines_lead_blindly f below (take below true doing (Refused error)) lines end led.1),
)
lines_lead_blindly f below (ends reply) (line ∷ lines) end led = absurd led

-- ---- replies

told_so : (f : Numbering) (reply : Told) → reply_by f (reply_view reply) ≡ reply_view (told_by f reply)
told_so f (told.Opened standing) = refl
told_so f (told.Text text) = refl
told_so f told.Done = refl
told_so f (told.Count n) = refl
told_so f (told.Stepped answer) = refl
told_so f (told.Kept standing) = refl
told_so f (told.Fault error) = refl

-- ---- a call in a history

pub calls_tell_by_any_numbers : EachCallTells → CallsTellByAnyNumbers
calls_tell_by_any_numbers each f c reply leads is =
    each (renumbered f c) (told_by f reply) is
    (subst (λ (t : CallTurn). LeadsTo (below_by f c.below) (starts (below_by f c.below) c.room (op_by f c.op)) (lines_by f c.lines) t) (ap ends (told_so f reply))
    (subst (λ (t : CallTurn). LeadsTo (below_by f c.below) t (lines_by f c.lines) (ends (reply_by f (reply_view reply)))) (calls_begin_blindly f c.below c.room c.op)
    (lines_lead_blindly f c.below (starts c.below c.room c.op) c.lines (ends (reply_view reply)) leads)))
