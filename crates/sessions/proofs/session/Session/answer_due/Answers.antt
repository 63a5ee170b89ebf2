use Rattle.std.proofs.Common.{◌≡◌, ◌∙◌, refl, inr, ℕ}
use Rattle.root_ops.specs.Order.{due}
use Rattle.tree_model.specs.declared.step.StepOf.TheVariants.{Close}
use Rattle.step_machine.proofs.Closes.{no_close}
use Rattle.root_ops.proofs.Refusals.{unmade}
use Rattle.sessions.proofs.session.Session.answer_due.Goals as goal

pub returns-in-Err : goal.returns-in-Err
returns-in-Err g c =
    let not_close : (h : ℕ) → due c.args.call.now.below c.args.call.now.doing ≡ Close h → ⊥ = λ h e. c.in_default.not-Close h (c.due-step.ensures ∙ e) in
    inr (c.in-Err.error, (unmade c.args.call.now.below c.args.call.now.doing c.in-Err.error c.in-Err.ensures.err.0 (no_close _ not_close), (refl, c.in-Err.ensures.err.1)))
