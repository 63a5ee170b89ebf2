use Rattle.std.proofs.Common.{subst}
use Rattle.tree_model.specs.declared.answer.Answer.TheVariants.{Refused}
use Rattle.race_core.specs.Advance.{IsStepped}
use Rattle.race_core.proofs.Stepping.{made, refused}
use Rattle.race_core.proofs.advance.answer_due.Goals as goal

pub returns-in-Ok : goal.returns-in-Ok
returns-in-Ok g c =
    subst (λ step. IsStepped c.args.book.now c.args.actor step c.in-Ok.answer c.step.new.self) c.due.ensures
    (made c.args.book.now c.args.actor c.due.result c.in-Ok.answer c.step.new.self c.in-Ok.ensures.answer c.in-Ok.ensures.after)

pub returns-in-Err : goal.returns-in-Err
returns-in-Err g c =
    subst (λ step. IsStepped c.args.book.now c.args.actor step (Refused c.in-Err.error) c.step.new.self) c.due.ensures
    (refused c.args.book.now c.args.actor c.due.result c.in-Err.error c.step.new.self c.in-Err.ensures.answer c.in-Err.ensures.after)
