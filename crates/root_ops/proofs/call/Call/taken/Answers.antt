use Rattle.std.proofs.Common.{◌∙◌, sym, subst, ap}
use Rattle.root_ops.specs.declared.doing.Stage.{Stage}
use Rattle.root_ops.specs.View.{CallView, IsStage, aim_of, call_view}
use Rattle.root_ops.specs.TurnView.{turn_view, TakesTo}
use Rattle.root_ops.proofs.Rooms.{taken_by}
use Rattle.root_ops.proofs.call.Call.taken.Goals as goal

pub returns-in-Walking-clause-turn : goal.returns-in-Walking-clause-turn
returns-in-Walking-clause-turn c =
    let below = c.self.inside.below in
    let ours = subst (λ (stage : Stage). IsStage below stage) c.in-Walking.is c.self.invariant in
    subst (λ (call : CallView). TakesTo call.below call.doing c.args.answer (turn_view c.walked.result))
    (sym (ap (call_view below) c.in-Walking.is) ∙ c.self.view_is)
    (taken_by below (aim_of c.in-Walking.state.value) c.in-Walking.walk c.args.answer c.take-turn.result (turn_view c.walked.result) ours.1.1 c.take-turn.ensures.turn c.walked.ensures.turn)
