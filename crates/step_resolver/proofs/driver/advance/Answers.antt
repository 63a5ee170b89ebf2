use Rattle.step_resolver.proofs.DrivenWalks.{advanced_to}
use Rattle.step_resolver.proofs.driver.advance.Goals as goal

pub returns-clause-driven : goal.returns-clause-driven
returns-clause-driven g c =
    advanced_to c.steps_leave_the_rest.ensures.nodes c.args.walk.way c.args.actor _ _ c.args.walk.walking c.answer_to-answer.result c.args.walk.way.goal c.take.result
    c.take.ensures.fewer _ c.due.ensures c.answer_to-answer.ensures c.take.ensures.turn
