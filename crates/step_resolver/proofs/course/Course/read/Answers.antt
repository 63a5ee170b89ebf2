use Rattle.std.proofs.Common.{true}
use Rattle.step_resolver.proofs.WalkAnswers.{unread}
use Rattle.step_resolver.proofs.course.Course.read.Goals as goal

pub returns-in_default : goal.returns-in_default
returns-in_default c =
    let fails = unread c.args.self.now.root c.args.place.now c.args.link c.args.self.now.plan c.args.answer (λ text. c.in_default.not-Text text) in
    record { turn = (true, cc (fails, c.fail_with-in_default.ensures.turn, c.refusal_of.ensures)); kept = c.fail_with-in_default.ensures.kept }
