use Rattle.root_ops.specs.TurnView.{turn_view}
use Rattle.sessions.proofs.Calls.{gives_back, release_ends}
use Rattle.sessions.proofs.session.Session.give_back.Goals as goal

pub returns-clause-led : goal.returns-clause-led
returns-clause-led g c =
    gives_back c.args.call.below c.args.self.now c.release-answer.new.self c.args.call.doing c.args.handle c.release-answer.result (turn_view c.take.result)
    c.requires c.release-answer.ensures c.take.ensures.turn

pub returns-clause-released : goal.returns-clause-released
returns-clause-released g c =
    λ standing same. release_ends c.args.call.below c.args.self.now c.release-answer.new.self c.args.call.doing c.args.handle c.release-answer.result (turn_view c.take.result) standing
    c.requires same c.release-answer.ensures c.take.ensures.turn
