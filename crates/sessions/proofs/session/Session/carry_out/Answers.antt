use Rattle.sessions.proofs.Calls.{made_on}
use Rattle.sessions.proofs.session.Session.carry_out.Goals as goal

pub returns-in-More-clause-made : goal.returns-in-More-clause-made
returns-in-More-clause-made g c =
    made_on c.args.request c.in-More.call.below c.args.self.now c.first_turn.new.self c.drive.new.self c.in-More.call.doing c.drive.result
    c.in-More.ensures.kept c.in-More.ensures.led c.drive.ensures.led c.drive.ensures.owned

-- the first turn of a Release is its last
pub returns-in-More-clause-released : goal.returns-in-More-clause-released
returns-in-More-clause-released g c = λ standing is_op. absurd (c.in-More.ensures.released standing is_op)
