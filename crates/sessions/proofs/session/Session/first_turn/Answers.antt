-- The call of a Release begins with its Close.
use Rattle.std.proofs.Common.{◌∙◌, sym}
use Rattle.sessions.proofs.Calls.{is_releasing, releases_handle}
use Rattle.sessions.proofs.session.Session.first_turn.Goals as goal

pub give_back-requires : goal.give_back-requires
give_back-requires g c =
    is_releasing _ c.args.request.op c.in-More-Some.handle c.in-More-Some.call.doing (sym c.released_by-released.ensures ∙ c.in-More-Some.is-1) c.in-More-Some.ensures.turn

pub returns-in-More-Some-clause-released : goal.returns-in-More-Some-clause-released
returns-in-More-Some-clause-released g c =
    λ standing is_op. c.give_back.ensures.released standing
    (releases_handle c.args.request.op standing c.in-More-Some.handle is_op (sym c.released_by-released.ensures ∙ c.in-More-Some.is-1))
