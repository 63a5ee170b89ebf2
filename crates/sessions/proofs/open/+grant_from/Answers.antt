use Rattle.std.proofs.Common.{◌∙◌, sym}
use Rattle.sessions.proofs.Opens.{sessions_on, back_on, as_it_is, when_ok}
use Rattle.sessions.proofs.open.+grant_from.Goals as goal

pub returns-then-is_err-clause-tree : goal.returns-then-is_err-clause-tree
returns-then-is_err-clause-tree g t c =
    back_on (g.T.Tree.state c.args.tree.now) (g.T.Tree.state c.grant.new.self) c.args.place c.new-actor.result c.in-Ok.handle c.in-Some.names.now c.in-Some.others.now c.args.roots.now
    c.new-actor.ensures c.in-Some.ensures.some c.in-Ok.ensures (g.T.Tree.state c.grant.new.self) (g.T.Tree.state c.take_back.new.tree) (as_it_is (g.T.Tree.state c.grant.new.self)) c.take_back.ensures

pub returns-in-Err-grant_from-clause-tree : goal.returns-in-Err-grant_from-clause-tree
returns-in-Err-grant_from-clause-tree g t c =
    back_on (g.T.Tree.state c.args.tree.now) (g.T.Tree.state c.grant.new.self) c.args.place c.new-actor.result c.in-Ok.handle c.in-Some.names.now c.in-Some.others.now c.args.roots.now
    c.new-actor.ensures c.in-Some.ensures.some c.in-Ok.ensures (g.T.Tree.state c.grant_from.new.tree) (g.T.Tree.state c.take_back-in-Err-grant_from.new.tree)
    c.in-Err-grant_from.ensures.tree c.take_back-in-Err-grant_from.ensures

pub returns-in-Ok-grant_from-clause-sessions : goal.returns-in-Ok-grant_from-clause-sessions
returns-in-Ok-grant_from-clause-sessions g t c =
    sessions_on (g.T.Tree.state c.args.tree.now) (g.T.Tree.state c.grant.new.self) c.args.place c.new-actor.result c.in-Ok.handle c.in-Some.names.now c.in-Some.others.now c.args.roots.now
    c.new-actor.ensures c.in-Some.ensures.some c.in-Ok.ensures c.args.tag c.args.sessions.now.items c.add_session.new.sessions.items c.grant_from.new.sessions.items
    (when_ok c.add_session.result _ (sym c.is_err.ensures.value ∙ c.if-is_err.false) c.add_session.ensures) c.in-Ok-grant_from.ensures.sessions
