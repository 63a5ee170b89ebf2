use Rattle.std.proofs.Common.{◌≤◌, suc, arith}
use Rattle.sessions.proofs.Logs.{made}
use Rattle.sessions.proofs.session.Session.make.Goals as goal

pub invariant_of-self-2 : goal.invariant_of-self-2
invariant_of-self-2 g c =
    let left : c.in-Some.lines ≤ suc c.make.new.own.room = c.in_ok-answer.ensures.own_room in
    made c.self.inside.log.events c.make.new.own.events c.self.inside.open_handles c.self.inside.log.room c.in-Some.lines c.make.new.own.room
    c.opened_count.result c.self.inside.owner.actor c.args.step.now c.in_ok-answer.answer c.self.invariant c.requires
    c.in_ok-answer.ensures.own c.opened_count.ensures (omega (arith, c.in-Some.ensures)) left
