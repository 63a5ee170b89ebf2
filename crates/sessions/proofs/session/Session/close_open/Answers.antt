use Rattle.std.proofs.Common.{◌-◌, refl}
use Rattle.sessions.proofs.Logs.{closed}
use Rattle.sessions.proofs.session.Session.close_open.Goals as goal

pub invariant_of-self-2 : goal.invariant_of-self-2
invariant_of-self-2 g c =
    let logged = c.release-closed.ensures.logged c.if-not-closed.false in
    closed c.self.inside.log.events c.release-closed.new.own.events c.self.inside.open_handles (c.self.inside.open_handles - 1) c.self.inside.log.room c.release-closed.new.own.room
    c.self.inside.owner.actor c.args.handle c.self.invariant.counted refl c.self.invariant.in_room logged.0 logged.1
