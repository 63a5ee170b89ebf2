use Rattle.std.proofs.Common.{◌<◌, ◌∙◌, sym, arith}
use Rattle.race_core.proofs.Booked.{close_frees, book_closed, book_unclosed}
use Rattle.race_core.proofs.book.Book.close.Goals as goal

pub invariant_of-self : goal.invariant_of-self
invariant_of-self g c =
    book_unclosed c.self.inside.opening (g.T.Tree.state c.self.inside.tree) (g.T.Tree.state c.close_handle.new.tree) c.self.inside.events.events
    c.self.inside.lines c.self.inside.open_handles c.self.inside.events.room c.args.actor c.args.handle c.self.invariant
    (sym c.close_handle.ensures.was_held ∙ c.if-not-close_handle.true) c.close_handle.ensures.after

pub push_close-requires : goal.push_close-requires
push_close-requires g c =
    (close_frees c.self.inside.opening (g.T.Tree.state c.self.inside.tree) c.self.inside.events.events c.self.inside.lines c.self.inside.open_handles c.self.inside.events.room
    c.args.actor c.args.handle c.self.invariant (sym c.close_handle.ensures.was_held ∙ c.if-not-close_handle.false)).1

pub overflow_sub-self : goal.overflow_sub-self
overflow_sub-self g c =
    let some : 0 < c.self.inside.open_handles =
    (close_frees c.self.inside.opening (g.T.Tree.state c.self.inside.tree) c.self.inside.events.events c.self.inside.lines c.self.inside.open_handles c.self.inside.events.room
    c.args.actor c.args.handle c.self.invariant (sym c.close_handle.ensures.was_held ∙ c.if-not-close_handle.false)).0 in
    omega (arith, some)

pub invariant_of-self-2 : goal.invariant_of-self-2
invariant_of-self-2 g c =
    book_closed c.self.inside.opening (g.T.Tree.state c.self.inside.tree) (g.T.Tree.state c.close_handle.new.tree) c.self.inside.events.events c.push_close.new.self.events
    c.self.inside.lines c.self.inside.open_handles c.self.inside.events.room c.push_close.new.self.room c.args.actor c.args.handle c.self.invariant
    (sym c.close_handle.ensures.was_held ∙ c.if-not-close_handle.false) c.close_handle.ensures.after c.push_close.ensures.events c.push_close.ensures.room
