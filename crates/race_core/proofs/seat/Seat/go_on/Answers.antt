use Rattle.std.proofs.Common.{◌≡◌, subst}
use Rattle.root_ops.specs.TurnView.{turn_view}
use Rattle.race_core.specs.Advance.{Advances}
use Rattle.race_core.specs.TurnView.{GoesOn, IsCutGoingOn, LacksEnd, seat_at}
use Rattle.race_core.proofs.CutShort.{on_err, cut_going_on}
use Rattle.race_core.proofs.Starting.{went_on, on_ok}
use Rattle.race_core.proofs.seat.Seat.go_on.Goals as goal

pub returns-in-Some : goal.returns-in-Some
returns-in-Some g c =
    let old = c.args.self.now in
    let book = c.advance-turn.new.book in
    let advanced : Advances c.args.book.now old.ledger.root.owner.actor c.in-Some.call (turn_view c.advance-turn.result) book =
    subst (λ a. Advances c.args.book.now a c.in-Some.call (turn_view c.advance-turn.result) book) c.actor.ensures c.advance-turn.ensures.advances in
    record {
      gone_on = on_ok c.settle.result (c.settle.new.self ≡ seat_at old.ledger c.advance-turn.result) (GoesOn c.args.book.now old book c.settle.new.self)
          (λ settled. went_on c.args.book.now old c.settle.new.self c.in-Some.call book c.advance-turn.result c.in-Some.ensures.value advanced
          c.advance-turn.ensures.kept c.advance-turn.ensures.fewer settled)
          c.settle.ensures.settled;
      cut = on_err c.settle.result (LacksEnd (seat_at old.ledger c.advance-turn.result) c.settle.new.self) (IsCutGoingOn c.args.book.now old book c.settle.new.self)
          (λ lacks. cut_going_on c.args.book.now old c.settle.new.self c.in-Some.call book c.advance-turn.result c.in-Some.ensures.value advanced
          c.advance-turn.ensures.kept lacks)
          c.settle.ensures.cut;
    }
