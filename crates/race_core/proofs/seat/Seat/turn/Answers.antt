use Rattle.race_core.specs.TurnView.{GoesOn, IsTurned, IsCutGoingOn, IsCutShort}
use Rattle.race_core.proofs.CutShort.{on_err, on_any, cut_first, cut_later}
use Rattle.race_core.proofs.Starting.{turned_by, on_ok}
use Rattle.race_core.proofs.seat.Seat.turn.Goals as goal

pub returns-clause-turned : goal.returns-clause-turned
returns-clause-turned g c =
    on_ok c.go_on.result (GoesOn c.args.book.now c.start.new.self c.go_on.new.book c.go_on.new.self) (IsTurned c.args.book.now c.args.self.now c.go_on.new.book c.go_on.new.self)
    (λ goes. turned_by c.args.book.now c.args.self.now c.start.new.self c.go_on.new.book c.go_on.new.self c.in_ok-start.ensures.started goes)
    c.go_on.ensures.gone_on

pub returns-clause-cut : goal.returns-clause-cut
returns-clause-cut g c =
    on_err c.go_on.result (IsCutGoingOn c.args.book.now c.start.new.self c.go_on.new.book c.go_on.new.self) (IsCutShort c.args.book.now c.args.self.now c.go_on.new.book c.go_on.new.self)
    (λ cut. cut_later c.args.book.now c.args.self.now c.start.new.self c.go_on.new.book c.go_on.new.self c.in_ok-start.ensures.started cut)
    c.go_on.ensures.cut

pub returns-in_err-start-clause-cut : goal.returns-in_err-start-clause-cut
returns-in_err-start-clause-cut g c =
    on_any c.from_residual.result (IsCutShort c.args.book.now c.args.self.now c.args.book.now c.start.new.self)
    (cut_first c.args.book.now c.args.self.now c.start.new.self c.in_err-start.ensures.cut)
