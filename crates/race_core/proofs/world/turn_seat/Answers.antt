use Rattle.std.proofs.Common.{List, get_or}
use Rattle.std.specs.Prelude.{slice_set}
use Rattle.std.proofs.lemmas.Option.{slice_get-get_or}
use Rattle.tree_model.proofs.StepLaws.{slice_get-set_other}
use Rattle.race_core.specs.declared.seat.Seat.{Seat}
use Rattle.race_core.specs.TurnView.{IsCutShort}
use Rattle.race_core.specs.Worlds.{IsCutTurnAt}
use Rattle.race_core.proofs.CutShort.{on_err, cut_in_world}
use Rattle.race_core.proofs.world.turn_seat.Goals as goal

pub returns-clause-cut : goal.returns-clause-cut
returns-clause-cut g c =
    let at = c.args.at in
    let seats : List Seat = c.args.seats.now in
    let old : Seat = get_or seats at c.index-seats-at.result in
    let new : Seat = c.turn.new.self in
    on_err c.turn.result (IsCutShort c.args.book.now old c.turn.new.book new) (IsCutTurnAt c.args.book.now seats at c.turn.new.book (slice_set seats at new))
    (λ cut. cut_in_world c.args.book.now seats at old c.turn.new.book new (slice_get-get_or seats at c.index-seats-at.result c.requires) cut)
    c.turn.ensures.cut

pub returns-clause-others : goal.returns-clause-others
returns-clause-others g c = λ i ne. slice_get-set_other c.args.seats.now c.args.at c.turn.new.self i ne
