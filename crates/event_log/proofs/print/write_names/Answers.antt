use Rattle.event_log.proofs.Printed.{piece_written}
use Rattle.event_log.proofs.print.write_names.Goals as goal

pub loop-at-preserved : goal.loop-at-preserved
loop-at-preserved c =
    rw (c.after_piece-rest.ensures)
    (piece_written c.args.count c.loop-at.at c.args.mark.now c.args.bytes.now c.loop-at.rest.now c.args.out.now c.loop-at.out c.text.new.self c.escaped.new.self
    c.loop-at-test.true c.in_ok-text.ensures (rw (← c.first_piece.ensures) c.in_ok-escaped.ensures) c.loop-at.invariant)
