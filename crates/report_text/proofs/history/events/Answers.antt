use Rattle.report_text.specs.Report.{event_line, event_lines}
use Rattle.std.proofs.Common.{◌++◌, arith}
use Rattle.report_text.proofs.AddedLines.{numbered_next}
use Rattle.report_text.proofs.history.events.Goals as goal

pub loop-at-preserved : goal.loop-at-preserved
loop-at-preserved c =
    numbered_next event_line c.args.log.now.events c.loop-at.at c.loop-at.out c.event.new.out (c.args.out.now ++ event_lines c.args.log.now.events)
    (omega (arith, c.loop-at-test.true, c.len-at-end.ensures)) c.in_ok-event.ensures c.loop-at.invariant
