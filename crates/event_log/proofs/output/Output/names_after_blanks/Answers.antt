use Rattle.event_log.proofs.Lines.{names_more}
use Rattle.event_log.proofs.output.Output.names_after_blanks.Goals as goal

pub loop-at-preserved : goal.loop-at-preserved
loop-at-preserved c =
    names_more c.args.names.now c.loop-at.at c.get.result.now c.args.self.now c.loop-at.self c.text.new.self c.escaped.new.self c.get.ensures.same c.in_ok-text.ensures c.in_ok-escaped.ensures c.loop-at.invariant
