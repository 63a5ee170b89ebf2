use Rattle.std.proofs.Common.{◌≡◌, ◌++◌, drop}
use Rattle.report_text.specs.Report.{event_line, event_lines, numbered}
use Rattle.report_text.proofs.history.events.Given as goal

-- what is written and what is left to write make the whole
abbrev pub invariant-loop-at : goal.invariant-loop-at
invariant-loop-at l = l.out ++ numbered event_line l.at (drop l.at l.log.events) ≡ l.fn.out ++ event_lines l.log.events
