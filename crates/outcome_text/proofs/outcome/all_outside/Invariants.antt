use Rattle.std.proofs.Common.{◌≡◌, ◌++◌, drop}
use Rattle.report_text.specs.Report.{numbered}
use Rattle.outcome_text.specs.Outcome.{outside_line, outside_lines}
use Rattle.outcome_text.proofs.outcome.all_outside.Given as goal

-- what is written and what is left to write make the whole
abbrev pub invariant-loop-actor : goal.invariant-loop-actor
invariant-loop-actor l = l.out ++ numbered outside_line l.actor (drop l.actor l.outside) ≡ l.fn.out ++ outside_lines l.outside
