use Rattle.std.proofs.Common.{◌≡◌, ◌++◌, drop}
use Rattle.report_text.specs.Report.{numbered}
use Rattle.outcome_text.specs.Outcome.{named_lines_of, named_lines}
use Rattle.outcome_text.proofs.outcome.named_replies.Given as goal

-- what is written and what is left to write make the whole
abbrev pub invariant-loop-actor : goal.invariant-loop-actor
invariant-loop-actor l = l.out ++ numbered (named_lines_of l.named) l.actor (drop l.actor l.replies) ≡ l.fn.out ++ named_lines l.named l.replies
