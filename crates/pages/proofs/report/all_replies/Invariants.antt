use Rattle.std.proofs.Common.{◌≡◌, ◌++◌, drop}
use Rattle.report_text.specs.Report.{numbered}
use Rattle.pages.specs.Run.{reply_at}
use Rattle.pages.proofs.report.all_replies.Given as goal

-- what is written and what is left to write make the whole
abbrev pub invariant-loop-at : goal.invariant-loop-at
invariant-loop-at l = l.out ++ numbered reply_at l.at (drop l.at l.outcomes) ≡ l.fn.out ++ numbered reply_at 0 l.outcomes
