use Rattle.std.proofs.Common.{◌≡◌, ◌++◌, drop}
use Rattle.report_text.specs.Report.{reply_line, actor_lines, numbered}
use Rattle.report_text.proofs.outcomes.replies_of.Given as goal

-- what is written and what is left to write make the whole
abbrev pub invariant-loop-call : goal.invariant-loop-call
invariant-loop-call l = l.out ++ numbered (reply_line l.fn.actor) l.call (drop l.call l.outcomes) ≡ l.fn.out ++ actor_lines l.fn.actor l.outcomes
