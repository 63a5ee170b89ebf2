use Rattle.std.proofs.Common.{◌≡◌, ◌++◌, drop}
use Rattle.report_text.specs.Report.{actor_lines, reply_lines, numbered}
use Rattle.report_text.proofs.outcomes.replies.Given as goal

-- what is written and what is left to write make the whole
abbrev pub invariant-loop-actor : goal.invariant-loop-actor
invariant-loop-actor l = l.out ++ numbered actor_lines l.actor (drop l.actor l.replies) ≡ l.fn.out ++ reply_lines l.replies
