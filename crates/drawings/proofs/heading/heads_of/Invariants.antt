use Rattle.std.proofs.Common.{◌≡◌, ◌++◌, drop}
use Rattle.report_text.specs.Report.{numbered}
use Rattle.drawings.specs.Picture.{actor_heads, heads_of}
use Rattle.drawings.proofs.heading.heads_of.Given as goal

-- the lines so far and those that are left make the whole
abbrev pub invariant-loop-actor : goal.invariant-loop-actor
invariant-loop-actor l = l.heads.items ++ numbered (actor_heads l.opening l.replies) l.actor (drop l.actor l.calls) ≡ heads_of l.opening l.calls l.replies
