use Rattle.std.proofs.Common.{◌≡◌, ◌++◌, drop}
use Rattle.report_text.specs.Report.{numbered}
use Rattle.pages.specs.Changes.{moved_one}
use Rattle.pages.proofs.changes.moved.Given as goal

-- what is written and what is left to write make the whole
abbrev pub invariant-loop-x : goal.invariant-loop-x
invariant-loop-x l = l.numbers.items ++ numbered (moved_one l.before) l.x (drop l.x l.after) ≡ numbered (moved_one l.before) 0 l.after
