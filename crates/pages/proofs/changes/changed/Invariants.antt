use Rattle.std.proofs.Common.{◌≡◌, ◌++◌, drop}
use Rattle.report_text.specs.Report.{numbered}
use Rattle.pages.specs.Changes.{changed_one}
use Rattle.pages.proofs.changes.changed.Given as goal

-- what is written and what is left to write make the whole
abbrev pub invariant-loop-h : goal.invariant-loop-h
invariant-loop-h l = l.numbers.items ++ numbered (changed_one l.before) l.h (drop l.h l.after) ≡ numbered (changed_one l.before) 0 l.after
