use Rattle.std.proofs.Common.{◌≡◌, ◌++◌, drop}
use Rattle.report_text.specs.Report.{numbered}
use Rattle.pages.specs.Changes.{handle_at}
use Rattle.pages.proofs.changes.all_handles.Given as goal

-- what is written and what is left to write make the whole
abbrev pub invariant-loop-at : goal.invariant-loop-at
invariant-loop-at l = l.out ++ numbered (handle_at l.handles) l.at (drop l.at l.numbers) ≡ l.fn.out ++ numbered (handle_at l.handles) 0 l.numbers
