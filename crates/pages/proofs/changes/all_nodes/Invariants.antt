use Rattle.std.proofs.Common.{◌≡◌, ◌++◌, drop}
use Rattle.report_text.specs.Report.{numbered}
use Rattle.pages.specs.Changes.{node_at}
use Rattle.pages.proofs.changes.all_nodes.Given as goal

-- what is written and what is left to write make the whole
abbrev pub invariant-loop-at : goal.invariant-loop-at
invariant-loop-at l = l.out ++ numbered (node_at l.nodes) l.at (drop l.at l.numbers) ≡ l.fn.out ++ numbered (node_at l.nodes) 0 l.numbers
