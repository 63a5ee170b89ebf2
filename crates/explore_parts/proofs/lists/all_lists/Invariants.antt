use Rattle.std.proofs.Common.{◌≡◌, ◌++◌, drop}
use Rattle.report_text.specs.Report.{numbered}
use Rattle.explore_parts.specs.Lists.{list_words}
use Rattle.explore_parts.proofs.lists.all_lists.Given as goal

-- what is written and what is left to write make the whole
abbrev pub invariant-loop-at : goal.invariant-loop-at
invariant-loop-at l = l.out ++ numbered (λ at one. list_words at one.items) l.at (drop l.at l.all) ≡ l.fn.out ++ numbered (λ at one. list_words at one.items) 0 l.all
