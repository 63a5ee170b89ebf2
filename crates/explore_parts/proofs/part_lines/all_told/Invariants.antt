use Rattle.std.proofs.Common.{◌≡◌, ◌++◌, drop}
use Rattle.report_text.specs.Report.{numbered}
use Rattle.explore_parts.specs.PartText.{told_words}
use Rattle.explore_parts.proofs.part_lines.all_told.Given as goal

-- what is written and what is left to write make the whole
abbrev pub invariant-loop-at : goal.invariant-loop-at
invariant-loop-at l = l.out ++ numbered told_words l.at (drop l.at l.all) ≡ l.fn.out ++ numbered told_words 0 l.all
