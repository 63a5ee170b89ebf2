use Rattle.std.proofs.Common.{◌≡◌, ◌++◌, drop}
use Rattle.report_text.specs.Report.{numbered}
use Rattle.explore_parts.specs.PartText.{property_words}
use Rattle.explore_parts.proofs.part_lines.all_properties.Given as goal

-- what is written and what is left to write make the whole
abbrev pub invariant-loop-at : goal.invariant-loop-at
invariant-loop-at l = l.out ++ numbered property_words l.at (drop l.at l.all) ≡ l.fn.out ++ numbered property_words 0 l.all
