use Rattle.std.proofs.Common.{◌≡◌, ◌++◌, drop}
use Rattle.report_text.specs.Report.{numbered}
use Rattle.pages.specs.Shown.{line_words}
use Rattle.pages.proofs.picture.lines.Given as goal

-- what is written and what is left to write make the whole
abbrev pub invariant-loop-at : goal.invariant-loop-at
invariant-loop-at l = l.out ++ numbered line_words l.at (drop l.at l.all) ≡ l.fn.out ++ numbered line_words 0 l.all
