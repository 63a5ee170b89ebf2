use Rattle.std.proofs.Common.{◌≡◌, ◌++◌, ◌+◌, drop, take}
use Rattle.std.specs.Prelude.{All}
use Rattle.report_text.specs.Report.{numbered}
use Rattle.drawings.specs.DrawingLaws.{IsLine}
use Rattle.drawings.specs.Svg.{svg_line, svg_lines}
use Rattle.drawings.proofs.svg.lines.Given as goal

-- what is written and what is left to write make the whole, and the lines so far are of bytes
abbrev pub invariant-loop-at : goal.invariant-loop-at
invariant-loop-at l = record {
  told : l.out ++ numbered (λ at line. svg_line l.fn.actors (l.fn.heads + at) line) l.at (drop l.at l.lines) ≡ l.fn.out ++ svg_lines l.fn.actors l.fn.heads l.lines;
  bytes : All IsLine (take l.at l.lines);
}
