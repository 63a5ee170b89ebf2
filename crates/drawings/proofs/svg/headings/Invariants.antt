use Rattle.std.proofs.Common.{◌≡◌, ◌++◌, drop, take}
use Rattle.std.specs.Prelude.{All}
use Rattle.report_text.specs.Report.{numbered}
use Rattle.drawings.specs.declared.picture.Head.{Head}
use Rattle.drawings.specs.DrawingLaws.{AreBytes}
use Rattle.drawings.specs.Svg.{svg_heading, svg_headings}
use Rattle.drawings.proofs.svg.headings.Given as goal

-- what is written and what is left to write make the whole, and the lines so far are of bytes
abbrev pub invariant-loop-at : goal.invariant-loop-at
invariant-loop-at l = record {
  told : l.out ++ numbered svg_heading l.at (drop l.at l.heads) ≡ l.fn.out ++ svg_headings l.heads;
  bytes : All (λ (head : Head). AreBytes head.text) (take l.at l.heads);
}
