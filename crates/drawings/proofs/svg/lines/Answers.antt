use Rattle.std.proofs.Common.{refl, ◌+◌, length, arith, subst}
use Rattle.std.specs.Prelude.{All}
use Rattle.std.proofs.lemmas.List.{take_all}
use Rattle.std.proofs.lemmas.List.Elements.{All-more}
use Rattle.std.proofs.lemmas.Option.{slice_get_read}
use Rattle.report_text.proofs.AddedLines.{numbered_more}
use Rattle.drawings.specs.DrawingLaws.{IsLine}
use Rattle.drawings.specs.Svg.{svg_line}
use Rattle.drawings.proofs.svg.lines.Goals as goal

pub loop-at-preserved : goal.loop-at-preserved
loop-at-preserved c =
    let lines = c.args.lines.now in
    let at = c.loop-at.at in
    let line = c.index-lines-at.result in
    record {
      told = numbered_more (λ at line. svg_line c.args.actors (c.args.heads + at) line) lines at line c.loop-at.out c.line.new.out _
          (slice_get_read lines (length lines) at line refl c.loop-at-test.true c.index-lines-at.is) c.in_ok-line.ensures.told c.loop-at.invariant.told;
      bytes = All-more IsLine lines at line c.loop-at-test.true c.loop-at.invariant.bytes (subst IsLine c.index-lines-at.is c.in_ok-line.ensures.bytes);
    }

pub returns-clause-bytes : goal.returns-clause-bytes
returns-clause-bytes c = subst (All IsLine) (take_all c.loop-at.at c.args.lines.now (omega (arith, c.loop-at-test.false))) c.loop-at.invariant.bytes
