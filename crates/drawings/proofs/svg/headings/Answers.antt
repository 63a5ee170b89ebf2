use Rattle.std.proofs.Common.{refl, length, arith, subst}
use Rattle.std.specs.Prelude.{All}
use Rattle.std.proofs.lemmas.List.{take_all}
use Rattle.std.proofs.lemmas.List.Elements.{All-more}
use Rattle.std.proofs.lemmas.Option.{slice_get_read}
use Rattle.report_text.proofs.AddedLines.{numbered_more}
use Rattle.drawings.specs.declared.picture.Head.{Head}
use Rattle.drawings.specs.DrawingLaws.{AreBytes}
use Rattle.drawings.specs.Svg.{svg_heading}
use Rattle.drawings.proofs.svg.headings.Goals as goal

abbrev IsHead : Head → Type 0
IsHead head = AreBytes head.text

pub loop-at-preserved : goal.loop-at-preserved
loop-at-preserved c =
    let heads = c.args.heads.now in
    let at = c.loop-at.at in
    let head = c.index-heads-at.result in
    record {
      told = numbered_more svg_heading heads at head c.loop-at.out c.heading.new.out _ (slice_get_read heads (length heads) at head refl c.loop-at-test.true c.index-heads-at.is)
          c.in_ok-heading.ensures.told c.loop-at.invariant.told;
      bytes = All-more IsHead heads at head c.loop-at-test.true c.loop-at.invariant.bytes (subst IsHead c.index-heads-at.is c.heading.ensures.bytes);
    }

pub returns-clause-bytes : goal.returns-clause-bytes
returns-clause-bytes c = subst (All IsHead) (take_all c.loop-at.at c.args.heads.now (omega (arith, c.loop-at-test.false))) c.loop-at.invariant.bytes
