use Rattle.std.proofs.Common.{◌≡◌, ◌<◌, true, ℕ, List, ◌∙◌, ap, subst, length, arith}
use Rattle.std.specs.Prelude.{nat_lt}
use Rattle.std.proofs.lemmas.Bool.Decides.{nat_tests}
use Rattle.std.proofs.lemmas.List.{length-drop, take_all}
use Rattle.drawings.specs.Cells.{row_end}
use Rattle.drawings.specs.Text.{cell_width, line_row}
use Rattle.drawings.proofs.Lists.{row_more}
use Rattle.drawings.proofs.text.line_rows.Goals as goal

pub loop-at-preserved : goal.loop-at-preserved
loop-at-preserved c =
    let rest = c.loop-at.rest.now in
    let end = c.row_end-end.result in
    let some : nat_lt 0 (length rest) ≡ true = grind (arith, nat_tests) in
    row_more (line_row c.args.actors c.args.columns c.args.colours c.args.line.now) (cell_width c.args.actors c.args.columns) (length c.args.line.now.text) c.loop-at.at end rest _ c.loop-at.out
    c.line_row.new.out _ (subst (λ (text : List ℕ). c.loop-at.at < length text) c.as_slice-text.ensures c.loop-at-test.true) some
    (c.row_end-end.ensures.end ∙ ap (λ width. row_end width rest) c.cell_width.ensures.width) (take_all _ _ (omega (arith, length-drop end rest))) c.in_ok-line_row.ensures c.loop-at.invariant
