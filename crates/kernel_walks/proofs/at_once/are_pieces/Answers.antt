use Rattle.std.proofs.Common.{rules, sym, ◌∙◌}
use Rattle.std.specs.Prelude.{◌==◌}
use Rattle.std.proofs.lemmas.Iterator.Consumers.{YieldsList-turn, YieldsList-end}
use Rattle.std.proofs.lemmas.Iterator.Splits.{YieldsList-from_slice_split}
use Rattle.std.proofs.lemmas.List.{length_push}
use borrow.Author.Tests.{tests}
use Rattle.path_text.specs.declared.name.TheConstants.{SLASH}
use Rattle.kernel_walks.specs.AtOnce.{fits_piece}
use Rattle.kernel_walks.proofs.PiecesSeen.{one_other, one_piece_more, all_pieces}
use Rattle.kernel_walks.proofs.at_once.are_pieces.Goals as goal

pub returns-then-not-fits_piece : goal.returns-then-not-fits_piece
returns-then-not-fits_piece c =
    let chain = YieldsList-from_slice_split _ (λ b. b == SLASH) c.args.text.now (cc) (cc) (cc) (λ x b q k. search (rules, tests)) in
    let t = YieldsList-turn chain c.loop-piece.yielded _ c.loop-piece.yielded_by _ _ c.in-Some.piece c.in-Some.is c.next.ensures.steps in
    one_other fits_piece _ _ _ t (sym c.fits_piece.ensures ∙ c.if-not-fits_piece.true)

pub loop-piece-preserved : goal.loop-piece-preserved
loop-piece-preserved c =
    let chain = YieldsList-from_slice_split _ (λ b. b == SLASH) c.args.text.now (cc) (cc) (cc) (λ x b q k. search (rules, tests)) in
    let t = YieldsList-turn chain c.loop-piece.yielded _ c.loop-piece.yielded_by _ _ c.in-Some.piece c.in-Some.is c.next.ensures.steps in
    one_piece_more fits_piece _ _ _ _ t (length_push c.loop-piece.yielded c.in-Some.piece) c.loop-piece.invariant
    (sym c.fits_piece.ensures ∙ c.if-not-fits_piece.false)

pub returns : goal.returns
returns c =
    let chain = YieldsList-from_slice_split _ (λ b. b == SLASH) c.args.text.now (cc) (cc) (cc) (λ x b q k. search (rules, tests)) in
    let t = YieldsList-end chain c.loop-piece.yielded _ c.loop-piece.yielded_by _ _ c.in-None.is c.next.ensures.steps in
    all_pieces fits_piece _ _ c.loop-piece.invariant t.1
