use Rattle.std.proofs.Common.{◌≡◌, sym, ◌∙◌, refl, arith}
use Rattle.event_log.specs.Shapes.{first_piece}
use Rattle.event_log.proofs.Pieces.{counts_differ, texts_apart, texts_same, names_differ, names_agree, names_all_agree, pieces_left}
use Rattle.event_log.proofs.compare.are_names.Goals as goal

pub returns-then-len-count : goal.returns-then-len-count
returns-then-len-count c =
    ((λ t. absurd (cc)), (λ e. absurd (counts_differ c.args.count c.len.result c.args.bytes.now c.args.names.now c.len.ensures.count c.if-len-count.true e)))

pub returns-then-ne : goal.returns-then-ne
returns-then-ne c =
    let apart : first_piece c.loop-at.rest.now ≡ c.get.result.now → ⊥ =
    λ q. texts_apart c.ne.result c.first_piece.result.now c.get.result.now c.ne.ensures c.if-ne.true (c.first_piece.ensures ∙ q) in (
      (λ t. absurd (cc)),
      (λ e. absurd (names_differ c.args.count c.loop-at.at c.args.bytes.now c.loop-at.rest.now c.get.result.now c.args.names.now
          c.loop-at-test.true c.loop-at.invariant.left c.get.ensures.same apart e)),
    )

pub loop-at-preserved : goal.loop-at-preserved
loop-at-preserved c =
    let same : first_piece c.loop-at.rest.now ≡ c.get.result.now =
    sym c.first_piece.ensures ∙ texts_same c.ne.result c.first_piece.result.now c.get.result.now c.ne.ensures c.if-ne.false in
    record {
      same = names_agree c.args.count c.loop-at.at c.args.bytes.now c.loop-at.rest.now c.get.result.now c.args.names.now
          c.loop-at-test.true c.loop-at.invariant.left c.get.ensures.same same c.loop-at.invariant.same;
      left = rw c.after_piece-rest.ensures (pieces_left c.args.count c.loop-at.at c.args.bytes.now c.loop-at.rest.now c.loop-at-test.true c.loop-at.invariant.left);
    }

pub returns : goal.returns
returns c =
    ((λ t. names_all_agree c.args.count c.loop-at.at c.len.result c.args.bytes.now c.args.names.now (omega (arith, c.loop-at-test.false)) c.len.ensures.count (cc) c.loop-at.invariant.same), (λ e. refl))
