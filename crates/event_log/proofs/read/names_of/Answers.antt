use Rattle.std.proofs.Common.{◌≡◌, ◌++◌, ◌∷◌, [], ◌∙◌, sym, ap, take}
use Rattle.event_log.specs.Shapes.{pieces_read}
use Rattle.event_log.proofs.Pieces.{piece_is_name, pieces_taken, pieces_left}
use Rattle.event_log.proofs.read.names_of.Goals as goal

pub push_bytes-requires : goal.push_bytes-requires
push_bytes-requires c =
    rw c.first_piece.ensures
    (piece_is_name c.args.count c.loop-at.at c.args.bytes.now c.loop-at.rest.now c.loop-at-test.true c.loop-at.invariant.left c.requires)

pub loop-at-preserved : goal.loop-at-preserved
loop-at-preserved c =
    let left = c.loop-at.invariant.left in
    let pushed : c.push_bytes.new.self ≡ c.loop-at.names ++ c.first_piece.result.now ∷ [] = c.in_ok-push_bytes.ensures.ok in
    let taken = pieces_taken c.args.count c.loop-at.at c.args.bytes.now c.loop-at.rest.now c.loop-at-test.true left in
    record {
      names = pushed ∙ ap (λ ns. ns ++ c.first_piece.result.now ∷ []) c.loop-at.invariant.names
          ∙ ap (λ n. take c.loop-at.at (pieces_read c.args.count c.args.bytes.now) ++ n ∷ []) c.first_piece.ensures ∙ sym taken;
      left = rw c.after_piece-rest.ensures (pieces_left c.args.count c.loop-at.at c.args.bytes.now c.loop-at.rest.now c.loop-at-test.true left);
    }
