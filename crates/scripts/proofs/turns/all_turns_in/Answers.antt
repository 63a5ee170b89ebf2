use Rattle.scripts.proofs.Asked.{none_there, all_there}
use Rattle.scripts.proofs.turns.all_turns_in.Goals as goal

pub returns-in_default : goal.returns-in_default
returns-in_default c =
    none_there c.args.pieces.now c.loop-piece.piece-index _ c.loop-piece.all.items c.in_ok-turns.field-0 c.loop-piece-test.true c.in_ok-turns.ensures
    c.in_default.is c.loop-piece.invariant

pub returns : goal.returns
returns c = all_there c.args.pieces.now c.loop-piece.piece-index c.loop-piece.all.items c.loop-piece-test.false c.loop-piece.invariant
