use Rattle.std.proofs.Common.{drop, map}
use Rattle.scripts.proofs.Asked.{IsSaidSoFar}
use Rattle.scripts.proofs.turns.all_turns_in.Given as goal

abbrev pub invariant-loop-piece : goal.invariant-loop-piece
invariant-loop-piece l = IsSaidSoFar (map (λ piece. piece.now) l.pieces) (map (λ piece. piece.now) (drop l.piece-index l.pieces)) l.all.items
