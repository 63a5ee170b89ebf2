use Rattle.std.proofs.Common.{◌≡◌, ◌++◌}
use Rattle.drawings.specs.Text.{cells, tone_shown, shown}
use Rattle.drawings.proofs.text.cells.Given as goal

-- the cells of the actors so far are written
abbrev pub invariant-loop-actor : goal.invariant-loop-actor
invariant-loop-actor l = l.out ≡ l.fn.out ++ cells l.actor l.fn.width l.fn.colours (tone_shown l.line) (shown l.line l.piece)
