use Rattle.std.proofs.Common.{◌≡◌, ◌++◌}
use Rattle.drawings.specs.Svg.{svg_columns}
use Rattle.drawings.proofs.svg.columns.Given as goal

-- the columns of the actors so far are written
abbrev pub invariant-loop-actor : goal.invariant-loop-actor
invariant-loop-actor l = l.out ≡ l.fn.out ++ svg_columns l.fn.heads l.fn.end l.actor
