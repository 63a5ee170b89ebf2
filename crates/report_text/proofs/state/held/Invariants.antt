use Rattle.std.proofs.Common.{◌≡◌, ◌++◌}
use Rattle.report_text.specs.Report.{held_lines}
use Rattle.report_text.proofs.state.held.Given as goal

-- the lines of the actors so far are written
abbrev pub invariant-loop-actor : goal.invariant-loop-actor
invariant-loop-actor g l = l.out ≡ l.fn.out ++ held_lines (g.T.Tree.state l.tree) l.actor
