use Rattle.std.proofs.Common.{◌≡◌, ◌++◌, drop}
use Rattle.std.specs.List.{flat_map}
use Rattle.drawings.specs.Text.{line_rows}
use Rattle.drawings.proofs.text.all_rows.Given as goal

-- what is written and what is left to write make the whole
abbrev pub invariant-loop-line : goal.invariant-loop-line
invariant-loop-line l = l.out ++ flat_map (line_rows l.fn.actors l.fn.columns l.fn.colours) (drop l.line-index l.lines) ≡ l.fn.out ++ flat_map (line_rows l.fn.actors l.fn.columns l.fn.colours) l.lines
