use Rattle.std.proofs.Common.{◌≡◌, ◌++◌, drop}
use Rattle.std.specs.List.{flat_map}
use Rattle.drawings.specs.Text.{heading_row}
use Rattle.drawings.proofs.text.heading_rows.Given as goal

-- what is written and what is left to write make the whole
abbrev pub invariant-loop-head : goal.invariant-loop-head
invariant-loop-head l = l.out ++ flat_map (heading_row l.fn.columns l.fn.colours) (drop l.head-index l.heads) ≡ l.fn.out ++ flat_map (heading_row l.fn.columns l.fn.colours) l.heads
