use Rattle.std.proofs.Common.{◌≡◌, ◌<◌, ◌≤◌}
use Rattle.drawings.specs.Cells.{last_blank}
use Rattle.drawings.proofs.cells.last_blank.Given as goal

-- the last blank of the places so far is found
abbrev pub invariant-loop-at : goal.invariant-loop-at
invariant-loop-at l = record {
  found : l.found ≡ last_blank l.fn.last l.fn.text l.at;
  some : 0 < l.found;
  within : l.found ≤ l.fn.last;
}
