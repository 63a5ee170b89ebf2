use Rattle.std.proofs.Common.{◌≡◌, ◌≤◌, drop}
use Rattle.scripts.specs.Limits.{MOST_LEVELS}
use Rattle.scripts.specs.Nesting.{goes_too_deep, is_too_deep}
use Rattle.scripts.proofs.nesting.is_too_deep.Given as goal

-- no place so far is too deep
abbrev pub invariant-loop-byte : goal.invariant-loop-byte
invariant-loop-byte l = record {
  levels : l.place.levels ≤ MOST_LEVELS;
  same : goes_too_deep l.place (drop l.byte-index l.text) ≡ is_too_deep l.text;
}
