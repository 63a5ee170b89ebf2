use Rattle.std.proofs.Common.{◌≡◌, ◌≤◌, drop}
use Rattle.drawings.specs.Svg.{widest}
use Rattle.drawings.proofs.svg.widest.Given as goal

-- the lines that are left widen what there is to the whole
abbrev pub invariant-loop-head : goal.invariant-loop-head
invariant-loop-head l = record {
  whole : widest l.width (drop l.head-index l.heads) ≡ widest l.fn.columns l.heads;
  small : l.width ≤ 8016;
}
