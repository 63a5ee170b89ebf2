use Rattle.std.proofs.Common.{◌≡◌, ◌≤◌, ◌++◌, drop, vec_len}
use Rattle.explore_parts.specs.declared.asked.TheConstants.{TURNS_MAX}
use Rattle.scripts.specs.Turns.{turns_of}
use Rattle.explore_parts.proofs.options.one_by_one.Given as goal

-- the turns so far and those that are left make the whole
abbrev pub invariant-loop-turns : goal.invariant-loop-turns
invariant-loop-turns l = record {
  whole : l.begin.items ++ turns_of (drop l.turns-index l.said) ≡ turns_of l.said;
  few : vec_len l.begin ≤ TURNS_MAX;
}
