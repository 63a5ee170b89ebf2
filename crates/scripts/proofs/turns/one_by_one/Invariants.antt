use Rattle.std.proofs.Common.{◌≡◌, ◌≤◌, ◌++◌, drop, vec_len}
use Rattle.scripts.specs.declared.schedule.TheConstants.{TURNS_MAX}
use Rattle.scripts.specs.Turns.{turns_of}
use Rattle.scripts.proofs.turns.one_by_one.Given as goal

-- the turns so far and those that are left make the whole
abbrev pub invariant-loop-turns : goal.invariant-loop-turns
invariant-loop-turns l = record {
  whole : l.schedule.items ++ turns_of (drop l.turns-index l.asked) ≡ turns_of l.asked;
  few : vec_len l.schedule ≤ TURNS_MAX;
}
