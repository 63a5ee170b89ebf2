use Rattle.std.proofs.Common.{◌≡◌, ◌+◌, length, take, drop}
use Rattle.std.specs.HashMap.{hash_map_len}
use Rattle.outcome_text.specs.Looks.{AreSums}
use Rattle.outcome_text.specs.Survey.{new_among, new_ones}
use Rattle.outcome_text.proofs.looks.sums_of.Given as goal

-- it has the lists of those so far, and as many looks as are new among them
abbrev pub invariant-loop-told : goal.invariant-loop-told
invariant-loop-told l = record {
  looks : hash_map_len l.sums + length (new_among (take l.told-index l.all) (drop l.told-index l.all)) ≡ length (new_ones l.all);
  sums : AreSums l.sums (take l.told-index l.all);
}
