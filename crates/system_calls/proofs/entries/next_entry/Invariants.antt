use Rattle.std.proofs.Common.{◌≡◌, length}
use Rattle.system_calls.specs.Entries.{told_in, IsBehind}
use Rattle.system_calls.proofs.entries.next_entry.Given as goal

-- those that were passed over tell of no entry
abbrev pub invariant-loop-rest : goal.invariant-loop-rest
invariant-loop-rest l = (told_in l.records ≡ told_in l.rest) × IsBehind l.records l.rest

abbrev pub decreases-loop-rest : goal.decreases-loop-rest
decreases-loop-rest l = length l.rest
