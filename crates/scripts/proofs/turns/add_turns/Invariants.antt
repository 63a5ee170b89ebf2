use Rattle.std.proofs.Common.{◌≡◌, ◌++◌}
use Rattle.std.specs.Prelude.{replicate}
use Rattle.scripts.proofs.turns.add_turns.Given as goal

-- so many turns were added
abbrev pub invariant-loop-taken : goal.invariant-loop-taken
invariant-loop-taken l = l.schedule.items ≡ l.fn.schedule.items ++ replicate l.taken l.fn.turns.actor
