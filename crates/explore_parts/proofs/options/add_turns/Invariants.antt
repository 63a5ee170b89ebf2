use Rattle.std.proofs.Common.{◌≡◌, ◌++◌}
use Rattle.std.specs.Prelude.{replicate}
use Rattle.explore_parts.proofs.options.add_turns.Given as goal

-- so many turns were added
abbrev pub invariant-loop-taken : goal.invariant-loop-taken
invariant-loop-taken l = l.begin.items ≡ l.fn.begin.items ++ replicate l.taken l.fn.turns.actor
