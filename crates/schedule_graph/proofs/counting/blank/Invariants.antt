use Rattle.std.proofs.Common.{◌≡◌, None, replicate}
use Rattle.schedule_graph.proofs.counting.blank.Given as goal

abbrev pub invariant-loop : goal.invariant-loop
invariant-loop l = l.counts.items ≡ replicate l.counter (record { words = 0; longest = 0; least = None })
