use Rattle.std.proofs.Common.{◌≡◌, ◌+◌, ◌≤◌, ◌++◌, map, vec_len, vec_capacity}
use Rattle.std.specs.Vec.Iter.{into_iter_items, into_iter_len}
use Rattle.workers.specs.Work.{idle}
use Rattle.workers.proofs.worker.hire.Given as goal

abbrev pub invariant-loop-session : goal.invariant-loop-session
invariant-loop-session l = record {
  workers : l.workers.items ++ map idle (into_iter_items l.session-iterator) ≡ l.initial.workers.items ++ map idle l.fn.sessions.items;
  room : vec_len l.workers + into_iter_len l.session-iterator ≤ vec_capacity l.workers;
}
