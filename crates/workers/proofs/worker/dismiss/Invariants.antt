use Rattle.std.proofs.Common.{◌≡◌, ◌+◌, ◌≤◌, ◌++◌, vec_len, vec_capacity}
use Rattle.std.specs.Vec.Iter.{into_iter_items, into_iter_len}
use Rattle.workers.specs.Work.{sessions_of, lists_of}
use Rattle.workers.proofs.worker.dismiss.Given as goal

abbrev pub invariant-loop-worker : goal.invariant-loop-worker
invariant-loop-worker l = record {
  sessions : l.sessions.items ++ sessions_of (into_iter_items l.worker-iterator) ≡ l.initial.sessions.items ++ sessions_of l.fn.workers.items;
  lists : l.lists.items ++ lists_of (into_iter_items l.worker-iterator) ≡ l.initial.lists.items ++ lists_of l.fn.workers.items;
  for_sessions : vec_len l.sessions + into_iter_len l.worker-iterator ≤ vec_capacity l.sessions;
  for_lists : vec_len l.lists + into_iter_len l.worker-iterator ≤ vec_capacity l.lists;
}
