use Rattle.std.proofs.Common.{List}
use Rattle.std.specs.Prelude.{All}
use Rattle.std.specs.Vec.Iter.{into_iter_items}
use Rattle.sessions.specs.Session.{SessionView}
use Rattle.run_command.specs.Jobs.{IsOurs, AreInPlace, AreReleased}
use Rattle.run_command.proofs.jobs.release_all.Given as goal

abbrev pub invariant-loop-standing : goal.invariant-loop-standing
invariant-loop-standing g l = record {
  released : (after : List SessionView) → AreReleased l.service (into_iter_items l.standing-iterator) l.sessions after → AreReleased l.service l.fn.opened.items l.initial.sessions after;
  in_place : AreInPlace l.service l.sessions;
  ours : All (IsOurs l.service) (into_iter_items l.standing-iterator);
}
