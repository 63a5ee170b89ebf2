use Rattle.std.proofs.Common.{◌<◌, length}
use Rattle.std.specs.Prelude.{IfSome}
use Rattle.explore.proofs.turns.known_turns.KnownTurns.next_actor.Given as goal

abbrev pub invariant-loop-at : goal.invariant-loop-at
invariant-loop-at g l = record {
  next : IfSome l.next (λ actor. actor < length l.world.seats);
}
