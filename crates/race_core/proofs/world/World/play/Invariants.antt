use Rattle.std.proofs.Common.{◌≡◌, length, take}
use Rattle.race_core.specs.Worlds.{Runs}
use Rattle.race_core.proofs.world.World.play.Given as goal

abbrev pub invariant-loop-actor : goal.invariant-loop-actor
invariant-loop-actor g l = record {
  runs : Runs l.initial.self (take l.actor-index l.schedule) l.self;
  actors : length l.self.seats ≡ length l.initial.self.seats;
}
