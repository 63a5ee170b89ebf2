use Rattle.std.proofs.Common.{◌≡◌, take, length}
use Rattle.local_states.specs.Counting.{IsTally}
use Rattle.race_core.specs.Worlds.{Runs}
use Rattle.explore.proofs.worlds.replayed.take_turns.Given as goal

abbrev pub invariant-loop-actor : goal.invariant-loop-actor
invariant-loop-actor g l = record {
  ran : Runs l.fn.world (take l.actor-index l.turns) l.world;
  actors : length l.world.seats ≡ length l.fn.world.seats;
  tally : IsTally l.world l.tally;
  told : l.tally.told ≡ l.fn.tally.told;
}
