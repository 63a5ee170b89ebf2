use Rattle.std.proofs.Common.{◌≡◌, ◌<◌, ℕ, false, length}
use Rattle.race_core.specs.Worlds.{AllGoToEnd, numbers_below, is_busy_at}
use Rattle.race_core.proofs.world.World.all_to_end.Given as goal

abbrev pub invariant-loop-at : goal.invariant-loop-at
invariant-loop-at g l = record {
  rest : AllGoToEnd l.initial.self (numbers_below l.at) l.self;
  actors : length l.self.seats ≡ length l.initial.self.seats;
  over : (i : ℕ) → i < l.at → is_busy_at l.self.seats i ≡ false;
}
