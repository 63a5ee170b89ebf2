use Rattle.std.proofs.Common.{◌≡◌, ◌≢◌, ℕ, length, slice_get}
use Rattle.race_core.specs.Worlds.{Runs, again, turns_at}
use Rattle.race_core.proofs.world.World.to_end.Given as goal

abbrev pub invariant-turns : goal.invariant-turns
invariant-turns g l = record {
  turns : ℕ;
  runs : Runs l.initial.self (again l.at turns) l.self;
  actors : length l.self.seats ≡ length l.initial.self.seats;
  others : (i : ℕ) → i ≢ l.at → slice_get l.self.seats i ≡ slice_get l.initial.self.seats i;
}

abbrev pub decreases-turns : goal.decreases-turns
decreases-turns g l = turns_at l.self.seats l.at
