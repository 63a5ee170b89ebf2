use Rattle.std.proofs.Common.{◌≡◌, ◌≤◌, ℕ, ◌+◌, ◌^◌, length}
use Rattle.race_core.specs.Worlds.{WorldView}
use Rattle.local_states.specs.Counting.{IsTally}
use Rattle.explore.specs.Effects.{IsSound}
use Rattle.local_states.specs.Keys.{AreRows, AreFew, Grows, IsKey}
use Rattle.local_states.specs.Local.{AreNumbered}
use Rattle.local_states.specs.OutOfMemory.{EndsWell}
use Rattle.explore.proofs.turns.known_turns.KnownTurns.learn.Given as goal

abbrev pub invariant-loop-turn : goal.invariant-loop-turn
invariant-loop-turn g l = record {
  rows : AreRows l.self.components.parts (length l.world.seats);
  numbered : AreNumbered l.world.seats;
  many : length l.key.own.items ≡ length l.world.seats;
  few : (n : ℕ) × ((n ≤ 2 ^ 40 + l._turn) × AreFew n l.key);
  tally : IsTally l.world l.tally;
  told : l.tally.told ≡ l.self.components.told;
  well : EndsWell l.world → EndsWell l.fn.world;
  grows : Grows l.fn.self.components l.self.components;
  sound : (w : WorldView) → IsSound w l.fn.self → IsKey l.fn.self.components w l.fn.world l.fn.key → EndsWell l.world
      → IsSound w l.self × IsKey l.self.components w l.world l.key;
}
