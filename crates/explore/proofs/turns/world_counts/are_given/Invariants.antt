use Rattle.std.proofs.Common.{◌≡◌, ◌<◌, ℕ}
use Rattle.std.specs.Prelude.{Some, slice_get}
use Rattle.race_core.specs.declared.seat.Seat.{Seat}
use Rattle.race_core.specs.Book.{tree_now}
use Rattle.local_states.specs.Local.{AreGiven}
use Rattle.explore.proofs.turns.world_counts.are_given.Given as goal

abbrev pub invariant-loop-actor : goal.invariant-loop-actor
invariant-loop-actor g l = (i : ℕ) (x : Seat) → i < l.actor → slice_get l.world.seats i ≡ Some x → AreGiven (tree_now l.world.book) x
