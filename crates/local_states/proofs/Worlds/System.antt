-- The laws of a world as a system.
use Rattle.std.specs.Prelude.{◌≡◌, ◌<◌, ℕ, zero, suc, List, [], ◌∷◌, Bool, true, false, is_some, length, Option, Some, None, slice_get, refl}
use Rattle.std.proofs.lemmas.Bool.{or_parts}
use Rattle.std.proofs.Common.{subst, arith}
use Rattle.layered_search.specs.System.{IsSystem, AreOutcomes}
use Rattle.race_core.specs.declared.seat.Seat.{Seat}
use Rattle.race_core.specs.TurnView.{are_some}
use Rattle.race_core.specs.Worlds.{WorldView, is_busy_in, is_busy_at, is_within_in}
use Rattle.local_states.specs.Worlds.{after_turns, worlds, world_outcomes, same}
use Rattle.local_states.proofs.Lists.Runs.{actors_stay}
use Rattle.local_states.proofs.Worlds.Ends.{tell_same, tell_turned, tell_on, worlds_tell, worlds_same}
use Rattle.local_states.proofs.Worlds.Like.{like_turns, like_trans, like_busy, like_within, like_agree}

pub busy_within : (seats : List Seat) (i : ℕ) → is_busy_at seats i ≡ true → i < length seats
busy_within [] i busy = absurd (cc)
busy_within (seat ∷ seats) zero busy = omega arith
busy_within (seat ∷ seats) (suc i) busy = let rest = busy_within seats i busy in omega arith

idle_outside : (seat : Option Seat) → is_busy_in seat ≡ false → is_within_in seat ≡ false
idle_outside None idle = refl
idle_outside (Some seat) idle = (or_parts (is_some seat.doing) (are_some seat.ledger.to_come) idle).0

pub worlds_are_system : (told : Bool) (w : WorldView) → IsSystem (worlds told w)
worlds_are_system told w = record {
  few = λ is i busy. subst (λ n. i < n) (actors_stay w is) (busy_within (after_turns w is).seats i busy);
  idle_outside = λ is i idle. idle_outside (slice_get (after_turns w is).seats i) idle;
  alike_itself = λ v. same v;
  alike_on = λ v u w there on. like_trans {w = v} {u = u} {v = w} there on;
  alike_turns = λ v w i like. like_turns {w = v} {v = w} i like;
  alike_busy = λ v w i like. like_busy {w = v} {v = w} i like;
  alike_within = λ v w i like. like_within {w = v} {v = w} i like;
  alike_agree = λ v w like. like_agree {w = v} {v = w} like;
  agree_itself = λ v. tell_same told v;
  agree_back = λ v w agree. tell_turned told v w agree;
  agree_on = λ v u w agree on. tell_on told v u w agree on;
}

pub worlds_have_outcomes : (told : Bool) (w : WorldView) → AreOutcomes (worlds told w) (world_outcomes told)
worlds_have_outcomes told w = record {
  same_agree = λ u v one other here there same. worlds_tell told u v one other here there same;
  agree_same = λ u v one other here there agree. worlds_same told u v one other here there agree;
}
