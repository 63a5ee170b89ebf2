use Rattle.std.proofs.Common.{◌≡◌, map, length}
use Rattle.std.specs.List.{All}
use Rattle.local_states.specs.declared.keys.Own.{Own}
use Rattle.explore.proofs.turns.known_turns.KnownTurns.first_key.Given as goal

abbrev pub invariant-loop-actor : goal.invariant-loop-actor
invariant-loop-actor g l = record {
  many : length l.own.items ≡ l._actor;
  none : All (λ n. n ≡ 0) (map (λ (o : Own). o.outside) l.own.items);
}
