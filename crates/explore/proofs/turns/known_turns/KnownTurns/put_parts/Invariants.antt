use Rattle.std.proofs.Common.{◌≡◌, ◌<◌, ℕ, map}
use Rattle.std.specs.Prelude.{Some, slice_get}
use Rattle.local_states.specs.declared.keys.Own.{Own}
use Rattle.local_states.specs.Keys.{Grows, IsPartAt}
use Rattle.explore.proofs.turns.known_turns.KnownTurns.put_parts.Given as goal

abbrev pub invariant-loop-actor : goal.invariant-loop-actor
invariant-loop-actor g l = record {
  grows : Grows l.fn.self.components l.self-inside.components;
  entries : l.self-inside.memo ≡ l.fn.self.entries;
  start : l.self-inside.start ≡ l.fn.self.start;
  given : l.self-inside.are_given ≡ l.fn.self.are_given;
  outside : map (λ (o : Own). o.outside) l.own ≡ map (λ (o : Own). o.outside) l.fn.own;
  parts : (i : ℕ) (one : Own) → i < l.actor → slice_get l.own i ≡ Some one → IsPartAt l.self-inside.components l.world i one.part;
}
