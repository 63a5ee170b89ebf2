use Rattle.std.proofs.Common.{◌≡◌, ◌∷◌, take, map}
use Rattle.local_states.specs.declared.keys.Own.{Own}
use Rattle.local_states.specs.Fingerprint.{mixed}
use Rattle.local_states.proofs.keys.Key.print.Given as goal

abbrev pub invariant-loop-own : goal.invariant-loop-own
invariant-loop-own l = l.print.0 ≡ mixed 0 (l.self.nodes ∷ l.self.events ∷ l.self.opened ∷ l.self.closed ∷ map (λ (o : Own). o.part) (take l.own-index l.self.own.items))
