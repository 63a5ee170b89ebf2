use Rattle.std.proofs.Common.{◌≡◌, take, map}
use Rattle.local_states.specs.declared.keys.Own.{Own}
use Rattle.local_states.proofs.keys.same_parts.Given as goal

abbrev pub invariant-loop-at : goal.invariant-loop-at
invariant-loop-at l = map (λ (o : Own). o.part) (take l.at l.own) ≡ map (λ (o : Own). o.part) (take l.at l.others)
