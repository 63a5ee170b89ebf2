use Rattle.std.proofs.Common.{◌≡◌, drop}
use Rattle.std.specs.Prelude.{find, nat_le}
use Rattle.explore_command.proofs.search.first_foreign.Given as goal

-- it is the first of what is left
abbrev pub invariant-loop-actor : goal.invariant-loop-actor
invariant-loop-actor l = find (λ i. nat_le l.actors i) (drop l.actor-index l.named) ≡ find (λ i. nat_le l.actors i) l.named
