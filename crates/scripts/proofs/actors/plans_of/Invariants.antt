use Rattle.scripts.specs.Plans.{actor_at}
use Rattle.scripts.proofs.Each.{IsReadSoFar}
use Rattle.scripts.proofs.actors.plans_of.Given as goal

abbrev pub invariant-loop-at : goal.invariant-loop-at
invariant-loop-at l = IsReadSoFar (actor_at l.purpose l.nodes l.version) l.actors l.at l.plans.items
