-- The state in the box is the walk that the contract sees.
use Rattle.std.proofs.Common.{sym}
use Rattle.step_resolver.proofs.walk.Walk.passed.Goals as goal

pub returns-in-Opening-clause-turn : goal.returns-in-Opening-clause-turn
returns-in-Opening-clause-turn c = λ _. rw (sym c.self.view_is, sym c.deref_mut.ensures.value, c.in-Opening.is) (rw c.goes_on.ensures at c.opened-next.ensures.turn)
