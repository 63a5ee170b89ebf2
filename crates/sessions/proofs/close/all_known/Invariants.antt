use Rattle.std.proofs.Common.{ℕ, ◌≡◌, ◌<◌, slice_get, Some}
use Rattle.tree_model.specs.declared.answer.Event.{Event}
use Rattle.sessions.proofs.close.all_known.Given as goal

abbrev pub invariant-loop-at : goal.invariant-loop-at
invariant-loop-at l = (t : ℕ) (event : Event) → t < l.at → slice_get l.events.events t ≡ Some event → event.actor < l.count
