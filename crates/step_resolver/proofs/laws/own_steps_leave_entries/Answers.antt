use Rattle.step_resolver.proofs.Ends.EntriesLeftAlone.{due_tells}
use Rattle.step_resolver.proofs.Underway.OwnSteps.{own_events_leave_nodes}
use Rattle.step_resolver.proofs.laws.own_steps_leave_entries.Goals as goal

pub returns : goal.returns
returns c = record { steps = due_tells; nodes = own_events_leave_nodes }
