use Rattle.std.proofs.Common.{◌≡◌, ◌≤◌, take, length}
use Rattle.step_resolver.specs.WalkHistory.{own_events}
use Rattle.sessions.proofs.close.is_own.Given as goal

-- so far the log has the actor's events
abbrev pub invariant-loop-at : goal.invariant-loop-at
invariant-loop-at l = record {
  within : l.next ≤ length l.log.events;
  same : take l.next l.log.events ≡ own_events l.actor (take l.at l.events.events);
}
