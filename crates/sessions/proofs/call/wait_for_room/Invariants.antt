use Rattle.std.proofs.Common.{◌≡◌, ◌≤◌}
use Rattle.sessions.proofs.call.wait_for_room.Given as goal

-- nothing was lost while it waited
abbrev pub invariant-loop : goal.invariant-loop
invariant-loop g l =
    record {
      iterating : (goal.iterator-loop g).can_next l.iterator' × (goal.iterator-loop g).is_finite l.iterator';
      events : l.log.events ≡ l.fn.log.events;
      room : l.fn.log.room ≤ l.log.room;
    }
