use Rattle.std.proofs.Common.{◌≡◌}
use Rattle.root_ops.specs.Order.{more, steps_left}
use Rattle.sessions.specs.Call.{Leads}
use Rattle.sessions.proofs.session.Session.drive.Given as goal

-- the call was led here
abbrev pub invariant-loop-answer : goal.invariant-loop-answer
invariant-loop-answer g l =
    record {
      below : l.call.below ≡ l.fn.call.below;
      led : Leads l.fn.call.below l.fn.self (more l.fn.call.doing) l.self (more l.call.doing);
    }

abbrev pub decreases-loop-answer : goal.decreases-loop-answer
decreases-loop-answer g l = steps_left l.call.below l.call.doing
