use Rattle.std.proofs.Common.{◌≡◌}
use Rattle.step_resolver.specs.Order.{more, steps_left}
use Rattle.headline_only.specs.Alone.{Leads}
use Rattle.headline_only.proofs.drive.Given as goal

-- the walk was led here
abbrev pub invariant-loop-next : goal.invariant-loop-next
invariant-loop-next g l =
    let booked = g.B.Book.booked in
    record {
      way : l.walk.way ≡ l.fn.walk.way;
      led : Leads l.fn.walk.way l.actor (booked l.fn.book) (more l.fn.walk.walking) (booked l.book) (more l.walk.walking);
    }

abbrev pub decreases-loop-next : goal.decreases-loop-next
decreases-loop-next g l = steps_left l.walk.walking
