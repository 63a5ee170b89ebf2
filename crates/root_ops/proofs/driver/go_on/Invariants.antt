use Rattle.root_ops.specs.View.{next_view, IsNext}
use Rattle.root_ops.specs.Driver.{Drives, steps_in}
use Rattle.root_ops.proofs.driver.go_on.Given as goal

-- the call was driven here
abbrev pub invariant-loop-next : goal.invariant-loop-next
invariant-loop-next g l =
    let state = g.T.Tree.state in
    record {
      ours : IsNext l.fn.below l.next;
      driven : Drives l.fn.below l.fn.below.root.owner.actor (state l.fn.tree) (next_view l.fn.next) (state l.tree) (next_view l.next);
    }

abbrev pub decreases-loop-next : goal.decreases-loop-next
decreases-loop-next g l = steps_in l.fn.below (next_view l.next)
