use Rattle.std.proofs.Common.{◌≡◌}
use Rattle.dialogue.specs.Dialogue.{ran}
use Rattle.remove_by_calls.specs.Removal.{all_closed}
use Rattle.remove_by_calls.proofs.removal.all_closed.Given as goal

-- those that are left are closed over the answers that are left
abbrev pub invariant-loop-left : goal.invariant-loop-left
invariant-loop-left l =
    ran (all_closed l.removal l.left) l.answers.now ≡ ran (all_closed l.removal l.removal.kept) l.fn.answers.now

abbrev pub decreases-loop-left : goal.decreases-loop-left
decreases-loop-left l = l.left
