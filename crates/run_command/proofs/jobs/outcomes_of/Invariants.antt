use Rattle.std.proofs.Common.{◌≡◌, ◌++◌, map}
use Rattle.std.specs.Vec.Iter.{into_iter_items}
use Rattle.run_command.specs.Jobs.{outcome_of, opened_in}
use Rattle.run_command.proofs.jobs.outcomes_of.Given as goal

abbrev pub invariant-loop-reply : goal.invariant-loop-reply
invariant-loop-reply l = record {
  outcomes : l.outcomes ++ map outcome_of (into_iter_items l.reply-iterator) ≡ map outcome_of l.fn.replies.items;
  opened : l.opened.items ++ opened_in (into_iter_items l.reply-iterator) ≡ opened_in l.fn.replies.items;
}
