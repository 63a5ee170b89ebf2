use Rattle.local_states.proofs.Parted.Paired.{PairedBefore}
use Rattle.local_states.proofs.handle_tables.are_given_pairs.Given as goal

abbrev pub invariant-loop-at : goal.invariant-loop-at
invariant-loop-at l = PairedBefore l.given l.others_given l.handles l.others l.at
