use Rattle.std.proofs.Common.{◌≡◌, ◌++◌, ◌∷◌, [], drop}
use Rattle.schedule_graph.specs.Words.{is_not_after}
use Rattle.schedule_graph.proofs.count.is_not_after_with.Given as goal

abbrev pub invariant-loop-at : goal.invariant-loop-at
invariant-loop-at l =
    is_not_after l.labels (l.others ++ l.last ∷ []) ≡ is_not_after (drop l.at l.labels) (drop l.at (l.others ++ l.last ∷ []))
