use Rattle.std.proofs.Common.{◌≡◌, ◌++◌, drop}
use Rattle.node_numbering.specs.Exchanges.{after_all}
use Rattle.node_numbering.specs.Renumbered.{outcomes_on}
use Rattle.node_numbering.proofs.copies.outcomes_on.Given as goal

-- the copies so far and those of what is left make the whole
abbrev pub invariant-loop-outcome : goal.invariant-loop-outcome
invariant-loop-outcome l = l.copies ++ outcomes_on (after_all l.exchanges) (drop l.outcome-index l.outcomes) ≡ outcomes_on (after_all l.exchanges) l.outcomes
