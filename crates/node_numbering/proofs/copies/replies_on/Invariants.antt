use Rattle.std.proofs.Common.{◌≡◌, ◌++◌, drop}
use Rattle.node_numbering.specs.Exchanges.{after_all}
use Rattle.node_numbering.specs.Renumbered.{replies_on}
use Rattle.node_numbering.proofs.copies.replies_on.Given as goal

-- the copies so far and those of what is left make the whole
abbrev pub invariant-loop-outcomes : goal.invariant-loop-outcomes
invariant-loop-outcomes l = l.copies.items ++ replies_on (after_all l.exchanges) (drop l.outcomes-index l.replies) ≡ replies_on (after_all l.exchanges) l.replies
