use Rattle.std.proofs.Common.{◌≡◌, ◌==◌, drop}
use Rattle.std.specs.List.{list_any}
use Rattle.node_numbering.proofs.meeting.is_told.Given as goal

-- what is left decides
abbrev pub invariant-loop-number : goal.invariant-loop-number
invariant-loop-number l = list_any (λ i. i == l.actor) (drop l.number-index l.named) ≡ list_any (λ i. i == l.actor) l.named
