use Rattle.std.proofs.Common.{◌≡◌, length, drop}
use Rattle.node_numbering.specs.Meeting.{in_calls}
use Rattle.node_numbering.proofs.meeting.Search.in_calls.Given as goal

-- what is left decides
abbrev pub invariant-loop-outcome : goal.invariant-loop-outcome
invariant-loop-outcome l =
    in_calls l.self.exchanges.now l.self.next (length l.self.nodes.now) (drop l.outcome-index l.outcomes)
    ≡ in_calls l.self.exchanges.now l.self.next (length l.self.nodes.now) l.outcomes
