use Rattle.std.proofs.Common.{◌≡◌, length, drop}
use Rattle.node_numbering.specs.Meeting.{in_replies}
use Rattle.node_numbering.proofs.meeting.Search.in_replies.Given as goal

-- what is left decides
abbrev pub invariant-loop-actor : goal.invariant-loop-actor
invariant-loop-actor l =
    in_replies l.self.exchanges.now l.self.next (length l.self.nodes.now) l.named l.actor (drop l.actor l.replies)
    ≡ in_replies l.self.exchanges.now l.self.next (length l.self.nodes.now) l.named 0 l.replies
