use Rattle.std.proofs.Common.{◌≡◌, ◌-◌, [], length}
use Rattle.node_numbering.specs.Exchanges.{AreWithin}
use Rattle.node_numbering.specs.Meeting.{numbered_on}
use Rattle.node_numbering.proofs.meeting.exchanges.Given as goal

-- those so far exchange such numbers, and what is left to number completes them
abbrev pub invariant-loop-number : goal.invariant-loop-number
invariant-loop-number l = record {
  within : AreWithin l.fn.known (length l.nodes) l.exchanges.items;
  met : numbered_on l.named l.nodes l.replies (length l.nodes - l.number) l.number l.exchanges.items
      ≡ numbered_on l.named l.nodes l.replies (length l.nodes - l.fn.known) l.fn.known [];
}
