use Rattle.std.proofs.Common.{◌≡◌, ◌<◌, ◌≤◌, length, drop}
use Rattle.std.specs.Prelude.{IfSome, None}
use Rattle.node_numbering.specs.Meeting.{first_entry}
use Rattle.node_numbering.specs.Seen.{seen_entry}
use Rattle.node_numbering.proofs.meeting.Search.in_tree.Given as goal

-- the first one so far or of those that are left is the first, and wasn't met yet
abbrev pub invariant-loop-x : goal.invariant-loop-x
invariant-loop-x l = record {
  first : first_entry l.self.exchanges.now l.self.next (length l.self.nodes.now) (seen_entry l.first) l.x (drop l.x l.self.nodes.now)
      ≡ first_entry l.self.exchanges.now l.self.next (length l.self.nodes.now) None 0 l.self.nodes.now;
  within : IfSome l.first (λ e. (l.self.next ≤ e.node) × (e.node < length l.self.nodes.now));
}
