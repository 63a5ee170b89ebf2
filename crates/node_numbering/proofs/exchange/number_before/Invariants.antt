use Rattle.std.proofs.Common.{◌≡◌, ◌≤◌, length, take}
use Rattle.node_numbering.specs.Exchanges.{before_all}
use Rattle.node_numbering.proofs.exchange.number_before.Given as goal

-- what is left to take back leads to the start
abbrev pub invariant-loop-left : goal.invariant-loop-left
invariant-loop-left l = record {
  within : l.left ≤ length l.exchanges;
  back : before_all (take l.left l.exchanges) l.number ≡ before_all l.exchanges l.fn.node;
}

abbrev pub decreases-loop-left : goal.decreases-loop-left
decreases-loop-left l = l.left
