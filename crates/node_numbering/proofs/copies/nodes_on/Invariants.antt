use Rattle.node_numbering.proofs.Moved.{AreMoved}
use Rattle.node_numbering.proofs.copies.nodes_on.Given as goal

abbrev pub invariant-loop-number : goal.invariant-loop-number
invariant-loop-number l = AreMoved l.exchanges l.nodes l.number l.others.items
