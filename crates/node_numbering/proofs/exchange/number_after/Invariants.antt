use Rattle.std.proofs.Common.{◌≡◌, drop}
use Rattle.node_numbering.specs.Exchanges.{after_all}
use Rattle.node_numbering.proofs.exchange.number_after.Given as goal

-- what is left leads to the end
abbrev pub invariant-loop-exchange : goal.invariant-loop-exchange
invariant-loop-exchange l = after_all (drop l.exchange-index l.exchanges) l.number ≡ after_all l.exchanges l.fn.node
