use Rattle.std.proofs.Common.{◌≡◌, ◌-◌}
use Rattle.command_line.specs.Position.{further, item}
use Rattle.command_line.proofs.position.item.Given as goal

-- the element stands so many further
abbrev pub invariant-loop : goal.invariant-loop
invariant-loop l = further (l.fn.at - l.counter) l.rest ≡ item l.fn.at l.fn.list
