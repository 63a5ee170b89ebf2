use Rattle.std.proofs.Common.{◌≡◌, ◌++◌, ◌-◌}
use Rattle.event_log.specs.Printed.{names_after}
use Rattle.event_log.specs.Shapes.{pieces_read}
use Rattle.event_log.proofs.print.write_names.Given as goal

-- what is written and what is left to write make the whole
abbrev pub invariant-loop-at : goal.invariant-loop-at
invariant-loop-at l = l.out ++ names_after l.mark (pieces_read (l.count - l.at) l.rest) ≡ l.fn.out ++ names_after l.mark (pieces_read l.count l.bytes)
