use Rattle.std.proofs.Common.{◌≡◌, ◌++◌, drop}
use Rattle.event_log.specs.Output.{escaped}
use Rattle.event_log.proofs.output.Output.escaped.Given as goal

-- what is written and what is left to write make the whole
abbrev pub invariant-loop-byte : goal.invariant-loop-byte
invariant-loop-byte l = l.self ++ escaped (drop l.byte-index l.bytes) ≡ l.fn.self ++ escaped l.bytes
