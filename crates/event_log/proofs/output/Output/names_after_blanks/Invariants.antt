use Rattle.std.proofs.Common.{◌≡◌, ◌++◌, drop}
use Rattle.event_log.proofs.Lines.{names_after_blanks}
use Rattle.event_log.proofs.output.Output.names_after_blanks.Given as goal

-- what is written and what is left to write make the whole
abbrev pub invariant-loop-at : goal.invariant-loop-at
invariant-loop-at l = l.self ++ names_after_blanks (drop l.at l.names) ≡ l.fn.self ++ names_after_blanks l.names
