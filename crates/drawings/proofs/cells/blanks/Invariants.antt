use Rattle.std.proofs.Common.{◌≡◌, ◌++◌, replicate}
use Rattle.event_log.specs.Words.{BLANK}
use Rattle.drawings.proofs.cells.blanks.Given as goal

-- so many blanks are written
abbrev pub invariant-loop-blank : goal.invariant-loop-blank
invariant-loop-blank l = l.out ≡ l.fn.out ++ replicate l.blank BLANK
