use Rattle.std.proofs.Common.{◌≡◌, None}
use Rattle.sessions.specs.Close.{least, is_missing}
use Rattle.sessions.proofs.close.Stopped.missing.Given as goal

abbrev pub invariant-loop-number : goal.invariant-loop-number
invariant-loop-number g l = least (is_missing l.sessions) l.number ≡ None
