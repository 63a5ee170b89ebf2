use Rattle.std.proofs.Common.{ℕ, ◌<◌}
use Rattle.sessions.specs.Close.{AllFit}
use Rattle.sessions.proofs.close.Stopped.unfit.Given as goal

abbrev pub invariant-loop-number : goal.invariant-loop-number
invariant-loop-number g l = (j : ℕ) → j < l.number → AllFit l.self l.sessions j
