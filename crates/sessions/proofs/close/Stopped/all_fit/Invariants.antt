use Rattle.std.proofs.Common.{ℕ, ◌<◌, slice_get}
use Rattle.sessions.specs.Close.{FitsAt}
use Rattle.sessions.proofs.close.Stopped.all_fit.Given as goal

abbrev pub invariant-loop-at : goal.invariant-loop-at
invariant-loop-at g l = (p : ℕ) → p < l.at → FitsAt l.self l.number (slice_get l.sessions p)
