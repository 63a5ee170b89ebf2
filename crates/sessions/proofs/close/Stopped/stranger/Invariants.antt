use Rattle.std.proofs.Common.{◌≡◌, None}
use Rattle.sessions.specs.Close.{least, is_stranger}
use Rattle.sessions.proofs.close.Stopped.stranger.Given as goal

abbrev pub invariant-loop-at : goal.invariant-loop-at
invariant-loop-at g l = least (is_stranger l.self l.sessions) l.at ≡ None
