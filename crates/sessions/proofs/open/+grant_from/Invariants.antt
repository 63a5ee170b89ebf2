use Rattle.std.proofs.Common.{length}
use Rattle.sessions.proofs.open.+grant_from.Given as goal

abbrev pub decreases-grant_from : goal.decreases-grant_from
decreases-grant_from g l = length l.roots.now
