use Rattle.std.proofs.Common.{length}
use Rattle.sessions.proofs.open.+take_back_all.Given as goal

abbrev pub decreases-take_back_all : goal.decreases-take_back_all
decreases-take_back_all g l = length l.sessions.now
