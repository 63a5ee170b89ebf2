use Rattle.std.proofs.Common.{◌≡◌, take}
use Rattle.race_core.proofs.copy.copy_standings.Given as goal

abbrev pub invariant-loop-standing : goal.invariant-loop-standing
invariant-loop-standing l = l.copies.items ≡ take l.standing-index l.standings
