use Rattle.race_core.proofs.Booked.{free_lines_never_rise}
use Rattle.race_core.proofs.laws.free_lines_never_rise.Goals as goal

pub returns : goal.returns
returns c = free_lines_never_rise
