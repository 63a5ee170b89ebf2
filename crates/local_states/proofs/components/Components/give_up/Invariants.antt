use Rattle.std.proofs.Common.{vec_len}
use Rattle.local_states.proofs.components.Components.give_up.Given as goal

abbrev pub decreases-loop-those : goal.decreases-loop-those
decreases-loop-those g l = vec_len l.parts
