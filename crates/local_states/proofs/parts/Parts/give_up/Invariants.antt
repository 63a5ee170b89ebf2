use Rattle.std.proofs.Common.{vec_len}
use Rattle.local_states.proofs.parts.Parts.give_up.Given as goal

abbrev pub decreases-loop-part : goal.decreases-loop-part
decreases-loop-part g l = vec_len l.parts
