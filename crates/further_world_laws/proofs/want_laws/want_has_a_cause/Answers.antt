use Rattle.further_world_laws.proofs.CalmWorlds.{memory_brings_no_want, reports_with_memory_tell_none, want_has_a_turn}
use Rattle.further_world_laws.proofs.want_laws.want_has_a_cause.Goals as goal

pub returns : goal.returns
returns c = record { turn = memory_brings_no_want; actor = want_has_a_turn; report = reports_with_memory_tell_none }
