use Rattle.further_world_laws.proofs.CutShort.{cut_short_likewise}
use Rattle.further_world_laws.proofs.GivenUpWorlds.{given_up_is_reported}
use Rattle.further_world_laws.proofs.GivingUpEnds.{giving_up_ends}
use Rattle.further_world_laws.proofs.laws.given_up_is_reported.Goals as goal

pub returns : goal.returns
returns c = record { reported = given_up_is_reported c.turns_join_runs.ensures.runs; short = cut_short_likewise; ends = giving_up_ends }
