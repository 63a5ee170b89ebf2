use Rattle.further_world_laws.proofs.GivenUpWorlds.{given_up_closes_all}
use Rattle.further_world_laws.proofs.laws.given_up_closes_all.Goals as goal

pub returns : goal.returns
returns c =
    given_up_closes_all c.given_up_is_reported.ensures.reported c.actors_calls_stand_in_order.ensures c.handles_at_end.ensures
