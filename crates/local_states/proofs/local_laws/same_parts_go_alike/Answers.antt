use Rattle.local_states.proofs.Local.OutsideSame.{same_worlds_act}
use Rattle.local_states.proofs.Local.Wholes.{same_turns, busy_alike, tell_alike}
use Rattle.local_states.proofs.local_laws.same_parts_go_alike.Goals as goal

pub returns : goal.returns
returns c = record { turns = same_turns; busy = busy_alike; tell = tell_alike; outside = same_worlds_act }
