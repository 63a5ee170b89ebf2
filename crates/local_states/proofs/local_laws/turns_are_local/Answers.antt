use Rattle.local_states.proofs.Local.Parts.{part_itself, part_back, part_join, parts_stay}
use Rattle.local_states.proofs.Local.Worlds.{turns_are_local, parts_busy, given_stay}
use Rattle.local_states.proofs.local_laws.turns_are_local.Goals as goal

pub returns : goal.returns
returns c = record { turns = turns_are_local; busy = parts_busy; others = parts_stay; given = given_stay; itself = part_itself; round = part_back; join = part_join }
