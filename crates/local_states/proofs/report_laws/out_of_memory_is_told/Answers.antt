use Rattle.local_states.proofs.OutOfMemory.OutOfMemoryWorlds.{out_of_memory_is_told, out_of_memory_stays, runs_are_full}
use Rattle.local_states.proofs.report_laws.out_of_memory_is_told.Goals as goal

pub returns : goal.returns
returns c = record { told = out_of_memory_is_told; stays = out_of_memory_stays; runs = runs_are_full }
