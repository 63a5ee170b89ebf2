use Rattle.local_states.proofs.OutOfMemory.JustOne.{without_out_of_memory_are_one, without_out_of_memory_had_memory}
use Rattle.local_states.proofs.report_laws.reports_without_out_of_memory_are_one.Goals as goal

pub returns : goal.returns
returns c = record { one = without_out_of_memory_are_one; memory = without_out_of_memory_had_memory }
