use Rattle.path_text.proofs.PrintLemmas.{printed_read, printed_fault, printed_names_read}
use Rattle.path_text.proofs.laws.printed_names_are_read.Goals as goal

pub returns-clause-reading : goal.returns-clause-reading
returns-clause-reading c = printed_read

pub returns-clause-fault : goal.returns-clause-fault
returns-clause-fault c = printed_fault

pub returns-clause-names : goal.returns-clause-names
returns-clause-names c = printed_names_read
