use Rattle.list_directory.proofs.NameLemmas.{all_laid, few, last_one, within}
use Rattle.list_directory.proofs.laws.names_are_those_of_the_records.Goals as goal

pub returns-clause-within : goal.returns-clause-within
returns-clause-within c = within

pub returns-clause-laid : goal.returns-clause-laid
returns-clause-laid c = all_laid

pub returns-clause-last : goal.returns-clause-last
returns-clause-last c = last_one

pub returns-clause-few : goal.returns-clause-few
returns-clause-few c = few
