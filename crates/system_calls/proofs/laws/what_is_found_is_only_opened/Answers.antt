use Rattle.system_calls.proofs.OpeningLemmas.{found-creates, found-follows}
use Rattle.system_calls.proofs.laws.what_is_found_is_only_opened.Goals as goal

pub returns-clause-creates : goal.returns-clause-creates
returns-clause-creates c = found-creates

pub returns-clause-follows : goal.returns-clause-follows
returns-clause-follows c = found-follows
