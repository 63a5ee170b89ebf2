use Rattle.path_text.proofs.SpellingLemmas.{spellings_read}
use Rattle.path_text.proofs.laws.spellings_are_read.Goals as goal

pub returns : goal.returns
returns c = spellings_read
