use Rattle.path_text.proofs.SpellingLemmas.{spellings_unique}
use Rattle.path_text.proofs.laws.spellings_are_unique.Goals as goal

pub returns : goal.returns
returns c = spellings_unique
