use Rattle.path_text.proofs.SpellingLemmas.{texts_spelled}
use Rattle.path_text.proofs.laws.texts_are_spelled.Goals as goal

pub returns : goal.returns
returns c = texts_spelled
