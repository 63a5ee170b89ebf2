use Rattle.dialogue.proofs.TalkLemmas.{driven, driven_whole}
use Rattle.dialogue.proofs.laws.driving_is_talking.Goals as goal

pub returns-clause-talks : goal.returns-clause-talks
returns-clause-talks g c again = driven

pub returns-clause-whole : goal.returns-clause-whole
returns-clause-whole g c again = driven_whole
