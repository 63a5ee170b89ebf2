use Rattle.open_or_make.proofs.PathLemmas.{links-lead}
use Rattle.open_or_make.proofs.laws.links_are_followed_in_turn.Goals as goal

pub returns : goal.returns
returns c = links-lead
