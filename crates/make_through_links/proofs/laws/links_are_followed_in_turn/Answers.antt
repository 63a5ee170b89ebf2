use Rattle.make_through_links.proofs.LinkLemmas.{links-lead}
use Rattle.make_through_links.proofs.laws.links_are_followed_in_turn.Goals as goal

pub returns : goal.returns
returns c = links-lead
