use Rattle.step_resolver.proofs.Meaning.PartsAndLinks.{links_are_their_texts}
use Rattle.step_resolver.proofs.meaning_laws.links_are_their_texts.Goals as goal

pub returns : goal.returns
returns c = links_are_their_texts
