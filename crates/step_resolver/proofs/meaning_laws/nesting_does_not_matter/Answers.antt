use Rattle.step_resolver.proofs.Meaning.PartsAndLinks.{nesting_does_not_matter, links_never_rise}
use Rattle.step_resolver.proofs.meaning_laws.nesting_does_not_matter.Goals as goal

pub returns : goal.returns
returns c = record { same = nesting_does_not_matter; links = links_never_rise }
