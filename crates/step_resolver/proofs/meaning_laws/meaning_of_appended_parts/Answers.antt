use Rattle.step_resolver.proofs.Meaning.PartsAndLinks.{appended_parts_mean}
use Rattle.step_resolver.proofs.meaning_laws.meaning_of_appended_parts.Goals as goal

pub returns : goal.returns
returns c = appended_parts_mean
