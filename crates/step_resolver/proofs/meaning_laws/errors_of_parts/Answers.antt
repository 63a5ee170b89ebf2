use Rattle.step_resolver.proofs.Meaning.Errors.{parts_fail_as_paths}
use Rattle.step_resolver.proofs.meaning_laws.errors_of_parts.Goals as goal

pub returns : goal.returns
returns c = parts_fail_as_paths
