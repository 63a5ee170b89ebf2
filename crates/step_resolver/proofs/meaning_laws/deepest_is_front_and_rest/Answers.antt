use Rattle.step_resolver.proofs.Meaning.Deepest.{deepest_is_front_and_rest, deepest_means_the_same}
use Rattle.step_resolver.proofs.meaning_laws.deepest_is_front_and_rest.Goals as goal

pub returns : goal.returns
returns c = record { exact = deepest_is_front_and_rest; same = deepest_means_the_same }
