use Rattle.find_place.proofs.HeldLemmas.{only-the-root-is-at-itself}
use Rattle.find_place.proofs.laws.only_the_root_is_at_itself.Goals as goal

pub returns : goal.returns
returns c = only-the-root-is-at-itself
