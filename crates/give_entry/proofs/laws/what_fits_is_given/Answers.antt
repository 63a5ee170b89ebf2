use Rattle.give_entry.proofs.GiveLemmas.{gives-what-fits}
use Rattle.give_entry.proofs.laws.what_fits_is_given.Goals as goal

pub returns : goal.returns
returns c = gives-what-fits
