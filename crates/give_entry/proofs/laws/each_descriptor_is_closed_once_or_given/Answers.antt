use Rattle.give_entry.proofs.GiveLemmas.{each-is-closed}
use Rattle.give_entry.proofs.laws.each_descriptor_is_closed_once_or_given.Goals as goal

pub returns : goal.returns
returns c = each-is-closed
