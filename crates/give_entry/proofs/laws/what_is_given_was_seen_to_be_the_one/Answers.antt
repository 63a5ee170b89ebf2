use Rattle.give_entry.proofs.GiveLemmas.{gives-the-one}
use Rattle.give_entry.proofs.laws.what_is_given_was_seen_to_be_the_one.Goals as goal

pub returns : goal.returns
returns c = gives-the-one
