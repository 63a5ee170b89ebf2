use Rattle.list_directory.proofs.ReadLemmas.{listings-hold}
use Rattle.list_directory.proofs.laws.listings_hold.Goals as goal

pub returns : goal.returns
returns c = listings-hold
