use Rattle.merge_laws.proofs.ToldAlike.{agreeing_lists_are_told_alike}
use Rattle.merge_laws.proofs.laws.agreeing_lists_are_told_alike.Goals as goal

pub returns : goal.returns
returns c = agreeing_lists_are_told_alike
