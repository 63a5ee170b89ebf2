use Rattle.tree_model.proofs.StepLaws.{others_handles_stay, own_handles_stay, closed_is_closed, opened_is_open}
use Rattle.tree_model.proofs.laws.handles_stay.Goals as goal

pub returns : goal.returns
returns c = record { others = others_handles_stay; own = own_handles_stay; closed = closed_is_closed; opened = opened_is_open }
