use Rattle.tree_model.proofs.HistoryLaws.{legal_histories_join, legal_goes_on, legal_when_cut}
use Rattle.tree_model.proofs.laws.legal_histories_join.Goals as goal

pub returns : goal.returns
returns c = record { joined = legal_histories_join; one_more = legal_goes_on; cut = legal_when_cut }
