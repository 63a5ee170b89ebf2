use Rattle.outcome_text.proofs.SameReports.{one_list_is_told_as_one, same_reports_are_told_alike}
use Rattle.outcome_text.proofs.laws.same_reports_are_told_alike.Goals as goal

pub returns : goal.returns
returns c = record { alike = same_reports_are_told_alike; one = one_list_is_told_as_one }
