use Rattle.race_core.proofs.OneEnd.{one_report}
use Rattle.race_core.proofs.ReportsThere.{reports_are_there}
use Rattle.race_core.proofs.run_laws.reports_with_memory_are_one.Goals as goal

pub returns : goal.returns
returns c = record { one = one_report; there = reports_are_there }
