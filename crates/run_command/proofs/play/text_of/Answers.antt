use Rattle.std.proofs.Common.{rules, Ok}
use Rattle.scripts.specs.Scenario.{said_by}
use Rattle.run_command.proofs.Shown.{texts_some}
use Rattle.run_command.proofs.play.text_of.Goals as goal

pub returns-clause-report : goal.returns-clause-report
returns-clause-report c = search rules

pub returns-clause-some : goal.returns-clause-some
returns-clause-some c = texts_some (said_by c.args.scenario) (Ok c.report.new.out) c.requires.playable (returns-clause-report c)
