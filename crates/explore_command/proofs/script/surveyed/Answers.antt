use Rattle.std.proofs.Common.{◌≡◌, ◌∙◌}
use Rattle.scripts.specs.Scenario.{said_by}
use Rattle.scripts.specs.Writing.{tree_of}
use Rattle.explore_command.proofs.Unsurveyed.{no_survey}
use Rattle.explore_command.proofs.script.surveyed.Goals as goal

pub returns-clause-survey : goal.returns-clause-survey
returns-clause-survey g c =
    let whole : c.args.scenario.tree ≡ tree_of (said_by c.args.scenario) =
    (λ i. record { nodes = c.args.scenario.tree.nodes; handles = c.requires.none i }) in
    no_survey c.args.asked.now (said_by c.args.scenario) c.args.tree c.in-Err.fault
    (c.requires.same ∙ whole) c.in-Err.ensures.survey
