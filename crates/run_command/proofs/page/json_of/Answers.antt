use Rattle.scripts.specs.Scenario.{said_by}
use Rattle.run_command.proofs.Pages.{is_json, jsons_some}
use Rattle.run_command.proofs.page.json_of.Goals as goal

pub returns-clause-told : goal.returns-clause-told
returns-clause-told c =
    let run = c.in_ok-came_to.came_to in
    is_json (said_by c.args.scenario) c.run_of.new.tree run.tree run.events.events run.replies.items c.json_text.result
    c.in_ok-came_to.ensures c.json_text.ensures.ok c.json_text.ensures.err

pub returns-clause-some : goal.returns-clause-some
returns-clause-some c =
    let run = c.in_ok-came_to.came_to in
    jsons_some c.run_of.new.tree run.events.events run.replies.items c.json_text.result c.json_text.ensures.ok
