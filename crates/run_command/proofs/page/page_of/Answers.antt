use Rattle.std.proofs.Common.{◌≡◌, ap, ◌∙◌}
use Rattle.drawings.specs.Calls.{calls_of}
use Rattle.scripts.specs.Scenario.{said_by}
use Rattle.run_command.proofs.Pages.{is_page, pages_some}
use Rattle.run_command.proofs.page.page_of.Goals as goal

pub returns-clause-shown : goal.returns-clause-shown
returns-clause-shown c =
    let said = said_by c.args.scenario in
    let run = c.in_ok-came_to.came_to in
    let calls = c.deref-2.result.now in
    let are : calls ≡ calls_of said.plans =
    c.deref-2.ensures.value ∙ c.in_ok-calls.ensures ∙ ap calls_of c.deref.ensures.value in
    is_page c.args.closes said c.run_of.new.tree run.tree calls run.events.events run.replies.items c.len-actors.result
    c.page_played.result c.requires.playable c.in_ok-came_to.ensures are
    (c.len-actors.ensures ∙ c.args.scenario.plans.ok.0) c.page_played.ensures.ok c.page_played.ensures.err

pub returns-clause-some : goal.returns-clause-some
returns-clause-some c = pages_some _ _ c.page_played.result c.page_played.ensures.ok
