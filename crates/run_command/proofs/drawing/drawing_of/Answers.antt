use Rattle.std.proofs.Common.{◌≡◌, ap, ◌∙◌}
use Rattle.drawings.specs.Calls.{calls_of}
use Rattle.scripts.specs.Scenario.{said_by}
use Rattle.run_command.proofs.Drawings.{is_drawn}
use Rattle.run_command.proofs.Shown.{drawings_some}
use Rattle.run_command.proofs.drawing.drawing_of.Goals as goal

pub returns-clause-drawn : goal.returns-clause-drawn
returns-clause-drawn c =
    let said = said_by c.args.scenario in
    let run = c.in_ok-came_to.came_to in
    let calls = c.deref-2.result.now in
    let are : calls ≡ calls_of said.plans =
    c.deref-2.ensures.value ∙ c.in_ok-calls.ensures ∙ ap calls_of c.deref.ensures.value in
    is_drawn c.args.style said c.run_of.new.tree run.tree calls run.events.events run.replies.items
    c.picture_text.result
    c.requires.playable c.in_ok-came_to.ensures are
    c.picture_text.ensures.ok c.picture_text.ensures.well_formed c.picture_text.ensures.err

pub returns-clause-some : goal.returns-clause-some
returns-clause-some c =
    drawings_some c.args.style (said_by c.args.scenario) c.picture_text.result (returns-clause-drawn c)
