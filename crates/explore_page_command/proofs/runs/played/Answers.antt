use Rattle.std.proofs.Common.{◌≡◌, List, sym, ap, subst, ◌∙◌}
use Rattle.std.specs.Prelude.{Some}
use Rattle.drawings.specs.declared.picture.Closes.TheVariants.{Hidden}
use Rattle.drawings.specs.Picture.{drawn_of, IsPictureFault}
use Rattle.run_command.specs.Drawing.{opened_by}
use Rattle.outcome_text.specs.Schedule.{without_tail}
use Rattle.pages.specs.Page.{played_of}
use Rattle.race_core.specs.declared.report.Outcome.{Outcome}
use Rattle.race_core.specs.Opening.{granted}
use Rattle.scripts.specs.Writing.{tree_of}
use Rattle.explore_page_command.specs.Played.{scene_said, by_schedule_of}
use Rattle.explore_page_command.proofs.Plays.{playable_by, is_played, is_no_play}
use Rattle.explore_page_command.proofs.runs.played.Goals as goal

pub returns-in-Ok : goal.returns-in-Ok
returns-in-Ok c =
    let scene = c.args.scene.now in
    let said = by_schedule_of (scene_said scene) c.args.told.now in
    let t = c.in_ok-again.again in
    let report = c.in_ok-report.report in
    let calls = c.args.calls.now in
    let opened : opened_by (granted (tree_of said) 0 said.plans) ≡ Some t =
    (λ i. opened_by (granted (record { nodes = scene.tree.nodes; handles = sym c.requires.none i }) 0 said.plans))
    ∙ c.requires.opened ∙ ap Some (sym c.in_ok-again.ensures) in
    is_played said t report.tree calls report.events.events report.replies.items c.in-Ok.run' c.in_ok-report.ensures opened c.requires.calls
    (c.in-Ok.ensures.ok ∙ ap (λ (rs : List (List Outcome)). played_of Hidden t calls report.events.events rs) c.deref.ensures.value)

pub returns : goal.returns
returns c =
    let scene = c.args.scene.now in
    let said = scene_said scene in
    let schedule = without_tail c.args.told.now.turns.items in
    let t = c.in_ok-again.again in
    let report = c.in_ok-report.report in
    let calls = c.args.calls.now in
    let opened : opened_by (granted (tree_of said) 0 said.plans) ≡ Some t =
    (λ i. opened_by (granted (record { nodes = scene.tree.nodes; handles = sym c.requires.none i }) 0 said.plans))
    ∙ c.requires.opened ∙ ap Some (sym c.in_ok-again.ensures) in
    is_no_play said schedule t report.tree calls report.events.events report.replies.items c.in-Err.fault c.told_of.result
    (playable_by said schedule c.requires.playable c.requires.taken) c.in_ok-report.ensures opened c.requires.calls
    (λ some. subst (λ (rs : List (List Outcome)). IsPictureFault report.events.events (drawn_of Hidden t calls report.events.events rs) c.in-Err.fault) c.deref.ensures.value
    (c.in-Err.ensures.err some)) c.told_of.ensures
