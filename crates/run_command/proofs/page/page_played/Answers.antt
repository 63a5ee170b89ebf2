use Rattle.std.proofs.Common.{ℕ, List, [], ◌∷◌, ◌++◌, ap, subst, ◌∙◌}
use Rattle.drawings.specs.Picture.{drawn_of, IsPictureFault}
use Rattle.pages.specs.declared.played.Played.{Played}
use Rattle.pages.specs.Page.{page_of, played_of}
use Rattle.race_core.specs.declared.report.Outcome.{Outcome}
use Rattle.report_text.specs.Report.{report_text}
use Rattle.run_command.proofs.Drawings.{undrawn_so}
use Rattle.run_command.proofs.page.page_played.Goals as goal

pub returns-in_err-run-clause-err : goal.returns-in_err-run-clause-err
returns-in_err-run-clause-err c =
    let events = c.args.came_to.now.events.events in
    let drawn = λ (rs : List (List Outcome)). drawn_of c.args.closes c.args.tree c.args.calls.now events rs in
    let fault = c.in_err-run.field-0.0 in
    undrawn_so events (drawn c.args.came_to.now.replies.items) fault c.from_residual.result
    (λ some. subst (λ (rs : List (List Outcome)). IsPictureFault events (drawn rs) fault) c.deref.ensures.value
    (c.in_err-run.ensures.err some))
    c.from_residual.ensures.1

pub returns-clause-ok : goal.returns-clause-ok
returns-clause-ok c =
    let report = c.args.came_to.now in
    let events = report.events.events in
    let text = report_text events report.replies.items report.tree c.args.actors in
    c.in_ok-page_with.ensures
    ∙ ap (λ (bs : List ℕ). page_of bs (c.in_ok-run.run' ∷ []))
    (c.as_slice.ensures ∙ c.in_ok-report.ensures ∙ ap (λ (old : List ℕ). old ++ text) c.new-text.ensures)
    ∙ ap (λ (run : Played). page_of text (run ∷ [])) (c.in_ok-run.ensures.ok
    ∙ ap (λ (rs : List (List Outcome)). played_of c.args.closes c.args.tree c.args.calls.now events rs)
    c.deref.ensures.value)
