use Rattle.std.proofs.Common.{ℕ, List, ◌++◌, sym, ap, subst, ◌∙◌}
use Rattle.drawings.specs.Picture.{drawn_of, IsPictureFault}
use Rattle.race_core.specs.declared.report.Outcome.{Outcome}
use Rattle.run_command.specs.Drawing.{form_text, IsWellFormed}
use Rattle.run_command.proofs.Drawings.{undrawn_so}
use Rattle.run_command.proofs.drawing.picture_text.Goals as goal

pub returns-in_err-picture-clause-err : goal.returns-in_err-picture-clause-err
returns-in_err-picture-clause-err c =
    let events = c.args.came_to.now.events.events in
    let drawn = λ (rs : List (List Outcome)). drawn_of c.args.style.closes c.args.tree c.args.calls.now events rs in
    let fault = c.in_err-picture.field-0.0 in
    undrawn_so events (drawn c.args.came_to.now.replies.items) fault c.from_residual.result
    (λ _. subst (λ (rs : List (List Outcome)). IsPictureFault events
    (drawn rs) fault) c.deref.ensures.value c.in_err-picture.ensures.err)
    c.from_residual.ensures.1

pub returns-clause-ok : goal.returns-clause-ok
returns-clause-ok c =
    let style = c.args.style in
    let added = λ (old : List ℕ). old ++ form_text style.form c.in_ok-picture.picture in
    c.in_ok-add_picture.ensures.told ∙ ap added c.new-text.ensures
    ∙ ap (form_text style.form) (c.in_ok-picture.ensures.ok
    ∙ ap (λ (rs : List (List Outcome)). drawn_of style.closes c.args.tree c.args.calls.now
    c.args.came_to.now.events.events rs) c.deref.ensures.value)

pub returns-clause-well_formed : goal.returns-clause-well_formed
returns-clause-well_formed c =
    let form = c.args.style.form in
    let added = λ (old : List ℕ). old ++ form_text form c.in_ok-picture.picture in
    subst (IsWellFormed form) (sym (c.in_ok-add_picture.ensures.told ∙ ap added c.new-text.ensures))
    c.in_ok-add_picture.ensures.well_formed
