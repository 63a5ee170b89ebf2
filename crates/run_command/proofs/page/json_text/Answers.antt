use Rattle.std.proofs.Common.{ℕ, List, ◌++◌, ap, ◌∙◌}
use Rattle.pages.specs.Run.{report_json}
use Rattle.race_core.specs.declared.report.Outcome.{Outcome}
use Rattle.run_command.proofs.page.json_text.Goals as goal

pub returns-clause-ok : goal.returns-clause-ok
returns-clause-ok c =
    let json = λ (rs : List (List Outcome)). report_json c.args.tree c.args.came_to.now.events.events rs in
    c.in_ok-report_json.ensures ∙ ap (λ (old : List ℕ). old ++ json c.deref.result.now) c.new-text.ensures
    ∙ ap json c.deref.ensures.value
