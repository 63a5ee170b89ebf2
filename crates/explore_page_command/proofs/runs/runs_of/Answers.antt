use Rattle.std.proofs.Common.{length, map, sym, ap, subst, ◌∙◌}
use Rattle.std.specs.Prelude.{All}
use Rattle.std.specs.Borrow.{Bor}
use Rattle.outcome_text.specs.declared.survey.Told.{Told}
use Rattle.explore_page_command.specs.Played.{AreTaken}
use Rattle.explore_page_command.proofs.Taken.{chosen_keeps}
use Rattle.explore_page_command.proofs.runs.runs_of.Goals as goal

pub all_played-requires-clause-taken : goal.all_played-requires-clause-taken
all_played-requires-clause-taken c =
    let n = length c.args.scene.now.plans.items in
    subst (All (AreTaken n)) (sym (ap (map (λ (one : Bor Told). one.now)) c.deref-4.ensures.value ∙ c.in_ok-some.ensures))
    (chosen_keeps (AreTaken n) c.args.outcomes.now c.requires.taken)
