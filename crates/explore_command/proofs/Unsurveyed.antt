-- Why there is no survey of a scene is why there is none of what the script says.
use Rattle.std.specs.Prelude.{◌≡◌}
use Rattle.std.proofs.Common.{subst}
use Rattle.tree_model.specs.State.{State}
use Rattle.scripts.specs.declared.fault.RunFault.TheVariants as run
use Rattle.scripts.specs.Scenario.{Said}
use Rattle.scripts.specs.Writing.{tree_of}
use Rattle.outcome_text.specs.declared.fault.ExploreFault.{ExploreFault}
use Rattle.outcome_text.specs.declared.fault.ExploreFault.TheVariants.{Run, NoSuchActor, NoSuchLine, Search, TooMuchMemory, NoGauge}
use Rattle.explore_parts.specs.declared.asked.Asked.{Asked}
use Rattle.explore_command.specs.Explore.{IsNoSurvey}
use Rattle.explore_command.specs.Surveyed.{WhyNoSurvey}

of_said : (asked : Asked) (said : Said) (fault : ExploreFault) → WhyNoSurvey asked (tree_of said) said.plans said.lines fault → IsNoSurvey asked said fault
of_said asked said (Run (run.Script cause)) why = absurd why
of_said asked said (Run run.ReadFailed) why = absurd why
of_said asked said (Run run.WriteFailed) why = absurd why
of_said asked said (Run run.NoMemory) why = tt
of_said asked said (Run run.BookFull) why = absurd why
of_said asked said (NoSuchActor actor) why = why
of_said asked said (NoSuchLine place) why = why
of_said asked said (Search fault) why = why
of_said asked said (TooMuchMemory most) why = why
of_said asked said NoGauge why = why

pub no_survey : (asked : Asked) (said : Said) (tree : State) (fault : ExploreFault) → tree ≡ tree_of said
    → WhyNoSurvey asked tree said.plans said.lines fault → IsNoSurvey asked said fault
no_survey asked said tree fault same why =
    of_said asked said fault (subst (λ (s : State). WhyNoSurvey asked s said.plans said.lines fault) same why)
