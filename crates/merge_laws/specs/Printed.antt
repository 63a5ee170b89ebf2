-- Lines that searches of parts printed, and what is merged of them: statements of laws.
use Rattle.std.specs.Prelude.{◌≡◌, ℕ, List, Bool, Ok}
use Rattle.std.specs.List.{flat_map, AllByRecursion}
use Rattle.explore_parts.specs.declared.asked.Asked.{Asked}
use Rattle.explore_command.specs.Explore.{IsSurveyOf}
use Rattle.explore_parts.specs.Merging.{IsMerged}
use Rattle.explore_command.specs.Part.{IsPart}
use Rattle.explore_parts.specs.PartText.{part_line}
use Rattle.explore_parts.specs.Printed.{AskedFits, PartFits}
use Rattle.explore_parts.specs.Seal.{sum_of}
use Rattle.race_core.specs.declared.plan.ActorPlan.{ActorPlan}
use Rattle.outcome_text.specs.declared.part.Part.{Part}
use Rattle.scripts.specs.declared.turns.TurnOrder.{TurnOrder}
use Rattle.scripts.specs.Scenario.{Said, said_for}
use Rattle.scripts.specs.Writing.{tree_of}
use Rattle.tree_model.specs.State.{State}
use Rattle.merge_laws.specs.Merged.{AreOneQuestion, SayTheSame}

-- a part, and what was asked for it
pub record Answer : Type 0 where
  pub asked : Asked
  pub part : Part

-- It answers this question for the lists that begin with some turns, and its numbers are those of the machine.
pub record IsAnswer (asked : Asked) (tree : State) (plans : List ActorPlan) (lines : ℕ) (answer : Answer) : Type 0 where
  pub question : AreOneQuestion answer.asked asked
  pub properties : answer.asked.properties.items ≡ asked.properties.items
  pub is : IsPart answer.asked tree plans lines answer.part
  pub asks : AskedFits answer.asked
  pub fits : PartFits answer.part

abbrev pub AreAnswers : Asked → Said → List Answer → Type 0
AreAnswers asked said answers = AllByRecursion (IsAnswer asked (tree_of said) said.plans said.lines) answers

-- the lines of a script with these bytes, one after another
abbrev pub printed_text : List ℕ → List Answer → List ℕ
printed_text script answers = flat_map (λ answer. part_line (sum_of script) answer.asked answer.part) answers

-- What is merged of the lines that are printed of a script's parts says the same as the survey of all schedules.
abbrev pub MergedLinesAreTheWhole : Type 0
MergedLinesAreTheWhole = (order : TurnOrder) (script : List ℕ) (said : Said) (asked : Asked) (answers : List Answer)
    (holds answer : Bool) (whole text : List ℕ)
    → said_for order script ≡ Ok said → AreAnswers asked said answers → IsSurveyOf asked holds said whole
    → IsMerged (printed_text script answers) answer text
    → SayTheSame asked.properties.items holds answer whole text
