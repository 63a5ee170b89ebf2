-- The text of what a search of all schedules finds.
use Rattle.std.specs.Prelude.{⊤, ◌≡◌, ◌≤◌, ℕ, Bool, List, length, find, nat_le, nat_lt, Option, Some, None}
use Rattle.explore.specs.Promise.{IsMerged}
use Rattle.explore.specs.Explored.{Scope, scope_with, ClassView, AreStates, WhyNot}
use Rattle.explore.specs.Opened.{opened_world}
use Rattle.race_core.specs.declared.plan.ActorPlan.{ActorPlan}
use Rattle.tree_model.specs.State.{State}
use Rattle.explore_parts.specs.declared.asked.Asked.{Asked}
use Rattle.outcome_text.specs.declared.fault.ExploreFault.{ExploreFault}
use Rattle.outcome_text.specs.declared.fault.ExploreFault.TheVariants.{Run, NoSuchActor, NoSuchLine, Search, TooMuchMemory, NoGauge}
use Rattle.outcome_text.specs.declared.survey.Told.{Told}
use Rattle.outcome_text.specs.Order.{in_order}
use Rattle.outcome_text.specs.declared.ranked.Survey.{Survey}
use Rattle.outcome_text.specs.Conditions.{counted, told_text, told_holds}
use Rattle.outcome_text.specs.Framed.{text_of}
use Rattle.explore_command.specs.Classes.{AreTold}
use Rattle.outcome_text.specs.Tellable.{first_untold}
use Rattle.schedule_graph.specs.declared.fault.SearchFault.TheVariants as search
use Rattle.scripts.specs.declared.fault.RunFault.TheVariants.{NoMemory}

-- which lists are asked for
abbrev pub scope_asked : Asked → Scope
scope_asked asked = scope_with asked.limits asked.outside

-- whether any property judges the outcomes
abbrev pub are_judged : Asked → Bool
are_judged asked = nat_lt 0 (length asked.properties.items)

-- the first of those that are named who isn't there
abbrev pub first_foreign : Asked → List ActorPlan → Option ℕ
first_foreign asked plans = find (λ i. nat_le (length plans) i) asked.named.items

-- all who are named are there, and each property names a line that a report can have
pub record IsOfThese (asked : Asked) (plans : List ActorPlan) : Type 0 where
  pub actors : first_foreign asked plans ≡ None
  pub properties : first_untold asked.outside plans asked.properties.items ≡ None

-- What is said of each outcome makes the text, in the order of their least lists, and shows whether no property fails.
-- Where conditions are asked for, only the lists that come to a report with the line of each one count (`Conditions`).
pub record IsTelling (asked : Asked) (tree : State) (plans : List ActorPlan) (classes : List ClassView)
    (lists states turns : ℕ) (holds : Bool) (text : List ℕ) : Type 0 where
  pub all : List Told
  pub told : AreTold (are_judged asked) asked.named.items tree (length plans) classes all
  pub is : text ≡ told_text lists (Some states) turns (in_order all) asked.properties.items
  pub judged : holds ≡ told_holds (in_order all) asked.properties.items

-- The text of all that is found of the world of this tree and these plans: the outcomes of all full lists of turns
-- with at most so many cuts that begin with the turns that are asked for, and how many states these lists go through.
-- And whether no property fails.
pub record IsSurvey (asked : Asked) (tree : State) (plans : List ActorPlan) (lines : ℕ) (holds : Bool)
    (text : List ℕ) : Type 0 where
  pub of_these : IsOfThese asked plans
  pub classes : List ClassView
  pub lists : ℕ
  pub states : ℕ
  pub turns : ℕ
  pub explored : IsMerged (opened_world tree plans lines) (scope_asked asked) classes lists turns
  pub few : states ≤ asked.limits.states
  pub counted : AreStates (opened_world tree plans lines) (scope_asked asked) states
  pub telling : IsTelling asked tree plans classes lists states turns holds text

-- its outcomes that count, in the order of their least lists: those that the text tells of
abbrev pub outcomes_of : {asked : Asked} → {tree : State} → {plans : List ActorPlan} → {lines : ℕ} → {holds : Bool}
    → {text : List ℕ} → IsSurvey asked tree plans lines holds text → List Told
outcomes_of {asked} survey = counted asked.properties.items (in_order survey.telling.all)

-- a survey, and the outcomes that its text tells of
abbrev pub IsSurveyWith : Asked → State → List ActorPlan → ℕ → Survey → Type 0
IsSurveyWith asked tree plans lines survey =
    (is : IsSurvey asked tree plans lines survey.holds (text_of survey)) × (survey.outcomes.items ≡ outcomes_of is)

-- The first of those that are named who isn't there; or else the first property that no report can have a line for;
-- or else the first turn of the beginning that can't be taken; or a list has more turns than are gone through, or there
-- are more states than that; or there is a limit of memory, where alone a gauge is looked at; or a growth was refused.
abbrev pub WhyNoSurvey : Asked → State → List ActorPlan → ℕ → ExploreFault → Type 0
WhyNoSurvey asked tree plans lines (Run NoMemory) = ⊤
WhyNoSurvey asked tree plans lines (Run other) = ⊥
WhyNoSurvey asked tree plans lines (NoSuchActor actor) = first_foreign asked plans ≡ Some actor
WhyNoSurvey asked tree plans lines (NoSuchLine place) =
    (first_foreign asked plans ≡ None)
    × (first_untold asked.outside plans asked.properties.items ≡ Some place)
WhyNoSurvey asked tree plans lines (Search search.NoMemory) = ⊥
WhyNoSurvey asked tree plans lines (Search fault) =
    IsOfThese asked plans × WhyNot (opened_world tree plans lines) asked.limits asked.outside fault
WhyNoSurvey asked tree plans lines (TooMuchMemory most) = asked.memory ≡ Some most
WhyNoSurvey asked tree plans lines NoGauge = (most : ℕ) × (asked.memory ≡ Some most)
