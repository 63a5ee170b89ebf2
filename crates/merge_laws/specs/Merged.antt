-- What parts of all schedules come to, merged, and what the one search of all tells: statements of laws.
use Rattle.std.specs.Prelude.{◌≡◌, ℕ, List, [], Bool, true, length, map, Some, None, Ok}
use Rattle.local_states.specs.Worlds.{after_turns}
use Rattle.explore.specs.Explored.{Scope, IsAsked, AgreeIn, ClassView, IsEnding}
use Rattle.explore.specs.Opened.{opened_world}
use Rattle.race_core.specs.Renamed.{replies_by}
use Rattle.explore_parts.specs.declared.asked.Asked.{Asked}
use Rattle.explore_command.specs.Classes.{IsTold}
use Rattle.explore_command.specs.Explore.{IsSurveyOf}
use Rattle.explore_command.specs.Part.{IsPart}
use Rattle.explore_command.specs.Surveyed.{scope_asked, IsSurvey}
use Rattle.race_core.specs.declared.plan.ActorPlan.{ActorPlan}
use Rattle.race_core.specs.declared.report.Outcome.{Outcome}
use Rattle.race_core.specs.Worlds.{WorldView, ledgers_in, replies_in}
use Rattle.schedule_graph.specs.Counted.{IsAmong, EachOnce}
use Rattle.outcome_text.specs.declared.part.Part.{Part}
use Rattle.outcome_text.specs.declared.property.Property.{Property}
use Rattle.outcome_text.specs.declared.survey.Told.{Told}
use Rattle.outcome_text.specs.Conditions.{told_text}
use Rattle.outcome_text.specs.InPieces.{AreAlike}
use Rattle.outcome_text.specs.Merge.{are_apart, AreAll, IsWhole}
use Rattle.scripts.specs.declared.turns.TurnOrder.{TurnOrder}
use Rattle.scripts.specs.Scenario.{Said, said_for}
use Rattle.scripts.specs.Writing.{tree_of}
use Rattle.tree_model.specs.State.{State}
use Rattle.further_world_laws.specs.Parts.{IsWholeOf, AreBeginnings}

-- ---- outcomes that are told alike

-- Other numbers of handles change nothing.
abbrev pub NameNoHandles : List (List Outcome) → Type 0
NameNoHandles replies = (f : ℕ → ℕ) → replies_by f replies ≡ replies

-- the replies after each list that is asked for say no handle's number
abbrev pub RepliesNameNoHandles : WorldView → Scope → Type 0
RepliesNameNoHandles w scope = (is : List ℕ) → IsAsked w scope is
    → NameNoHandles (replies_in (ledgers_in (after_turns w is).seats))

-- So it is in each world that is opened for plans, after any turns: what was opened is told by its names, and a single
-- step that opens something is no call (EINVAL).
abbrev pub RepliesSayNoHandles : Type 0
RepliesSayNoHandles = (tree : State) (plans : List ActorPlan) (lines : ℕ) (is : List ℕ)
    → NameNoHandles (replies_in (ledgers_in (after_turns (opened_world tree plans lines) is).seats))

-- What is told of two least lists that lead to one outcome looks the same and has the same lines.
abbrev pub AgreeingListsAreToldAlike : Type 0
AgreeingListsAreToldAlike = (judged : Bool) (w : WorldView) (scope : Scope) (named : List ℕ) (opening : State)
    (c d : ClassView) (told like : Told) → RepliesNameNoHandles w scope → IsEnding w scope c.least
    → IsEnding w scope d.least → AgreeIn w scope c.least.turns d.least.turns
    → IsTold judged named opening (length w.seats) c told
    → IsTold judged named opening (length w.seats) d like → AreAlike told like

-- ---- parts that are merged

-- one question, whatever turns the lists of the part begin with; those of the whole begin with any
pub record AreOneQuestion (part whole : Asked) : Type 0 where
  pub named : part.named.items ≡ whole.named.items
  pub scope : IsWholeOf (scope_asked part) (scope_asked whole)

-- it is the answer to this question for the lists that begin with some turns
abbrev pub IsPartOf : Asked → State → List ActorPlan → ℕ → Part → Type 0
IsPartOf asked tree plans lines part = (own : Asked) × (AreOneQuestion own asked × IsPart own tree plans lines part)

abbrev pub begins_in : List Part → List (List ℕ)
begins_in parts = map (λ part. part.begin.items) parts

-- each is a part of this question, each list that is asked for begins with just one, and none is there twice
pub record ArePartsOf (asked : Asked) (tree : State) (plans : List ActorPlan) (lines : ℕ)
    (parts : List Part) : Type 0 where
  pub whole : asked.limits.scope.begin.items ≡ []
  pub each : (part : Part) → IsAmong part parts → IsPartOf asked tree plans lines part
  pub cover : AreBeginnings (opened_world tree plans lines) (scope_asked asked)
      (λ begin. IsAmong begin (begins_in parts))
  pub once : EachOnce (begins_in parts)

-- The texts are those of the same outcomes, and differ in the number of states alone, which the one has and the other
-- doesn't. The answers are the same.
pub record SayTheSame (properties : List Property) (holds answer : Bool) (whole text : List ℕ) : Type 0 where
  pub all : List Told
  pub lists : ℕ
  pub states : ℕ
  pub longest : ℕ
  pub whole_is : whole ≡ told_text lists (Some states) longest all properties
  pub text_is : text ≡ told_text lists None longest all properties
  pub answers : answer ≡ holds

-- each is a part of this question
abbrev pub AreOfOneQuestion : Asked → State → List ActorPlan → ℕ → List Part → Type 0
AreOfOneQuestion asked tree plans lines parts =
    (part : Part) → IsAmong part parts → IsPartOf asked tree plans lines part

-- the world has a seat for each plan: its roots were granted
abbrev pub IsSeated : State → List ActorPlan → ℕ → Type 0
IsSeated tree plans lines = length plans ≡ length (opened_world tree plans lines).seats

-- Parts of one question that overlap nowhere, and among which there is no gap, are all: what `merge` sees to is enough.
abbrev pub PartsWithoutGapsAreAll : Type 0
PartsWithoutGapsAreAll = (asked : Asked) (tree : State) (plans : List ActorPlan) (lines : ℕ) (parts : List Part)
    → IsSeated tree plans lines → AreOfOneQuestion asked tree plans lines parts → are_apart parts ≡ true → AreAll parts
    → ArePartsOf asked tree plans lines parts

-- What `merge` makes of parts of one question says the same as the survey of all lists.
abbrev pub MergedPartsAreTheWhole : Type 0
MergedPartsAreTheWhole = (asked : Asked) (tree : State) (plans : List ActorPlan) (lines : ℕ) (parts : List Part)
    (holds answer : Bool) (whole text : List ℕ)
    → IsSeated tree plans lines → AreOfOneQuestion asked tree plans lines parts
    → IsSurvey asked tree plans lines holds whole → IsWhole parts asked.properties.items answer text
    → SayTheSame asked.properties.items holds answer whole text

-- So it is of each script: what it says can be played, and then the roots of all actors are granted.
abbrev pub MergedPartsOfAScriptAreTheWhole : Type 0
MergedPartsOfAScriptAreTheWhole = (order : TurnOrder) (input : List ℕ) (said : Said) (asked : Asked) (parts : List Part)
    (holds answer : Bool) (whole text : List ℕ)
    → said_for order input ≡ Ok said → AreOfOneQuestion asked (tree_of said) said.plans said.lines parts
    → IsSurveyOf asked holds said whole → IsWhole parts asked.properties.items answer text
    → SayTheSame asked.properties.items holds answer whole text
