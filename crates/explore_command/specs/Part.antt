-- The outcomes of the schedules that begin with some turns.
use Rattle.std.specs.Prelude.{◌≡◌, ◌<◌, ◌⊎◌, ◌++◌, ℕ, suc, List, [], ◌∷◌, length, true, take, slice_get, Some}
use Rattle.std.specs.Global.{Vec}
use Rattle.explore.specs.Explored.{Scope, ClassView, IsIdle, IsWithin, cuts}
use Rattle.explore.specs.Opened.{opened_world}
use Rattle.explore.specs.Promise.{IsMerged}
use Rattle.race_core.specs.declared.plan.ActorPlan.{ActorPlan}
use Rattle.race_core.specs.Worlds.{WorldView}
use Rattle.schedule_graph.specs.Counted.{IsAmong}
use Rattle.tree_model.specs.State.{State}
use Rattle.outcome_text.specs.declared.part.Part.{Part}
use Rattle.explore_parts.specs.declared.asked.Asked.{Asked}
use Rattle.explore_command.specs.Classes.{AreTold}
use Rattle.explore_command.specs.Surveyed.{scope_asked, IsOfThese}

-- The turn at that place can't be taken: its actor has nothing left to do then, or it is a cut too many.
abbrev pub IsBarredAt : WorldView → Scope → List ℕ → ℕ → Type 0
IsBarredAt w scope begin at =
    IsIdle w scope begin at ⊎ (IsWithin scope.cuts (cuts w (take (suc at) begin)) → ⊥)

-- A list can't begin so: one of the turns can't be taken.
abbrev pub IsBarred : WorldView → Scope → List ℕ → Type 0
IsBarred w scope begin = (at : ℕ) × IsBarredAt w scope begin at

-- ---- who might have had a turn

-- of so many actors each who isn't among these can't have the turn after those
abbrev pub AreWhoMight : WorldView → Scope → ℕ → List ℕ → List ℕ → Type 0
AreWhoMight w scope actors turns might =
    (actor : ℕ) → actor < actors → IsAmong actor might ⊎ IsBarred w scope (turns ++ actor ∷ [])

-- so it is of each of the first turns of a beginning
abbrev pub AreEachWhoMight : WorldView → Scope → ℕ → List ℕ → List (Vec ℕ) → Type 0
AreEachWhoMight w scope actors begin all = (at : ℕ) (might : Vec ℕ) → slice_get all at ≡ Some might
    → AreWhoMight w scope actors (take at begin) might.items

-- so many are all turns of the beginning, or those up to the first that can't be taken
abbrev pub AreFarEnough : WorldView → Scope → List ℕ → ℕ → Type 0
AreFarEnough w scope begin turns = (turns ≡ length begin) ⊎ IsBarred w scope (take turns begin)

-- ---- parts

-- so many lists begin so, the longest with so many turns, and the part has all that the text says of each outcome
pub record HasLists (asked : Asked) (tree : State) (plans : List ActorPlan) (lines : ℕ) (part : Part) : Type 0 where
  pub classes : List ClassView
  pub explored : IsMerged (opened_world tree plans lines) (scope_asked asked) classes part.lists part.turns
  pub told : AreTold true asked.named.items tree (length plans) classes part.all.items

-- no list does, and there is no outcome
pub record HasNone (part : Part) : Type 0 where
  pub lists : part.lists ≡ 0
  pub turns : part.turns ≡ 0
  pub all : part.all.items ≡ []

abbrev pub IsNone : Asked → State → List ActorPlan → ℕ → Part → Type 0
IsNone asked tree plans lines part =
    IsBarred (opened_world tree plans lines) (scope_asked asked) asked.limits.scope.begin.items × HasNone part

-- It is the part of the lists that begin with the turns that are asked for. Of each of these turns, up to the first
-- that can't be taken, it leaves out nobody who might have had it.
pub record IsPart (asked : Asked) (tree : State) (plans : List ActorPlan) (lines : ℕ) (part : Part) : Type 0 where
  pub of_these : IsOfThese asked plans
  pub begin : part.begin.items ≡ asked.limits.scope.begin.items
  pub told : HasLists asked tree plans lines part ⊎ IsNone asked tree plans lines part
  pub might : AreEachWhoMight (opened_world tree plans lines) (scope_asked asked) (length plans)
      asked.limits.scope.begin.items part.might.items
  pub far : AreFarEnough (opened_world tree plans lines) (scope_asked asked) asked.limits.scope.begin.items
      (length part.might.items)
