-- What is asked of a search of all schedules of a world, and what it tells. Which lists are asked for, which are on the
-- way, and which have one state is said as it is of all moves (`Asked` of `layered_search`).
use Rattle.std.specs.Prelude.{◌≡◌, ℕ, List, Bool, Option, None, Some, slice_get, map}
use Rattle.tree_model.specs.State.{State}
use Rattle.race_core.specs.declared.report.Outcome.{Outcome}
use Rattle.race_core.specs.Worlds.{WorldView}
use Rattle.schedule_graph.specs.declared.fault.SearchFault.{SearchFault}
use Rattle.layered_search.specs.Asked as asked
pub use Rattle.layered_search.specs.Asked.{IsWithin, GoAlong}
pub use Rattle.layered_search.specs.Lists.{plus, is_less_or, is_not_after, Rank, is_at_most, changes}
use Rattle.layered_search.specs.Moves as moves
use Rattle.layered_search.specs.Limits.{limits_of}
use Rattle.layered_search.specs.declared.found.Class.{Class}
use Rattle.layered_search.specs.declared.limits.Limits.{Limits}
use Rattle.local_states.specs.Local.{SameParts}
pub use Rattle.local_states.specs.Local.{TellAlike}
use Rattle.local_states.specs.Outside.{outside_of}
use Rattle.local_states.specs.Worlds.{after_turns, world_moves, worlds, EndView, ReportsOn}

-- ---- which lists are asked for, and what they tell

-- only the lists with at most so many cuts, if there is a bound, and that begin with these turns; and whether what an
-- actor changes outside of its root is told
pub record Scope : Type 0 where
  pub cuts : Option ℕ
  pub outside : Bool
  pub begin : List ℕ

-- a search's limits, with that told or not
abbrev pub scope_with : Limits → Bool → Scope
scope_with limits outside =
    record { cuts = limits.scope.cuts; outside = outside; begin = limits.scope.begin.items }

abbrev pub IsAsked : WorldView → Scope → List ℕ → Type 0
IsAsked w scope = asked.IsAskedOf world_moves w scope.cuts scope.begin

-- each turn is of an actor who has something left to do then
abbrev pub AreBusy : WorldView → List ℕ → Type 0
AreBusy w is = moves.AreBusy world_moves w is

-- the two lists lead to the same outcome
abbrev pub AgreeIn : WorldView → Scope → List ℕ → List ℕ → Type 0
AgreeIn w scope is js = TellAlike scope.outside (after_turns w is) (after_turns w js)

-- ---- what counts in a list

-- whether a turn of that actor cuts a call of the last one's
abbrev pub is_cut : WorldView → Option ℕ → ℕ → Bool
is_cut w last j = moves.is_cut world_moves w last j

-- how many turns of the list cut a call, the last turn before being that actor's
abbrev pub cuts_after : WorldView → Option ℕ → List ℕ → ℕ
cuts_after w last is = moves.cuts_after world_moves w last is

abbrev pub cuts : WorldView → List ℕ → ℕ
cuts w is = cuts_after w None is

-- by this a list is ordered: by the cuts, then by the changes of actor, then as lists
abbrev pub rank : WorldView → List ℕ → Rank
rank w is =
    record { cuts = moves.cuts_after world_moves w None is; changes = moves.changes_after None is; turns = is }

-- ---- what is found

-- a list of turns, what counts in it, the tree and the replies of its report, and, where that is told, each actor's
-- changes outside of its root
pub record EndingView : Type 0 where
  pub turns : List ℕ
  pub cuts : ℕ
  pub changes : ℕ
  pub tree : State
  pub replies : List (List Outcome)
  pub outside : List ℕ

-- an outcome: what its least list comes to, and how many lists lead to it
pub record ClassView : Type 0 where
  pub least : EndingView
  pub lists : ℕ

-- a class of a search, whose outcome is the end of its least list
abbrev pub class_of : Class EndView → ClassView
class_of class = record {
  least = record {
    turns = class.least.items;
    cuts = class.cuts;
    changes = class.changes;
    tree = class.outcome.tree;
    replies = class.outcome.replies;
    outside = class.outcome.outside;
  };
  lists = class.lists;
}

abbrev pub classes_in : List (Class EndView) → List ClassView
classes_in classes = map (λ class. class_of class) classes

-- that list is asked for, and these are of its report
pub record IsEnding (w : WorldView) (scope : Scope) (ending : EndingView) : Type 0 where
  pub asked : IsAsked w scope ending.turns
  pub ranked : record { cuts = ending.cuts; changes = ending.changes; turns = ending.turns } ≡ rank w ending.turns
  pub report : ReportsOn (after_turns w ending.turns) ending.tree ending.replies
  pub outside : ending.outside ≡ outside_of scope.outside (after_turns w ending.turns)

-- one of the classes has this list's outcome
pub record HasClass (w : WorldView) (scope : Scope) (classes : List ClassView) (is : List ℕ) : Type 0 where
  pub at : ℕ
  pub class : ClassView
  pub there : slice_get classes at ≡ Some class
  pub agrees : AgreeIn w scope is class.least.turns

abbrev pub IsLongest : WorldView → Scope → ℕ → Type 0
IsLongest w scope = asked.IsLongestOf world_moves w scope.cuts scope.begin

-- ---- states

-- worlds in which each actor has the same part count as one state
abbrev pub AreStates : WorldView → Scope → ℕ → Type 0
AreStates w scope = asked.AreStatesOf world_moves w SameParts scope.cuts scope.begin

-- ---- why nothing is told

-- the turn at that place of the beginning is of an actor who has nothing left to do then
abbrev pub IsIdle : WorldView → Scope → List ℕ → ℕ → Type 0
IsIdle w scope = asked.IsIdle (worlds scope.outside w)

-- the reason, as it is for a world as a system
abbrev pub WhyNot : WorldView → Limits → Bool → SearchFault → Type 0
WhyNot w limits outside = asked.WhyNot (worlds outside w) (limits_of limits)
