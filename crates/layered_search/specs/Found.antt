-- What is found: outcomes, each by a list of turns.
use Rattle.std.specs.Prelude.{◌≡◌, ℕ, List, length, map, slice_get, Some}
use Rattle.schedule_graph.specs.declared.count.Count.{Count}
use Rattle.layered_search.specs.declared.found.Found.{Found}
use Rattle.layered_search.specs.declared.found.Class.{Class}
use Rattle.layered_search.specs.System.{System, Outcomes, state_after}
use Rattle.layered_search.specs.Lists.{cuts, changes}
use Rattle.layered_search.specs.Asked.{AgreeIn}
use Rattle.layered_search.specs.Promise.{ClassView}

-- the lists by which outcomes were found
abbrev pub found_of : {Outcome : Type 0} → List (Found Outcome) → List (List ℕ)
found_of {Outcome} found = map (λ (one : Found Outcome). one.turns.items) found

-- a class as its least list and the number of its lists
abbrev pub view_of : {Outcome : Type 0} → Class Outcome → ClassView
view_of class = record { least = class.least.items; lists = class.lists }

abbrev pub views_of : {Outcome : Type 0} → List (Class Outcome) → List ClassView
views_of {Outcome} classes = map (λ (class : Class Outcome). view_of class) classes

-- the class has that outcome, and the least list and the number that were counted
pub record IsClassOf {Outcome : Type 0} (one : Found Outcome) (count : Count) (class : Class Outcome) : Type 0 where
  pub outcome : class.outcome ≡ one.outcome
  pub counted : count.least
      ≡ Some (record { cuts = class.cuts; changes = class.changes; turns = class.least.items })
  pub lists : class.lists ≡ count.words

-- so it is with each, in order
pub record AreClassesOf {Outcome : Type 0} (found : List (Found Outcome)) (counts : List Count)
    (classes : List (Class Outcome)) : Type 0 where
  pub many : length classes ≡ length found
  pub each : (m : ℕ) (one : Found Outcome) (count : Count) (class : Class Outcome) → slice_get found m ≡ Some one
      → slice_get counts m ≡ Some count → slice_get classes m ≡ Some class → IsClassOf one count class

module _ {State Outcome : Type 0} (s : System State) (o : Outcomes State Outcome) where
  -- each outcome is what its list comes to
  abbrev pub AreTold : List (Found Outcome) → Type 0
  AreTold found = (m : ℕ) (one : Found Outcome) → slice_get found m ≡ Some one
      → o.Tells (state_after s one.turns.items) one.outcome

  -- the cuts and changes are those of the least list, and the outcome is of an end that agrees with it
  pub record TellsOutcome (class : Class Outcome) : Type 0 where
    pub cuts : class.cuts ≡ cuts s class.least.items
    pub changes : class.changes ≡ changes class.least.items
    pub is : List ℕ
    pub agrees : AgreeIn s class.least.items is
    pub tells : o.Tells (state_after s is) class.outcome

  abbrev pub TellOutcomes : List (Class Outcome) → Type 0
  TellOutcomes classes = (m : ℕ) (class : Class Outcome) → slice_get classes m ≡ Some class → TellsOutcome class
