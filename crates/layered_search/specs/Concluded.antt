-- How what a search of all schedules finds follows from the counts of its graph.
use Rattle.std.specs.Prelude.{◌≡◌, ℕ, List, length, slice_get, Some}
use Rattle.std.specs.Global.{Vec}
use Rattle.schedule_graph.specs.declared.graph.Node.{Node}
use Rattle.schedule_graph.specs.declared.count.Count.{Count}
use Rattle.schedule_graph.specs.declared.count.Counts.{Counts}
use Rattle.schedule_graph.specs.Words as words
use Rattle.schedule_graph.specs.Counted.{AreCounts}
use Rattle.layered_search.specs.Limits.{ScopeView}
use Rattle.layered_search.specs.System.{System}
use Rattle.layered_search.specs.Lists.{cuts, changes}
use Rattle.layered_search.specs.Asked.{IsAsked, AgreeIn}
use Rattle.layered_search.specs.Merged.{Places, IsFit}
use Rattle.layered_search.specs.Promise.{ClassView, IsMerged}

-- ---- from what

-- the class has the least list that was counted, and so many were
pub record IsCountedBy (count : Count) (class : ClassView) : Type 0 where
  pub least : words.Rank
  pub counted : count.least ≡ Some least
  pub turns : class.least ≡ least.turns
  pub lists : class.lists ≡ count.words

-- as many classes as were found, each counted
pub record AreCountedBy (found : List (List ℕ)) (counts : List Count) (classes : List ClassView) : Type 0 where
  pub as_many : length classes ≡ length found
  pub each : (k : ℕ) (class : ClassView) → slice_get classes k ≡ Some class
      → (count : Count) × ((slice_get counts k ≡ Some count) × IsCountedBy count class)

-- each count has a least list
abbrev pub AreShort : List Count → Type 0
AreShort counts = (k : ℕ) (count : Count) → slice_get counts k ≡ Some count
    → (least : words.Rank) × (count.least ≡ Some least)

module _ {State : Type 0} (s : System State) where
  -- the outcomes that were found, each by some list that is asked for, and no two the same
  pub record AreFound (scope : ScopeView) (found : List (List ℕ)) : Type 0 where
    pub asked : (k : ℕ) (is : List ℕ) → slice_get found k ≡ Some is → IsAsked s scope is
    pub apart : (k l : ℕ) (is js : List ℕ) → slice_get found k ≡ Some is → slice_get found l ≡ Some js
        → AgreeIn s is js → k ≡ l

  -- there is a least list that was counted; it is asked for, leads to that outcome, and has its own cuts and changes
  pub record HasLeast (scope : ScopeView) (is : List ℕ) (count : Count) : Type 0 where
    pub least : words.Rank
    pub counted : count.least ≡ Some least
    pub asked : IsAsked s scope least.turns
    pub agrees : AgreeIn s least.turns is
    pub cuts : least.cuts ≡ cuts s least.turns
    pub changes : least.changes ≡ changes least.turns

  -- ---- the laws

  -- Each outcome that was found has a least list among those that a fitting graph counts.
  abbrev pub FoundClassesHaveLeasts : Type 0
  FoundClassesHaveLeasts = (scope : ScopeView) (layers : List (Vec Node)) (found : List (List ℕ)) (at : Places State)
      (counts : Counts) → IsFit s scope layers found at → AreFound scope found → AreCounts layers counts
      → (k : ℕ) (is : List ℕ) (count : Count) → slice_get found k ≡ Some is
      → slice_get counts.classes.items k ≡ Some count → HasLeast scope is count

  -- And classes that are counted so are what all lists that are asked for come to.
  abbrev pub CountsConclude : Type 0
  CountsConclude = (scope : ScopeView) (layers : List (Vec Node)) (found : List (List ℕ)) (at : Places State)
      (counts : Counts) (classes : List ClassView)
      → IsFit s scope layers found at → AreFound scope found → AreCounts layers counts
      → AreCountedBy found counts.classes.items classes
      → IsMerged s scope classes counts.all.words counts.all.longest
