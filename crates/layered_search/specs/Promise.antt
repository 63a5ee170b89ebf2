-- What a search of all schedules finds.
use Rattle.std.specs.Prelude.{◌≡◌, ℕ, List, true, slice_get, Some}
use Rattle.schedule_graph.specs.Counted.{AreSoMany}
use Rattle.layered_search.specs.Limits.{ScopeView}
use Rattle.layered_search.specs.System.{System}
use Rattle.layered_search.specs.Lists.{rank, is_at_most}
use Rattle.layered_search.specs.Asked.{IsAsked, AgreeIn, IsLongest}

-- an outcome: the least of its lists, and how many lead to it
pub record ClassView : Type 0 where
  pub least : List ℕ
  pub lists : ℕ

module _ {State : Type 0} (s : System State) where
  -- one of the classes has this list's outcome
  pub record HasClass (classes : List ClassView) (is : List ℕ) : Type 0 where
    pub at : ℕ
    pub class : ClassView
    pub there : slice_get classes at ≡ Some class
    pub agrees : AgreeIn s is class.least

  -- The list is asked for; it is the least of those that are and lead to its outcome, and so many do.
  pub record IsMergedClass (scope : ScopeView) (class : ClassView) : Type 0 where
    pub asked : IsAsked s scope class.least
    pub least : (is : List ℕ) → IsAsked s scope is → AgreeIn s is class.least
        → is_at_most (rank s class.least) (rank s is) ≡ true
    pub lists : AreSoMany (λ is. IsAsked s scope is × AgreeIn s is class.least) class.lists

  -- All lists that are asked for are counted; each has its outcome among the classes, and no two classes have the same
  -- one.
  pub record IsMerged (scope : ScopeView) (classes : List ClassView) (lists turns : ℕ) : Type 0 where
    pub counted : AreSoMany (IsAsked s scope) lists
    pub longest : IsLongest s scope turns
    pub told : (is : List ℕ) → IsAsked s scope is → HasClass classes is
    pub apart : (k l : ℕ) (c d : ClassView) → slice_get classes k ≡ Some c → slice_get classes l ≡ Some d
        → AgreeIn s c.least d.least → k ≡ l
    pub each : (k : ℕ) (c : ClassView) → slice_get classes k ≡ Some c → IsMergedClass scope c
