-- Which lists of turns a search is asked for, what it counts, and why it finds nothing.
use Rattle.std.specs.Prelude.{◌≡◌, ◌<◌, ◌≤◌, ℕ, suc, List, [], ◌∷◌, ◌++◌, false, length, take, Option, Some, None, slice_get}
use Rattle.schedule_graph.specs.declared.fault.SearchFault.{SearchFault}
use Rattle.schedule_graph.specs.declared.fault.SearchFault.TheVariants as fault
use Rattle.layered_search.specs.declared.limits.Bounds.{Bounds}
use Rattle.layered_search.specs.Limits.{ScopeView, LimitsView}
use Rattle.layered_search.specs.Moves.{Moves}
use Rattle.layered_search.specs.Moves as moves
use Rattle.layered_search.specs.System.{System, moves_of, state_after}
use Rattle.layered_search.specs.Lists.{cuts}

-- ---- bounds

-- at most so many, if there is a bound
abbrev pub IsWithin : Option ℕ → ℕ → Type 0
IsWithin None n = Unit {0}
IsWithin (Some most) n = n ≤ most

-- it is that actor, if there is one
abbrev pub IsOnly : Option ℕ → ℕ → Type 0
IsOnly None i = Unit {0}
IsOnly (Some j) i = i ≡ j

-- what the turn after so many is bound by
abbrev pub bounds_at : ScopeView → ℕ → Bounds
bounds_at scope turns = record { cuts = scope.cuts; only = slice_get scope.begin turns }

-- the list begins with these turns, or they begin with it
abbrev pub GoAlong : List ℕ → List ℕ → Type 0
GoAlong [] is = Unit {0}
GoAlong (j ∷ js) [] = Unit {0}
GoAlong (j ∷ js) (i ∷ is) = (i ≡ j) × GoAlong js is

module _ {State : Type 0} (m : Moves State) (begin : State) where
  -- a full list with at most so many cuts, which begins with the turns that are asked for
  pub record IsAskedOf (most : Option ℕ) (first is : List ℕ) : Type 0 where
    pub whole : moves.IsFull m begin is
    pub few_cuts : IsWithin most (moves.cuts_after m begin None is)
    pub begins : (rest : List ℕ) × (is ≡ first ++ rest)

  -- some list that is asked for has so many turns, and none has more
  pub record IsLongestOf (most : Option ℕ) (first : List ℕ) (turns : ℕ) : Type 0 where
    pub reached : (is : List ℕ) × (IsAskedOf most first is × (length is ≡ turns))
    pub bounded : (is : List ℕ) → IsAskedOf most first is → length is ≤ turns

  -- ---- states

  -- Each turn of the list is of an actor who has something left to do then, and there are few cuts; it begins as is
  -- asked for, as far as it goes.
  pub record IsOnWayOf (most : Option ℕ) (first is : List ℕ) : Type 0 where
    pub busy : moves.AreBusy m begin is
    pub few_cuts : IsWithin most (moves.cuts_after m begin None is)
    pub begins : GoAlong first is

  module _ (CountAsOne : State → State → Type 0) where
    -- Two lists have one state: they are as long, and lead to states that count as one.
    abbrev pub HaveOneStateOf : List ℕ → List ℕ → Type 0
    HaveOneStateOf is js = (length is ≡ length js) × CountAsOne (moves.after m begin is) (moves.after m begin js)

    -- each of the lists is on the way, and no two have one state
    pub record AreApartStatesOf (most : Option ℕ) (first : List ℕ) (lists : List (List ℕ)) : Type 0 where
      pub each : (k : ℕ) (is : List ℕ) → slice_get lists k ≡ Some is → IsOnWayOf most first is
      pub apart : (k l : ℕ) (is js : List ℕ) → slice_get lists k ≡ Some is → slice_get lists l ≡ Some js
          → HaveOneStateOf is js → k ≡ l

    -- one of the lists has this list's state
    abbrev pub HasItsStateOf : List (List ℕ) → List ℕ → Type 0
    HasItsStateOf lists is = (k : ℕ) × ((js : List ℕ) × ((slice_get lists k ≡ Some js) × HaveOneStateOf is js))

    -- there are so many states of lists on the way
    pub record AreStatesOf (most : Option ℕ) (first : List ℕ) (n : ℕ) : Type 0 where
      pub lists : List (List ℕ)
      pub many : length lists ≡ n
      pub apart : AreApartStatesOf most first lists
      pub all : (is : List ℕ) → IsOnWayOf most first is → HasItsStateOf lists is

module _ {State : Type 0} (s : System State) where
  -- ---- the same of a system

  abbrev pub IsAsked : ScopeView → List ℕ → Type 0
  IsAsked scope = IsAskedOf (moves_of s) s.begin scope.cuts scope.begin

  abbrev pub IsLongest : ScopeView → ℕ → Type 0
  IsLongest scope = IsLongestOf (moves_of s) s.begin scope.cuts scope.begin

  abbrev pub IsOnWay : ScopeView → List ℕ → Type 0
  IsOnWay scope = IsOnWayOf (moves_of s) s.begin scope.cuts scope.begin

  abbrev pub HaveOneState : List ℕ → List ℕ → Type 0
  HaveOneState = HaveOneStateOf (moves_of s) s.begin s.CountAsOne

  abbrev pub AreApartStates : ScopeView → List (List ℕ) → Type 0
  AreApartStates scope = AreApartStatesOf (moves_of s) s.begin s.CountAsOne scope.cuts scope.begin

  abbrev pub HasItsState : List (List ℕ) → List ℕ → Type 0
  HasItsState = HasItsStateOf (moves_of s) s.begin s.CountAsOne

  abbrev pub AreStates : ScopeView → ℕ → Type 0
  AreStates scope = AreStatesOf (moves_of s) s.begin s.CountAsOne scope.cuts scope.begin

  -- the two lists lead to the same outcome
  abbrev pub AgreeIn : List ℕ → List ℕ → Type 0
  AgreeIn is js = s.Agree (state_after s is) (state_after s js)

  -- there are more states than so many
  pub record HasMoreStates (scope : ScopeView) (n : ℕ) : Type 0 where
    pub lists : List (List ℕ)
    pub more : n < length lists
    pub apart : AreApartStates scope lists

  -- ---- why nothing is found

  -- a list on the way has more turns than so many
  abbrev pub IsTooLong : ScopeView → ℕ → List ℕ → Type 0
  IsTooLong scope turns is = IsOnWay scope is × (turns < length is)

  -- the turn at that place of the beginning is of an actor who has nothing left to do then
  pub record IsIdle (begin : List ℕ) (at : ℕ) : Type 0 where
    pub actor : ℕ
    pub there : slice_get begin at ≡ Some actor
    pub idle : s.is_busy (state_after s (take at begin)) actor ≡ false

  -- a search is of at most 64 actors
  abbrev pub WhyNot : LimitsView → SearchFault → Type 0
  WhyNot limits fault.TooManyActors = 64 < s.actors
  WhyNot limits fault.TooManyTurns = (is : List ℕ) × IsTooLong limits.scope limits.turns is
  WhyNot limits fault.TooManyStates = HasMoreStates limits.scope limits.states
  WhyNot limits (fault.NotBusy at) = IsIdle limits.scope.begin at
  WhyNot limits (fault.TooManyCuts at) =
      IsWithin limits.scope.cuts (cuts s (take (suc at) limits.scope.begin)) → ⊥
  WhyNot limits fault.NoMemory = Unit {0}
