-- Lists of turns: which are full, and what counts in one.
use Rattle.std.specs.Prelude.{◌≡◌, ℕ, ◌==◌, ◌&&◌, List, [], ◌∷◌, Bool, true, false, not, Option, Some, None}
use Rattle.schedule_graph.specs.Words.{plus}

-- the state after an actor's turn, whether an actor has something left to do, and whether it is within a call
pub record Moves (State : Type 0) : Type 0 where
  pub turn : State → ℕ → State
  pub is_busy : State → ℕ → Bool
  pub is_within : State → ℕ → Bool

abbrev pub is_another : Option ℕ → ℕ → Bool
is_another None j = false
is_another (Some i) j = not (i == j)

-- how many turns of the list are another actor's than the turn before
abbrev pub changes_after : Option ℕ → List ℕ → ℕ
changes_after last [] = 0
changes_after last (i ∷ is) = plus (is_another last i) (changes_after (Some i) is)

abbrev pub changes : List ℕ → ℕ
changes is = changes_after None is

module _ {State : Type 0} (m : Moves State) where
  -- the state after these actors' turns
  abbrev pub after : State → List ℕ → State
  after v [] = v
  after v (i ∷ is) = after (m.turn v i) is

  -- nobody has anything left to do
  abbrev pub IsOver : State → Type 0
  IsOver v = (i : ℕ) → m.is_busy v i ≡ false

  -- A full list of turns: each is of an actor who has something left to do then, and after it nobody has.
  abbrev pub IsFull : State → List ℕ → Type 0
  IsFull v [] = IsOver v
  IsFull v (i ∷ is) = (m.is_busy v i ≡ true) × IsFull (m.turn v i) is

  -- each turn is of an actor who has something left to do then
  abbrev pub AreBusy : State → List ℕ → Type 0
  AreBusy v [] = Unit {0}
  AreBusy v (i ∷ is) = (m.is_busy v i ≡ true) × AreBusy (m.turn v i) is

  -- A turn right after one of the last actor cuts a call: it is another's, and the last one's call is under way.
  abbrev pub is_cut : State → Option ℕ → ℕ → Bool
  is_cut v None j = false
  is_cut v (Some i) j = not (i == j) && m.is_within v i

  -- how many turns of the list cut a call, the last turn before being that actor's
  abbrev pub cuts_after : State → Option ℕ → List ℕ → ℕ
  cuts_after v last [] = 0
  cuts_after v last (i ∷ is) = plus (is_cut v last i) (cuts_after (m.turn v i) (Some i) is)
