-- Lists of turns of a system: which are full, and what counts in one. The order of lists is that of words of a graph.
use Rattle.std.specs.Prelude.{◌≡◌, ℕ, List, Bool, true, false, Option, None}
pub use Rattle.schedule_graph.specs.Words.{plus, is_less_or, is_not_after, Rank, is_at_most}
pub use Rattle.layered_search.specs.Moves.{is_another, changes_after, changes}
use Rattle.layered_search.specs.Moves as moves
use Rattle.layered_search.specs.System.{System, moves_of}

module _ {State : Type 0} (s : System State) where
  -- nobody has anything left to do
  abbrev pub IsOver : State → Type 0
  IsOver v = moves.IsOver (moves_of s) v

  -- whether it is so; else somebody has
  abbrev pub IsEnd : Bool → State → Type 0
  IsEnd true v = IsOver v
  IsEnd false v = (i : ℕ) × (s.is_busy v i ≡ true)

  abbrev pub IsFull : State → List ℕ → Type 0
  IsFull v is = moves.IsFull (moves_of s) v is

  abbrev pub AreBusy : State → List ℕ → Type 0
  AreBusy v is = moves.AreBusy (moves_of s) v is

  -- ---- what counts

  abbrev pub is_cut : State → Option ℕ → ℕ → Bool
  is_cut v last j = moves.is_cut (moves_of s) v last j

  abbrev pub cuts_after : State → Option ℕ → List ℕ → ℕ
  cuts_after v last is = moves.cuts_after (moves_of s) v last is

  abbrev pub cuts : List ℕ → ℕ
  cuts is = cuts_after s.begin None is

  -- by this a list is ordered: by the cuts, then by the changes of actor, then as lists
  abbrev pub rank : List ℕ → Rank
  rank is = record { cuts = cuts is; changes = changes is; turns = is }
