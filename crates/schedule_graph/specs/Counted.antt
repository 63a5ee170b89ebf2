-- How many words there are, and the least of them.
use Rattle.std.specs.Prelude.{◌≡◌, ◌≤◌, ◌⊎◌, ℕ, min, List, [], ◌∷◌, true, length, Option, Some, None, slice_get}
use Rattle.std.specs.Global.{Vec}
use Rattle.schedule_graph.specs.Words.{Rank, is_at_most, rank, IsWordOf, IsSomeWord}
use Rattle.schedule_graph.specs.declared.graph.Node.{Node}
use Rattle.schedule_graph.specs.declared.count.Count.{Count}
use Rattle.schedule_graph.specs.declared.count.Counts.{Counts}
use Rattle.schedule_graph.specs.declared.count.TheConstants.{COUNT_CAP}

-- ---- so many words

abbrev pub IsAmong : {A : Type 0} → A → List A → Type 0
IsAmong x [] = ⊥
IsAmong x (y ∷ ys) = (x ≡ y) ⊎ IsAmong x ys

abbrev pub EachOnce : {A : Type 0} → List A → Type 0
EachOnce [] = Unit {0}
EachOnce (x ∷ xs) = (¬ IsAmong x xs) × EachOnce xs

-- all of which it holds, each once
pub record AreAll (P : List ℕ → Type 0) (words : List (List ℕ)) : Type 0 where
  pub each : (word : List ℕ) → IsAmong word words → P word
  pub all : (word : List ℕ) → P word → IsAmong word words
  pub once : EachOnce words

-- it holds of so many words; the cap stands for itself and all that is more
pub record AreSoMany (P : List ℕ → Type 0) (n : ℕ) : Type 0 where
  pub words : List (List ℕ)
  pub are_all : AreAll P words
  pub count : n ≡ min (length words) COUNT_CAP

-- It holds of no word longer than that, and of one that is as long, if of any; of none: 0.
pub record IsLongest (P : List ℕ → Type 0) (longest : ℕ) : Type 0 where
  pub bounded : (word : List ℕ) → P word → length word ≤ longest
  pub reached : ((longest ≡ 0) × ((word : List ℕ) → P word → ⊥))
      ⊎ ((word : List ℕ) × (P word × (length word ≡ longest)))

-- it holds of that word, and each other of which it holds is as great or greater
pub record IsLeastWord (rank : List ℕ → Rank) (P : List ℕ → Type 0) (least : Rank) : Type 0 where
  pub is : P least.turns
  pub ranked : least ≡ rank least.turns
  pub below : (word : List ℕ) → P word → is_at_most (rank least.turns) (rank word) ≡ true

-- the least word of which it holds, or none where it holds of none
abbrev pub IsLeast : (List ℕ → Rank) → (List ℕ → Type 0) → Option Rank → Type 0
IsLeast rank P None = (word : List ℕ) → P word → ⊥
IsLeast rank P (Some least) = IsLeastWord rank P least

-- how many words it holds of, the length of the longest of them, and the least
pub record IsCount (rank : List ℕ → Rank) (P : List ℕ → Type 0) (count : Count) : Type 0 where
  pub words : AreSoMany P count.words
  pub longest : IsLongest P count.longest
  pub least : IsLeast rank P count.least

-- ---- what a graph comes to

-- each class's words, and all words, are counted
pub record AreCounts (layers : List (Vec Node)) (counts : Counts) : Type 0 where
  pub each : (class : ℕ) (count : Count) → slice_get counts.classes.items class ≡ Some count
      → IsCount (rank layers) (IsWordOf layers class) count
  pub all : IsCount (rank layers) (IsSomeWord layers) counts.all
