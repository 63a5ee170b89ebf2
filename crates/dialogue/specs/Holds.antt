-- What holds of whole conversations, by what their exchanges come to.
use Rattle.std.specs.Prelude.{ℕ, ◌≤◌, ◌==◌, List, [], ◌∷◌, length, Bool, false, ◌||◌}
use Rattle.dialogue.specs.Dialogue.{DialogueOf, ExchangeOf, Protocol, Whole, system_calls, without_signals}

-- The state that exchanges come to, one after another; and which questions may come in a state.
pub record WatchOf (P : Protocol) (S : Type 0) : Type 1 where
  pub by : S → ExchangeOf P → S
  pub May : S → P.Asked → Type 0

abbrev pub Watch : Type 0 → Type 1
Watch S = WatchOf system_calls S

abbrev pub state_after : {P : Protocol} {S : Type 0} → WatchOf P S → S → List (ExchangeOf P) → S
state_after w s [] = s
state_after w s (x ∷ xs) = state_after w (w.by s x) xs

abbrev pub AllMay : {P : Protocol} {S : Type 0} → WatchOf P S → S → List (ExchangeOf P) → Type 0
AllMay w s [] = Unit {0}
AllMay w s (x ∷ xs) = w.May s x.asked × AllMay w (w.by s x) xs

-- The exchanges are so many at most; each question comes where it may; and what they come to in the end.
pub record Holds {P : Protocol} {S : Type 0} (w : WatchOf P S) (most : ℕ) (first : S) (es : List (ExchangeOf P))
    (Ends : S → Type 0) : Type 0 where
  pub few : length es ≤ most
  pub fair : AllMay w first es
  pub ends : Ends (state_after w first es)

-- what so holds of each whole conversation, except for signals
abbrev pub EachHolds : {P : Protocol} {S E : Type 0} → WatchOf P S → ℕ → S → DialogueOf P E → (S → E → Type 0) → Type 0
EachHolds {P} {S} {E} w most first m Ends =
    (es : List (ExchangeOf P)) (e : E) → Whole m es e → Holds w most first (without_signals es) (λ s. Ends s e)

-- among these descriptors
abbrev pub is_in : ℕ → List ℕ → Bool
is_in fd [] = false
is_in fd (x ∷ xs) = (x == fd) || is_in fd xs
