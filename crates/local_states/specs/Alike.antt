-- What is the same but for the numbers of handles: steps, answers and seats by pairs of handles.
use Rattle.std.specs.Prelude.{◌≡◌, ℕ, Bool, true}
use Rattle.tree_model.specs.declared.answer.Answer.{Answer}
use Rattle.tree_model.specs.StepWith.{StepWith}
use Rattle.race_core.specs.declared.seat.Seat.{Seat}
use Rattle.race_core.specs.Renamed.{step_by, answer_by, seat_by}

-- ---- handles that stand for one another

-- whether the handle of the one number, in the one world, is that of the other number in the other
abbrev pub Pairs : Type 0
Pairs = ℕ → ℕ → Bool

-- both replacements give one number to the two handles of each pair
abbrev pub Agree : Pairs → (ℕ → ℕ) → (ℕ → ℕ) → Type 0
Agree pairs f g = (h k : ℕ) → pairs h k ≡ true → f h ≡ g k

-- Two things are the same but for handles that are paired: whatever replacements give pairs one number make them
-- equal.
abbrev pub SameSteps : Pairs → StepWith ℕ → StepWith ℕ → Type 0
SameSteps pairs s t = (f g : ℕ → ℕ) → Agree pairs f g → step_by f s ≡ step_by g t

abbrev pub SameAnswers : Pairs → Answer → Answer → Type 0
SameAnswers pairs s t = (f g : ℕ → ℕ) → Agree pairs f g → answer_by f s ≡ answer_by g t

abbrev pub SameSeats : Pairs → Seat → Seat → Type 0
SameSeats pairs s t = (f g : ℕ → ℕ) → Agree pairs f g → seat_by f s ≡ seat_by g t
