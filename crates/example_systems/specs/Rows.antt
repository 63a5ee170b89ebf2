-- A small number for each actor.
use Rattle.std.specs.Prelude.{◌≡◌, ◌<◌, ◌&&◌, ℕ, List, Bool, true, false, nat_lt, slice_index_or}
use Rattle.std.proofs.Common.{rules}

-- the actor's number, or 255 where the row has none
abbrev pub entry : List ℕ → ℕ → ℕ
entry row i = slice_index_or row i 255

-- ---- for the laws of systems

pub below : (i actors : ℕ) (may : Bool) → (nat_lt i actors && may) ≡ true → i < actors
below i actors may busy = search rules

pub idle_outside : (is_busy begun : Bool) → is_busy ≡ false → (is_busy && begun) ≡ false
idle_outside is_busy begun idle = search rules
