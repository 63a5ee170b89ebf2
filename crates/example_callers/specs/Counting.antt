-- A count of steps.
use Rattle.std.specs.Prelude.{ℕ, suc, ◌-◌, ◌^◌, min}

-- one more, up to the largest number of 64 bits
abbrev pub counted : ℕ → ℕ
counted n = min (suc n) (2 ^ 64 - 1)
