-- When a call is begun again, and after which pause.
use Rattle.std.specs.Prelude.{◌≡◌, ℕ, zero, suc, ◌+◌, ◌-◌, ◌*◌, ◌^◌, ◌==◌, Bool, true, false, not, ◌&&◌, if◌then◌else◌, nat_lt, min}
use Rattle.system_calls.specs.Errors.{EAGAIN}
use Rattle.system_calls.specs.declared.tries.NextTry.{NextTry}

-- a call makes so many tries, and the first of them one right after another
abbrev pub TRIES : ℕ
TRIES = 32

abbrev pub AT_ONCE : ℕ
AT_ONCE = 8

-- nanoseconds: 10 microseconds at first, and a millisecond at most
abbrev pub FIRST_PAUSE : ℕ
FIRST_PAUSE = 10000

abbrev pub PAUSE_MAX : ℕ
PAUSE_MAX = 1000000

-- After so many tries another one is due: the caller lets the call try again, the last try failed since others were
-- there, it didn't lose what it had made, and there are tries left.
abbrev pub is_due : ℕ → Bool → ℕ → Bool → Bool
is_due tries may_retry error lost = may_retry && ((error == EAGAIN) && (not lost && nat_lt tries TRIES))

-- the pause doubles with each try
abbrev pub pause_after : ℕ → ℕ
pause_after tries = if nat_lt tries AT_ONCE then 0 else min (FIRST_PAUSE * 2 ^ (tries - AT_ONCE)) PAUSE_MAX

abbrev pub next_try : ℕ → Bool → ℕ → Bool → NextTry
next_try tries may_retry error lost =
    if is_due tries may_retry error lost then (record { due = true; pause = pause_after tries })
    else (record { due = false; pause = 0 })

-- the pauses after so many tries, from the first on
abbrev pub pauses_after : ℕ → ℕ
pauses_after zero = 0
pauses_after (suc tries) = pauses_after tries + pause_after (suc tries)

-- All pauses that a call can make: less than 19 milliseconds.
abbrev pub PausesAddUp : Type 0
PausesAddUp = pauses_after (TRIES - 1) ≡ 18270000
