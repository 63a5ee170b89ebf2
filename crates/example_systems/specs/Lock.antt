-- Actors who take a lock before they count.
use Rattle.std.specs.Prelude.{ℕ, ◌+◌, ◌%◌, ◌==◌, ◌&&◌, Bool, true, false, not, cond, nat_lt, [], ◌∷◌, slice_set}
use Rattle.example_systems.specs.declared.lock.Locking.{Locking}
use Rattle.example_systems.specs.Rows.{entry, below, idle_outside}
use Rattle.example_systems.specs.Plain.{Plain, IsPlain}

abbrev pub begin : Locking
begin = record { number = 0; is_taken = false; turns = 0 ∷ 0 ∷ 0 ∷ [] }

-- Each of the actors has three turns. By the first it takes the lock, so it can't have it while the lock is taken.
abbrev pub is_busy : ℕ → Locking → ℕ → Bool
is_busy actors v i = nat_lt i actors && cond (entry v.turns i == 0) (not v.is_taken) (nat_lt (entry v.turns i) 3)

-- it can go on, and has the lock
abbrev pub is_within : ℕ → Locking → ℕ → Bool
is_within actors v i = is_busy actors v i && nat_lt 0 (entry v.turns i)

-- it takes the lock, adds one to the number, and lets go of the lock
abbrev pub turn : Locking → ℕ → Locking
turn v i = cond (entry v.turns i == 0)
    (record { number = v.number; is_taken = true; turns = slice_set v.turns i 1 })
    (cond (entry v.turns i == 1)
    (record { number = (v.number + 1) % 256; is_taken = v.is_taken; turns = slice_set v.turns i 2 })
    (record { number = v.number; is_taken = false; turns = slice_set v.turns i 3 }))

-- an end comes to the number
abbrev pub lock : ℕ → Plain Locking ℕ
lock actors = record {
  begin = begin;
  actors = actors;
  turn = turn;
  is_busy = is_busy actors;
  is_within = is_within actors;
  outcome = λ v. v.number;
}

pub lock_is_plain : (actors : ℕ) → IsPlain (lock actors)
lock_is_plain actors = record {
  few = λ v i busy.
      below i actors (cond (entry v.turns i == 0) (not v.is_taken) (nat_lt (entry v.turns i) 3)) busy;
  idle_outside = λ v i idle. idle_outside (is_busy actors v i) (nat_lt 0 (entry v.turns i)) idle;
}
