-- Actors who add one to a number that they share.
use Rattle.std.specs.Prelude.{ℕ, ◌+◌, ◌%◌, ◌==◌, ◌&&◌, Bool, cond, nat_lt, [], ◌∷◌, slice_set}
use Rattle.example_systems.specs.declared.counter.Counting.{Counting}
use Rattle.example_systems.specs.Rows.{entry, below, idle_outside}
use Rattle.example_systems.specs.Plain.{Plain, IsPlain}

abbrev pub begin : Counting
begin = record { number = 0; read = 0 ∷ 0 ∷ 0 ∷ []; turns = 0 ∷ 0 ∷ 0 ∷ [] }

-- each of the actors has two turns
abbrev pub is_busy : ℕ → Counting → ℕ → Bool
is_busy actors v i = nat_lt i actors && nat_lt (entry v.turns i) 2

-- it can go on, and has read
abbrev pub is_within : ℕ → Counting → ℕ → Bool
is_within actors v i = is_busy actors v i && nat_lt 0 (entry v.turns i)

-- By the first turn it reads the number. By the second it writes what it has read plus one, and forgets it.
abbrev pub turn : Counting → ℕ → Counting
turn v i = cond (entry v.turns i == 0)
    (record { number = v.number; read = slice_set v.read i v.number; turns = slice_set v.turns i 1 })
    (record {
      number = (entry v.read i + 1) % 256;
      read = slice_set v.read i 0;
      turns = slice_set v.turns i 2;
    })

-- an end comes to the number
abbrev pub counter : ℕ → Plain Counting ℕ
counter actors = record {
  begin = begin;
  actors = actors;
  turn = turn;
  is_busy = is_busy actors;
  is_within = is_within actors;
  outcome = λ v. v.number;
}

pub counter_is_plain : (actors : ℕ) → IsPlain (counter actors)
counter_is_plain actors = record {
  few = λ v i busy. below i actors (nat_lt (entry v.turns i) 2) busy;
  idle_outside = λ v i idle. idle_outside (is_busy actors v i) (nat_lt 0 (entry v.turns i)) idle;
}
