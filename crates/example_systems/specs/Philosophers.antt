-- Philosophers at a round table, with a fork between any two neighbours.
use Rattle.std.specs.Prelude.{ℕ, ◌+◌, ◌%◌, ◌==◌, ◌&&◌, Bool, cond, nat_lt, [], ◌∷◌, slice_set}
use Rattle.example_systems.specs.declared.philosophers.Philosophers.{Philosophers}
use Rattle.example_systems.specs.declared.philosophers.Table.{Table}
use Rattle.example_systems.specs.declared.philosophers.Meal.{Meal}
use Rattle.example_systems.specs.declared.philosophers.Meal.TheVariants as meal
use Rattle.example_systems.specs.Rows.{entry, below, idle_outside}
use Rattle.example_systems.specs.Plain.{Plain, IsPlain}

abbrev pub begin : Table
begin = record { hands = 0 ∷ 0 ∷ 0 ∷ []; turns = 0 ∷ 0 ∷ 0 ∷ []; eaten = 0 }

module _ (p : Philosophers) where
  -- The fork on a philosopher's left has the philosopher's number; the one on the last one's right is the first.
  abbrev pub right : ℕ → ℕ
  right i = cond (nat_lt (i + 1) p.actors) (i + 1) 0

  abbrev pub takes_right_first : ℕ → Bool
  takes_right_first i = p.is_mixed && i + 1 == p.actors

  abbrev pub first_fork : ℕ → ℕ
  first_fork i = cond (takes_right_first i) (right i) i

  abbrev pub second_fork : ℕ → ℕ
  second_fork i = cond (takes_right_first i) i (right i)

  abbrev pub is_free : Table → ℕ → Bool
  is_free v fork = entry v.hands fork == 0

  -- the philosopher can take the next fork, or has both
  abbrev pub is_busy : Table → ℕ → Bool
  is_busy v i = nat_lt i p.actors && cond (entry v.turns i == 0) (is_free v (first_fork i))
      (cond (entry v.turns i == 1) (is_free v (second_fork i)) (nat_lt (entry v.turns i) 3))

  -- it can go on, and has a fork
  abbrev pub is_within : Table → ℕ → Bool
  is_within v i = is_busy v i && nat_lt 0 (entry v.turns i)

  -- it takes one fork, and the other one; it eats, and lays both down
  abbrev pub turn : Table → ℕ → Table
  turn v i = cond (entry v.turns i == 0)
      (record { hands = slice_set v.hands (first_fork i) 1; turns = slice_set v.turns i 1; eaten = v.eaten })
      (cond (entry v.turns i == 1)
      (record { hands = slice_set v.hands (second_fork i) 1; turns = slice_set v.turns i 2; eaten = v.eaten })
      (record {
        hands = slice_set (slice_set v.hands (first_fork i) 0) (second_fork i) 0;
        turns = slice_set v.turns i 3;
        eaten = (v.eaten + 1) % 256;
      }))

  abbrev pub outcome : Table → Meal
  outcome v = cond (v.eaten == p.actors) meal.Eaten meal.Deadlock

  abbrev pub philosophers : Plain Table Meal
  philosophers = record {
    begin = begin;
    actors = p.actors;
    turn = turn;
    is_busy = is_busy;
    is_within = is_within;
    outcome = outcome;
  }

  pub philosophers_are_plain : IsPlain philosophers
  philosophers_are_plain = record {
    few = λ v i busy. below i p.actors (cond (entry v.turns i == 0) (is_free v (first_fork i))
        (cond (entry v.turns i == 1) (is_free v (second_fork i)) (nat_lt (entry v.turns i) 3))) busy;
    idle_outside = λ v i idle. idle_outside (is_busy v i) (nat_lt 0 (entry v.turns i)) idle;
  }
