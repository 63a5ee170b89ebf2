-- Runs that go on by one turn, or by one actor.
use Rattle.std.proofs.Common.{◌≡◌, ◌≢◌, ℕ, zero, suc, ◌+◌, ◌<◌, ◌⊎◌, inl, inr, List, [], ◌∷◌, ◌++◌, Bool, true, false, length, get_or, Some, None, slice_get, ltb-true, refl, sym, ap, subst, ◌∙◌, arith, add-one}
use Rattle.std.proofs.Math.Nat.{eq-or-lt_of_le}
use Rattle.std.specs.Prelude.{nat_lt, if◌then◌else◌}
use Rattle.race_core.specs.declared.seat.Seat.{Seat}
use Rattle.race_core.specs.Worlds.{WorldView, turn, TakesTurn, Runs, again, GoesToEnd, AllGoToEnd, numbers_below, is_busy_in, is_busy_at, AllOver, first_beyond}

pub runs_more : (w : WorldView) (is : List ℕ) (u v : WorldView) (i : ℕ) → Runs w is u → TakesTurn u i v → Runs w (is ++ i ∷ []) v
runs_more w [] u v i ran taken = (taken.luck, taken.is ∙ ap (λ x. turn taken.luck x i) ran)
runs_more w (j ∷ is) u v i ran taken = (ran.0, runs_more (turn ran.0 w j) is u v i ran.1 taken)

again_more : (i k : ℕ) → again i k ++ i ∷ [] ≡ again i (suc k)
again_more i zero = refl
again_more i (suc k) = ap (λ is. i ∷ is) (again_more i k)

pub runs_again : (w : WorldView) (i k : ℕ) (u v : WorldView) → Runs w (again i k) u → TakesTurn u i v → Runs w (again i (suc k)) v
runs_again w i k u v ran taken = subst (λ is. Runs w is v) (again_more i k) (runs_more w (again i k) u v i ran taken)

pub all_more : (w : WorldView) (is : List ℕ) (u v : WorldView) (i : ℕ) → AllGoToEnd w is u → GoesToEnd u i v → AllGoToEnd w (is ++ i ∷ []) v
all_more w [] u v i gone goes = (v, subst (λ x. GoesToEnd x i v) gone goes, refl)
all_more w (j ∷ is) u v i gone goes = (gone.0, gone.1, all_more gone.0 is u v i gone.2 goes)

pub below_more : (w : WorldView) (u v : WorldView) (n : ℕ) → AllGoToEnd w (numbers_below n) u → GoesToEnd u n v → AllGoToEnd w (numbers_below (n + 1)) v
below_more w u v n gone goes = rw add-one (all_more w (numbers_below n) u v n gone goes)

pub all_over : (seats : List Seat) → ((i : ℕ) → i < length seats → is_busy_at seats i ≡ false) → AllOver seats
all_over [] over = tt
all_over (seat ∷ seats) over = (over zero (omega arith), all_over seats (λ i h. over (suc i) (omega arith)))

-- a number of a schedule that has none beyond is an actor's
pub is_within : (actors : ℕ) (is : List ℕ) (k : ℕ) → first_beyond actors is ≡ None → k < length is → get_or is k 0 < actors
is_within actors [] k none h = absurd (omega arith)
is_within actors (i ∷ is) k none h = by_test (λ j e l. is_within actors is j e l) (nat_lt i actors) refl k none h where
  by_test : ((j : ℕ) → first_beyond actors is ≡ None → j < length is → get_or is j 0 < actors)
      → (b : Bool) → nat_lt i actors ≡ b → (k : ℕ) → (if nat_lt i actors then first_beyond actors is else Some i) ≡ None → k < length (i ∷ is)
      → get_or (i ∷ is) k 0 < actors
  by_test rest true e zero none h = ltb-true i actors e
  by_test rest true e (suc k) none h = rest k (subst (λ b. (if b then first_beyond actors is else Some i) ≡ None) e none) (omega arith)
  by_test rest false e k none h = let bad = subst (λ b. (if b then first_beyond actors is else Some i) ≡ None) e none in cc

-- one actor more has gone to its end
pub over_more : (old new : List Seat) (n : ℕ) → ((i : ℕ) → i < n → is_busy_at old i ≡ false) → is_busy_at new n ≡ false
    → ((i : ℕ) → i ≢ n → slice_get new i ≡ slice_get old i) → (i : ℕ) → i < n + 1 → is_busy_at new i ≡ false
over_more old new n over here others i h = by_cases (eq-or-lt_of_le (omega arith)) where
  by_cases : (i ≡ n) ⊎ (i < n) → is_busy_at new i ≡ false
  by_cases (inr less) = ap is_busy_in (others i (omega arith)) ∙ over i less
  by_cases (inl same) = subst (λ k. is_busy_at new k ≡ false) (sym same) here
