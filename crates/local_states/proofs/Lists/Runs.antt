-- Turns one after another, and runs to the end.
use Rattle.std.specs.Prelude.{◌≡◌, ℕ, false, Option, Some, None, length, slice_get, refl, zero, suc, List, [], ◌∷◌, ◌++◌}
use Rattle.std.proofs.Common.{ap, ◌∙◌, subst}
use Rattle.layered_search.proofs.Places.{length_set}
use Rattle.race_core.specs.declared.seat.Seat.{Seat}
use Rattle.race_core.specs.Turns.{Luck, turned}
use Rattle.race_core.specs.Worlds.{WorldView, turn_of, turn, ledgers_in, replies_in, is_busy_at, AllOver, Runs, again, AllGoToEnd}
use Rattle.local_states.specs.Worlds.{full, after_turns}

-- ---- as many actors as ever

pub turn_stays : (luck : Luck) (w : WorldView) (i : ℕ) → length (turn luck w i).seats ≡ length w.seats
turn_stays luck w i = by (slice_get w.seats i)
  where
    by : (seat : Option Seat) → length (turn_of luck w i seat).seats ≡ length w.seats
    by None = refl
    by (Some seat) = length_set w.seats i (turned luck w.book seat.ledger seat.doing).seat

pub actors_stay : (w : WorldView) (is : List ℕ) → length (after_turns w is).seats ≡ length w.seats
actors_stay w [] = refl
actors_stay w (i ∷ is) = actors_stay (turn full w i) is ∙ turn_stays full w i

pub replies_of_seats : (seats : List Seat) → length (replies_in (ledgers_in seats)) ≡ length seats
replies_of_seats [] = refl
replies_of_seats (seat ∷ seats) = ap suc (replies_of_seats seats)

-- ---- turns one after another

pub runs_append : (w u v : WorldView) (is js : List ℕ) → Runs w is u → Runs u js v → Runs w (is ++ js) v
runs_append w u v [] js run more = subst (λ x. Runs x js v) run more
runs_append w u v (i ∷ is) js run more = (run.0, runs_append (turn run.0 w i) u v is js run.1 more)

pub ends_run : (w v : WorldView) (is : List ℕ) → AllGoToEnd w is v → (js : List ℕ) × Runs w js v
ends_run w v [] e = ([], e)
ends_run w v (i ∷ is) goes =
    let rest = ends_run goes.0 v is goes.2 in
    (again i goes.1.turns ++ rest.0, runs_append w goes.0 v (again i goes.1.turns) rest.0 goes.1.run rest.1)

pub over_at : (seats : List Seat) (i : ℕ) → AllOver seats → is_busy_at seats i ≡ false
over_at [] i over = refl
over_at (seat ∷ seats) zero over = over.0
over_at (seat ∷ seats) (suc i) over = over_at seats i over.1

pub all_over : (seats : List Seat) → ((i : ℕ) → is_busy_at seats i ≡ false) → AllOver seats
all_over [] none = tt
all_over (seat ∷ seats) none = (none 0, all_over seats (λ i. none (suc i)))
