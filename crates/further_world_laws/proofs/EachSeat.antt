-- What each turn keeps of its actor's seat is kept of all seats.
use Rattle.std.specs.Prelude.{◌≡◌, ℕ, zero, suc, List, [], ◌∷◌, Option, Some, None, slice_get, slice_set, refl}
use Rattle.std.proofs.Common.{subst}
use Rattle.std.proofs.lemmas.Option.{none-some, same_Some}
use Rattle.race_core.specs.declared.seat.Seat.{Seat}
use Rattle.race_core.specs.Book.{BookedHistory}
use Rattle.race_core.specs.Turns.{Luck, turned}
use Rattle.race_core.specs.Worlds.{WorldView, turn_of, turn}

module _ (P : Seat → Type 0) where
  abbrev pub EachSeat : List Seat → Type 0
  EachSeat [] = Unit {0}
  EachSeat (seat ∷ seats) = P seat × EachSeat seats

  one_seat : (seats : List Seat) (i : ℕ) (seat : Seat) → EachSeat seats → slice_get seats i ≡ Some seat → P seat
  one_seat [] i seat all e = absurd (none-some seat e)
  one_seat (s ∷ seats) zero seat all e = subst P (same_Some s seat e) all.0
  one_seat (s ∷ seats) (suc i) seat all e = one_seat seats i seat all.1 e

  set_seat : (seats : List Seat) (i : ℕ) (seat : Seat) → EachSeat seats → P seat → EachSeat (slice_set seats i seat)
  set_seat [] i seat all holds = tt
  set_seat (s ∷ seats) zero seat all holds = (holds, all.1)
  set_seat (s ∷ seats) (suc i) seat all holds = (all.0, set_seat seats i seat all.1 holds)

  pub turn_keeps : ((luck : Luck) (book : BookedHistory) (seat : Seat) → P seat
      → P (turned luck book seat.ledger seat.doing).seat)
      → (luck : Luck) (w : WorldView) (i : ℕ) → EachSeat w.seats → EachSeat (turn luck w i).seats
  turn_keeps keeps luck w i all = on (slice_get w.seats i) refl
    where
      on : (o : Option Seat) → slice_get w.seats i ≡ o → EachSeat (turn_of luck w i o).seats
      on None e = all
      on (Some seat) e =
          set_seat w.seats i (turned luck w.book seat.ledger seat.doing).seat all
          (keeps luck w.book seat (one_seat w.seats i seat all e))
