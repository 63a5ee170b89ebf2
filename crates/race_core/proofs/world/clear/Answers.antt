use Rattle.std.proofs.Common.{◌≡◌, List, [], ◌∷◌, length, refl, sym, subst, ◌∙◌, arith}
use Rattle.std.specs.Vec.Iter.{into_iter_items, into_iter_len}
use Rattle.race_core.specs.declared.seat.Seat.{Seat}
use Rattle.race_core.specs.GivenUp.{AllGiveUp}
use Rattle.race_core.proofs.world.clear.Goals as goal

no_seats : (seats : List Seat) → length seats ≡ 0 → seats ≡ []
no_seats [] none = refl
no_seats (seat ∷ seats) none = absurd (omega (arith, none))

pub loop-seat-init : goal.loop-seat-init
loop-seat-init g c = record { onward = λ after all. all }

pub loop-seat-preserved : goal.loop-seat-preserved
loop-seat-preserved g c = record {
  onward = λ after rest.
      c.loop-seat.invariant.onward after
      (subst (λ (seats : List Seat). AllGiveUp c.loop-seat.book seats after) (sym c.in-Some.ensures.items)
      (c.give_up-ledger.new.book, c.give_up-ledger.ensures.given_up, rest));
}

pub returns : goal.returns
returns g c =
    let over = rw c.in_default.is at c.next.ensures.cases in
    let none : into_iter_len c.loop-seat.seats ≡ 0 = over.0 in
    let nil : into_iter_items c.loop-seat.seats ≡ [] = no_seats (into_iter_items c.loop-seat.seats) (sym c.loop-seat.seats.rest.ok.0 ∙ none) in
    subst (λ (seats : List Seat). AllGiveUp c.args.book.now seats c.loop-seat.book) c.into_iter-seats.ensures.rest
    (c.loop-seat.invariant.onward c.loop-seat.book (subst (λ (seats : List Seat). AllGiveUp c.loop-seat.book seats c.loop-seat.book) (sym nil) refl))
