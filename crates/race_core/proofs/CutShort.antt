-- A turn that there was no room to take down: it was made, but that the end of the actor's call isn't taken down.
use Rattle.std.proofs.Common.{◌≡◌, ℕ, zero, suc, List, [], ◌∷◌, true, Option, Some, None, Result, Ok, Err, OnErr, is_some, slice_get, refl, sym, ap, subst, ◌∙◌}
use Rattle.std.specs.Prelude.{slice_set}
use Rattle.root_ops.specs.declared.call.CallTurn.{CallTurn as Outcome}
use Rattle.root_ops.specs.TurnView.{turn_view, Keeps}
use Rattle.root_ops.specs.View.{CallView}
use Rattle.race_core.specs.declared.seat.Seat.{Seat}
use Rattle.race_core.specs.Advance.{Advances}
use Rattle.race_core.specs.Book.{BookedHistory}
use Rattle.race_core.specs.Turns.{Turned, turned, comes, begun, goes_on}
use Rattle.race_core.specs.TurnView.{taken_down, seat_at, Starts, LacksEnd, IsCutAtStart, IsCutGoingOn, IsCutShort}
use Rattle.race_core.specs.Worlds.{turn_of, turn, taken_down_at, is_within_in, IsCutTurnAt}
use Rattle.race_core.proofs.Starting.{seat_comes}
use Rattle.race_core.proofs.WorldSoFar.{placed_there}

-- where it is an error, what follows from that
pub on_err : {T E : Type 0} (r : Result T E) (A B : Type 0) → (A → B) → OnErr r A → OnErr r B
on_err (Ok value) A B onward h = tt
on_err (Err error) A B onward h = onward h

-- what holds anyhow holds then
pub on_any : {T E : Type 0} (r : Result T E) (A : Type 0) → A → OnErr r A
on_any (Ok value) A is = tt
on_any (Err error) A is = is

pub same_whole : (whole other new : Seat) → whole ≡ other → LacksEnd whole new → LacksEnd other new
same_whole whole other new same lacks = subst (λ (s : Seat). LacksEnd s new) same lacks

-- the call under way went on
pub cut_going_on : (book : BookedHistory) (old new : Seat) (call : CallView) (book_after : BookedHistory) (turn : Outcome)
    → Some call ≡ old.doing → Advances book old.ledger.root.owner.actor call (turn_view turn) book_after → Keeps call.below turn
    → LacksEnd (seat_at old.ledger turn) new → IsCutGoingOn book old book_after new
cut_going_on book old new call book_after turn is made keeps lacks = record {
  luck = made.luck;
  room = made.room;
  booked = made.left ∙ ap (λ (d : Option CallView). (goes_on made.luck made.room book old.ledger d).book) is;
  lacks = same_whole (seat_at old.ledger turn) (goes_on made.luck made.room book old.ledger old.doing).seat new
      (seat_comes old.ledger call.below turn keeps ∙ ap (comes old.ledger call.below) made.is_turn
      ∙ ap (λ (d : Option CallView). (goes_on made.luck made.room book old.ledger d).seat) is) lacks;
}

-- the whole turn
pub cut_first : (book : BookedHistory) (old new : Seat) → IsCutAtStart old new → IsCutShort book old book new
cut_first book old new cut = record {
  luck = record { start = cut.room; step = true; room = true };
  booked = ap (λ (s : Seat). (goes_on true true book s.ledger s.doing).book) (sym cut.lacks.is);
  lacks = same_whole (begun cut.room old.ledger old.doing) (goes_on true true book (begun cut.room old.ledger old.doing).ledger (begun cut.room old.ledger old.doing).doing).seat new
      (cut.lacks.is ∙ ap (λ (s : Seat). (goes_on true true book s.ledger s.doing).seat) (sym cut.lacks.is)) cut.lacks;
}

pub cut_later : (book : BookedHistory) (old middle : Seat) (book_after : BookedHistory) (new : Seat) → Starts old middle → IsCutGoingOn book middle book_after new
    → IsCutShort book old book_after new
cut_later book old middle book_after new starts cut = record {
  luck = record { start = starts.room; step = cut.luck; room = cut.room };
  booked = cut.booked ∙ ap (λ (s : Seat). (goes_on cut.luck cut.room book s.ledger s.doing).book) starts.is;
  lacks = same_whole (goes_on cut.luck cut.room book middle.ledger middle.doing).seat _ new
      (ap (λ (s : Seat). (goes_on cut.luck cut.room book s.ledger s.doing).seat) starts.is) cut.lacks;
}

-- ---- in a world

pub placed_twice : {A : Type 0} (xs : List A) (i : ℕ) (x y : A) → slice_set (slice_set xs i x) i y ≡ slice_set xs i y
placed_twice [] i x y = refl
placed_twice (z ∷ xs) zero x y = refl
placed_twice (z ∷ xs) (suc i) x y = ap (λ zs. z ∷ zs) (placed_twice xs i x y)

pub cut_in_world : (book : BookedHistory) (seats : List Seat) (i : ℕ) (seat : Seat) (book_after : BookedHistory) (new : Seat)
    → slice_get seats i ≡ Some seat → IsCutShort book seat book_after new → IsCutTurnAt book seats i book_after (slice_set seats i new)
cut_in_world book seats i seat book_after new there cut =
    let after : List Seat = slice_set seats i new in
    let placed : slice_get after i ≡ Some new = placed_there seats i seat new there in
    let whole : Turned = turned cut.luck book seat.ledger seat.doing in
    record {
      luck = cut.luck;
      reply = cut.lacks.reply;
      idle = ap is_within_in placed ∙ ap (λ (d : Option CallView). is_some d) cut.lacks.idle;
      is = λ spent.
          ap (λ (o : Option Seat). record { book = book_after; seats = taken_down_at after i cut.lacks.reply o; spent = spent }) placed
          ∙ ap (λ (ss : List Seat). record { book = book_after; seats = ss; spent = spent })
          (placed_twice seats i new (record { ledger = taken_down new.ledger cut.lacks.reply; doing = None }))
          ∙ ap (λ (s : Seat). record { book = book_after; seats = slice_set seats i s; spent = spent }) (sym cut.lacks.is)
          ∙ ap (λ (b : BookedHistory). record { book = b; seats = slice_set seats i whole.seat; spent = spent }) cut.booked
          ∙ ap (λ (o : Option Seat). turn_of cut.luck (record { book = book; seats = seats; spent = spent }) i o) (sym there);
    }
