-- A world that was cut short is given up as one in which the call's end was taken down.
use Rattle.std.specs.Prelude.{◌≡◌, ℕ, zero, suc, List, [], ◌∷◌, false, Option, Some, None, Ok, slice_get, slice_set, refl}
use Rattle.std.proofs.Common.{sym, ap, subst, ◌∙◌, inl, inr}
use Rattle.std.proofs.lemmas.Bool.{false≢true}
use Rattle.std.proofs.lemmas.Option.{same_Some}
use Rattle.root_ops.specs.declared.reply.Reply.{Reply}
use Rattle.root_ops.specs.View.{CallView}
use Rattle.race_core.specs.declared.seat.Seat.{Seat}
use Rattle.race_core.specs.Book.{BookedHistory}
use Rattle.race_core.specs.GivenUp.{GivesCallUp, AllGiveUp}
use Rattle.race_core.specs.TurnView.{taken_down}
use Rattle.race_core.specs.Worlds.{WorldView, taken_down_at, is_within_in, LacksRoom, Turns}
use Rattle.race_core.proofs.OneEnd.{none_left}
use Rattle.further_world_laws.specs.GivenUpWorlds.{CutShortLikewise}

-- an actor without a call under way gives up none, whatever it was told
set_given_up : (seats : List Seat) (i : ℕ) (seat : Seat) (reply : Reply) (book after : BookedHistory) → slice_get seats i ≡ Some seat → seat.doing ≡ None
    → AllGiveUp book seats after → AllGiveUp book (slice_set seats i (record { ledger = taken_down seat.ledger reply; doing = None })) after
set_given_up [] i seat reply book after at none gives = gives
set_given_up (s ∷ seats) zero seat reply book after at none gives =
    let mine : s ≡ seat = same_Some s seat at in (
      gives.0,
      subst (λ (doing : Option CallView). GivesCallUp s.ledger.root.owner.actor book doing gives.0) (ap (λ (t : Seat). t.doing) mine ∙ none) gives.1,
      gives.2,
    )
set_given_up (s ∷ seats) (suc i) seat reply book after at none gives = (gives.0, gives.1, set_given_up seats i seat reply gives.0 after at none gives.2)

told_given_up : (seats : List Seat) (i : ℕ) (reply : Reply) (book after : BookedHistory) → is_within_in (slice_get seats i) ≡ false → AllGiveUp book seats after
    → AllGiveUp book (taken_down_at seats i reply (slice_get seats i)) after
told_given_up seats i reply book after idle gives = on (slice_get seats i) refl
  where
    on : (o : Option Seat) → slice_get seats i ≡ o → AllGiveUp book (taken_down_at seats i reply o) after
    on None e = gives
    on (Some seat) e = set_given_up seats i seat reply book after e (none_left seat.doing (sym (ap is_within_in e) ∙ idle)) gives

pub cut_short_likewise : CutShortLikewise
cut_short_likewise w v i after memory taken gives = on taken.1
  where
    on : LacksRoom w i v → (u : WorldView) × (Turns w i u (Ok tt) × AllGiveUp u.book u.seats after)
    on (inl before) = absurd (false≢true (sym memory ∙ before.0))
    on (inr cut) = (
      record { book = v.book; seats = taken_down_at v.seats i cut.reply (slice_get v.seats i); spent = false },
      (
        (taken.0, record { had_memory = cut.had_memory; luck = cut.luck; is = cut.is }),
        told_given_up v.seats i cut.reply v.book after cut.idle gives,
      ),
    )
