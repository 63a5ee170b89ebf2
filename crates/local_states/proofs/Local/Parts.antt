-- Parts that are the same are so both ways and one after another, and stay so where others take turns.
use Rattle.std.specs.Prelude.{◌≡◌, ◌≢◌, ◌⊎◌, ◌≤◌, ◌<◌, ℕ, List, [], ◌∷◌, Bool, length, Option, Some, None, slice_get, refl}
use Rattle.std.proofs.Common.{inl, inr, sym, ap, ◌∙◌, subst, ⊎_elim, arith}
use Rattle.std.proofs.lemmas.Option.{same_Some, slice_get_within}
use Rattle.tree_model.specs.declared.answer.Event.{Event}
use Rattle.tree_model.specs.StepWith.{StepWith}
use Rattle.tree_model.specs.State.{State}
use Rattle.tree_model.specs.Steps.{held, held_count}
use Rattle.tree_model.proofs.Counts.{others_counts_stay}
use Rattle.tree_model.proofs.HistoryLaws.{after_events-append}
use Rattle.tree_model.proofs.StepLaws.{numbers_grow, others_handles_stay, slice_get-set_other}
use Rattle.root_ops.specs.Order.{due}
use Rattle.root_ops.specs.View.{CallView}
use Rattle.step_resolver.specs.declared.walk.Root.{Root}
use Rattle.layered_search.proofs.Places.{within_some}
use Rattle.race_core.specs.declared.seat.Seat.{Seat}
use Rattle.race_core.specs.Book.{BookedHistory, tree_now, answer_now, booked}
use Rattle.race_core.specs.Ledgers.{LedgerView}
use Rattle.race_core.specs.Renamed.{seat_handles, LikeSeats}
use Rattle.race_core.specs.Turns.{Luck, stepped_by, begun, goes_on, turned}
use Rattle.race_core.specs.Worlds.{WorldView, turn_of, turn}
use Rattle.race_core.proofs.BookMoves.{begun_root}
use Rattle.local_states.specs.Paired.{AreAt}
use Rattle.local_states.specs.Local.{actor_of, GivenAlike, IsOwnPair, SamePart, OthersPartsStay, PartsAreThemselves, SamePartsTurnRound, SamePartsJoin}
use Rattle.local_states.proofs.Alike.OutsideAlike.{stepped_books}
use Rattle.local_states.proofs.Alike.Paired.{same_numbers}

pub one_actor : (x y : Seat) → LikeSeats x y → actor_of x ≡ actor_of y
one_actor x y like = ap (λ (seat : Seat). actor_of seat) like

-- ---- a part and itself

own_at : (hs : List ℕ) (at h k : ℕ) → AreAt hs hs at h k → h ≡ k
own_at hs at h k are = same_Some h k (sym are.here ∙ are.there)

pub part_itself : PartsAreThemselves
part_itself s x = record {
  like = refl;
  pairs = λ at h k are. let e = own_at (seat_handles x) at h k are in record {
    given = inr (e, refl);
    holds = ap (held s (actor_of x)) e;
  };
  apart = λ at h k are before j l lt those.
      let e = own_at (seat_handles x) at h k are in
      let q = own_at (seat_handles x) before j l those in
      ((λ r. sym e ∙ (r ∙ q)), (λ r. e ∙ (r ∙ sym q)));
  held_handles = refl;
}

-- ---- both ways

turned_round : (hs ks : List ℕ) (at h k : ℕ) → AreAt ks hs at k h → AreAt hs ks at h k
turned_round hs ks at h k are = record { here = are.there; there = are.here }

pair_back : (a : ℕ) (s t : State) (h k : ℕ) → IsOwnPair a s t h k → IsOwnPair a t s k h
pair_back a s t h k is = record {
  given = ⊎_elim (λ lt. inl (lt.1, lt.0)) (λ e. inr (sym e.0, sym e.1)) is.given;
  holds = sym is.holds;
}

pub part_back : SamePartsTurnRound
part_back s t x y part =
    let actor = one_actor x y part.like in record {
      like = sym part.like;
      pairs = λ at k h are. subst (λ a. IsOwnPair a t s k h) actor
          (pair_back (actor_of x) s t h k
          (part.pairs at h k (turned_round (seat_handles x) (seat_handles y) at h k are)));
      apart = λ at k h are before l j lt those.
          let both = part.apart at h k (turned_round (seat_handles x) (seat_handles y) at h k are) before j l lt
          (turned_round (seat_handles x) (seat_handles y) before j l those) in
          (both.1, both.0);
      held_handles = subst (λ a. held_count t a ≡ held_count s a) actor (sym part.held_handles);
    }

-- ---- one after another

given_join : (s t u : State) (h k l : ℕ) → GivenAlike s t h k → GivenAlike t u k l → GivenAlike s u h l
given_join s t u h k l (inl p) (inl q) = inl (p.0, q.1)
given_join s t u h k l (inl p) (inr q) = inl (p.0, omega (arith, p.1, q.0, q.1))
given_join s t u h k l (inr p) (inl q) = inl (omega (arith, p.0, p.1, q.0), q.1)
given_join s t u h k l (inr p) (inr q) = inr (p.0 ∙ q.0, p.1 ∙ q.1)

-- the number of the second list at a place of the first
pub number_there : (x y : Seat) → LikeSeats x y → (at h : ℕ) → slice_get (seat_handles x) at ≡ Some h
    → (k : ℕ) × AreAt (seat_handles x) (seat_handles y) at h k
number_there x y like at h e =
    let same = same_numbers x y like in
    let lt : at < length (seat_handles x) = slice_get_within (seat_handles x) at h e in
    let within : at < length (seat_handles y) = omega (arith, lt, same) in
    let k = within_some (seat_handles y) at within in
    (k.0, record { here = e; there = k.1 })

pub part_join : SamePartsJoin
part_join s t u x y z first second =
    let actor = sym (one_actor x y first.like) in record {
      like = first.like ∙ second.like;
      pairs = λ at h l are.
          let k = number_there x y first.like at h are.here in
          let one = first.pairs at h k.0 k.1 in
          let two = subst (λ a. IsOwnPair a t u k.0 l) actor
          (second.pairs at k.0 l (record { here = k.1.there; there = are.there })) in
          record { given = given_join s t u h k.0 l one.given two.given; holds = one.holds ∙ two.holds };
      apart = λ at h l are before j n lt those.
          let k = number_there x y first.like at h are.here in
          let m = number_there x y first.like before j those.here in
          let one = first.apart at h k.0 k.1 before j m.0 lt m.1 in
          let two = second.apart at k.0 l (record { here = k.1.there; there = are.there }) before m.0 n lt
          (record { here = m.1.there; there = those.there }) in
          ((λ e. two.0 (one.0 e)), (λ e. one.1 (two.1 e)));
      held_handles = first.held_handles ∙ subst (λ a. held_count t a ≡ held_count u a) actor second.held_handles;
    }

-- ---- where others take turns

-- an actor's handles are as they were
pub record Leaves (a : ℕ) (s after : State) : Type 0 where
  pub numbers : length s.handles ≤ length after.handles
  pub holds : (h : ℕ) → held after a h ≡ held s a h
  pub count : held_count after a ≡ held_count s a

pub leaves_itself : (a : ℕ) (s : State) → Leaves a s s
leaves_itself a s = record { numbers = omega arith; holds = λ h. refl; count = refl }

pub part_kept : (s t after others : State) (x y : Seat) → Leaves (actor_of x) s after → Leaves (actor_of x) t others
    → ((at h k : ℕ) → AreAt (seat_handles x) (seat_handles y) at h k → GivenAlike s t h k → GivenAlike after others h k)
    → SamePart s t x y → SamePart after others x y
part_kept s t after others x y here there given part = record {
  like = part.like;
  pairs = λ at h k are. let is = part.pairs at h k are in record {
    given = given at h k are is.given;
    holds = here.holds h ∙ (is.holds ∙ sym (there.holds k));
  };
  apart = part.apart;
  held_handles = here.count ∙ (part.held_handles ∙ sym there.count);
}

-- the book after a turn of an actor: as before, or with one event of its more
pub data IsOneBy (a : ℕ) (book : BookedHistory) : BookedHistory → Type 0 where
  as_it_was : IsOneBy a book book
  one_more : (step : StepWith ℕ) → IsOneBy a book (booked book a step)

goes_books : (luck room : Bool) (book : BookedHistory) (ledger : LedgerView) (doing : Option CallView)
    → IsOneBy ledger.root.owner.actor book (goes_on luck room book ledger doing).book
goes_books luck room book ledger None = as_it_was
goes_books luck room book ledger (Some call) =
    by (stepped_books luck book ledger.root.owner.actor (due call.below call.doing))
  where
    by : ((stepped_by luck book ledger.root.owner.actor (due call.below call.doing)).book ≡ book)
        ⊎ ((stepped_by luck book ledger.root.owner.actor (due call.below call.doing)).book
        ≡ booked book ledger.root.owner.actor (due call.below call.doing))
        → IsOneBy ledger.root.owner.actor book
        (stepped_by luck book ledger.root.owner.actor (due call.below call.doing)).book
    by (inl e) = subst (λ b. IsOneBy ledger.root.owner.actor book b) (sym e) as_it_was
    by (inr e) = subst (λ b. IsOneBy ledger.root.owner.actor book b) (sym e) (one_more (due call.below call.doing))

pub turned_books : (luck : Luck) (book : BookedHistory) (seat : Seat)
    → IsOneBy (actor_of seat) book (turned luck book seat.ledger seat.doing).book
turned_books luck book seat =
    let begun_seat = begun luck.start seat.ledger seat.doing in
    subst (λ (root : Root). IsOneBy root.owner.actor book (turned luck book seat.ledger seat.doing).book)
    (begun_root luck.start seat.ledger seat.doing)
    (goes_books luck.step luck.room book begun_seat.ledger begun_seat.doing)

grown_one : (a : ℕ) (book after : BookedHistory) → IsOneBy a book after
    → length (tree_now book).handles ≤ length (tree_now after).handles
grown_one a book after as_it_was = omega arith
grown_one a book after (one_more step) =
    let event : Event = record { actor = a; step = step; answer = answer_now book a step } in
    subst (λ (t : State). length (tree_now book).handles ≤ length t.handles)
    (sym (after_events-append book.opening book.events (event ∷ [])))
    (numbers_grow (tree_now book) a step).1

pub turned_grows : (luck : Luck) (book : BookedHistory) (x : Seat)
    → length (tree_now book).handles ≤ length (tree_now (turned luck book x.ledger x.doing).book).handles
turned_grows luck book x = grown_one (actor_of x) book _ (turned_books luck book x)

leaves_one : (a b : ℕ) → a ≢ b → (book after : BookedHistory) → IsOneBy a book after
    → Leaves b (tree_now book) (tree_now after)
leaves_one a b ne book after as_it_was = leaves_itself b (tree_now book)
leaves_one a b ne book after (one_more step) =
    let event : Event = record { actor = a; step = step; answer = answer_now book a step } in
    subst (λ t. Leaves b (tree_now book) t) (sym (after_events-append book.opening book.events (event ∷ []))) (record {
      numbers = (numbers_grow (tree_now book) a step).1;
      holds = λ h. others_handles_stay (tree_now book) a step b h (λ e. ne (sym e));
      count = others_counts_stay (tree_now book) a step b (λ e. ne (sym e));
    })

pub turned_leaves : (luck : Luck) (book : BookedHistory) (x y : Seat) → actor_of x ≢ actor_of y
    → Leaves (actor_of y) (tree_now book) (tree_now (turned luck book x.ledger x.doing).book)
turned_leaves luck book x y ne = leaves_one (actor_of x) (actor_of y) ne book _ (turned_books luck book x)

pub turn_is : (luck : Luck) (w : WorldView) (i : ℕ) (x : Seat) → slice_get w.seats i ≡ Some x
    → turn luck w i ≡ turn_of luck w i (Some x)
turn_is luck w i x e = ap (λ seat. turn_of luck w i seat) e

pub others_seat : (luck : Luck) (w : WorldView) (i j : ℕ) (x y : Seat) → i ≢ j → slice_get w.seats j ≡ Some y
    → slice_get (turn_of luck w i (Some x)).seats j ≡ Some y
others_seat luck w i j x y ne e =
    slice_get-set_other w.seats i (turned luck w.book x.ledger x.doing).seat j (λ q. ne (sym q)) ∙ e

still_given : (s t after : State) (h k : ℕ) → length s.handles ≤ length after.handles → k < length t.handles
    → GivenAlike s t h k → GivenAlike after t h k
still_given s t after h k more lt (inl lts) = inl (omega (arith, more, lts.0), lt)
still_given s t after h k more lt (inr one) = inl (omega (arith, more, lt, one.0, one.1), lt)

pub parts_stay : OthersPartsStay
parts_stay w luck i j x y ne e e' differ =
    let is = sym (turn_is luck w i x e) in
    let leaves = turned_leaves luck w.book x y differ in (
      subst (λ (u : WorldView). slice_get u.seats j ≡ Some y) is (others_seat luck w i j x y ne e'),
      (λ t z part given. subst (λ (u : WorldView). SamePart (tree_now u.book) t y z) is
          (part_kept (tree_now w.book) t (tree_now (turned luck w.book x.ledger x.doing).book) t y z leaves
          (leaves_itself (actor_of y) t)
          (λ at h k are alike. still_given (tree_now w.book) t
          (tree_now (turned luck w.book x.ledger x.doing).book) h k leaves.numbers (given at k are.there) alike)
          part)),
    )
