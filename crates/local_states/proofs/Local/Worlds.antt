-- Turns are local: from parts place by place to pairs, and back.
use Rattle.std.specs.Prelude.{◌≡◌, ◌≢◌, ◌≤◌, ◌<◌, ℕ, ◌==◌, List, true, Option, Some, None, slice_get, refl}
use Rattle.std.proofs.Common.{sym, ap, ◌∙◌, subst, ⊎_elim, eq-eqb, arith}
use Rattle.std.proofs.lemmas.Bool.{cases_eq}
use Rattle.std.proofs.lemmas.Option.{same_Some, slice_get_within}
use Rattle.step_resolver.specs.declared.walk.Root.{Root}
use Rattle.tree_model.specs.State.{State}
use Rattle.tree_model.proofs.StepLaws.{slice_get-set_other}
use Rattle.race_core.specs.declared.seat.Seat.{Seat}
use Rattle.race_core.specs.Book.{tree_now}
use Rattle.race_core.specs.Renamed.{numbers_by, seat_handles}
use Rattle.race_core.specs.Turns.{Luck, turned}
use Rattle.race_core.specs.Worlds.{WorldView, turn_of, turn}
use Rattle.race_core.proofs.LikeSeats.{like_seats_agree}
use Rattle.race_core.proofs.BookMoves.{turn_keeps_root}
use Rattle.local_states.specs.Alike.{Pairs, SameSeats}
use Rattle.local_states.specs.Local.{actor_of, SamePart, GoneAlike, AreGiven, AreAllGiven, TurnsAreLocal, SamePartsAreBusyAlike, GivenNumbersStay}
use Rattle.local_states.specs.Paired.{pairs_of, AreAt, AreApart, IsApartBefore}
use Rattle.local_states.proofs.Alike.HandlesRenamed.{seat_numbers}
use Rattle.local_states.proofs.Alike.Paired.{same_numbers, at_pair, agree_all, below_or, same_at, mark, separates, marked}
use Rattle.local_states.proofs.Alike.Steps.{zero_agrees, set_at}
use Rattle.local_states.proofs.Alike.Turns.{same_busy, same_within}
use Rattle.local_states.proofs.Local.Parts.{part_itself, turned_grows, turn_is}
use Rattle.local_states.proofs.Local.Steps.{PartBy}
use Rattle.local_states.proofs.Local.Turns.{own_turned}

-- ---- from places to pairs

seats_same : (s t : State) (x y : Seat) → SamePart s t x y → SameSeats (pairs_of (seat_handles x) (seat_handles y)) x y
seats_same s t x y part f g agree =
    like_seats_agree f g x y part.like
    (agree_all f g (seat_handles x) (seat_handles y) (same_numbers x y part.like) agree)

-- pairs that are apart from those before are apart from all
pairs_apart : (hs ks : List ℕ) → ((at h k : ℕ) → AreAt hs ks at h k → IsApartBefore hs ks h k at)
    → (h k j l : ℕ) → pairs_of hs ks h k ≡ true → pairs_of hs ks j l ≡ true → AreApart h k j l
pairs_apart hs ks are h k j l p q =
    ⊎_elim before (λ or. ⊎_elim here after or) (below_or one.0 two.0)
  where
    one : (at : ℕ) × AreAt hs ks at h k
    one = at_pair hs ks h k p

    two : (at : ℕ) × AreAt hs ks at j l
    two = at_pair hs ks j l q

    before : one.0 < two.0 → AreApart h k j l
    before lt = let apart = are two.0 j l two.1 one.0 h k lt one.1 in
        ((λ e. sym (apart.0 (sym e))), (λ e. sym (apart.1 (sym e))))

    after : two.0 < one.0 → AreApart h k j l
    after lt = are one.0 h k one.1 two.0 j l lt two.1

    here : one.0 ≡ two.0 → AreApart h k j l
    here e =
        let there = subst (λ (n : ℕ). AreAt hs ks n h k) e one.1 in
        ((λ r. same_Some _ _ (sym there.there ∙ two.1.there)), (λ r. same_Some _ _ (sym there.here ∙ two.1.here)))

part_by : (s t : State) (x y : Seat) → s.nodes ≡ t.nodes → SamePart s t x y
    → PartBy (actor_of x) (pairs_of (seat_handles x) (seat_handles y)) s t
part_by s t x y nodes part = record {
  nodes = nodes;
  held_handles = part.held_handles;
  paired = λ h k p. let at = at_pair (seat_handles x) (seat_handles y) h k p in part.pairs at.0 h k at.1;
  apart = λ h k j l p q. pairs_apart (seat_handles x) (seat_handles y) part.apart h k j l p q;
}

-- ---- and back

place_pairs : (pairs : Pairs) (x y : Seat) → ((h k j l : ℕ) → pairs h k ≡ true → pairs j l ≡ true → AreApart h k j l)
    → SameSeats pairs x y
    → (at h k : ℕ) → AreAt (seat_handles x) (seat_handles y) at h k → pairs h k ≡ true
place_pairs pairs x y apart same at h k are =
    let by_pairs : numbers_by (λ n. mark (pairs n k)) (seat_handles x) ≡ numbers_by (λ n. mark (n == k))
    (seat_handles y) =
    sym (seat_numbers (λ n. mark (pairs n k)) x)
    ∙ (ap seat_handles (same (λ n. mark (pairs n k)) (λ n. mark (n == k)) (separates pairs k apart))
    ∙ seat_numbers (λ n. mark (n == k)) y) in
    let q = same_at (λ n. mark (pairs n k)) (λ n. mark (n == k)) (seat_handles x)
    (seat_handles y) at h k by_pairs are in
    marked (pairs h k) (q ∙ ap mark (eq-eqb k k refl))

part_from : (a : ℕ) (pairs : Pairs) (s t : State) (x y : Seat) → a ≡ actor_of x → PartBy a pairs s t
    → SameSeats pairs x y → SamePart s t x y
part_from a pairs s t x y e part same =
    let own = subst (λ n. PartBy n pairs s t) e part in record {
      like = same (λ h. 0) (λ h. 0) (zero_agrees pairs);
      pairs = λ at h k are. own.paired h k (place_pairs pairs x y own.apart same at h k are);
      apart = λ at h k are before j l lt those.
          own.apart h k j l (place_pairs pairs x y own.apart same at h k are)
          (place_pairs pairs x y own.apart same before j l those);
      held_handles = own.held_handles;
    }

-- ---- the laws

pub still_within : (h m n : ℕ) → h < m → m ≤ n → h < n
still_within h m n lt more = omega arith

pub parts_busy : SamePartsAreBusyAlike
parts_busy s t x y part =
    let pairs = pairs_of (seat_handles x) (seat_handles y) in
    (same_busy pairs x y (seats_same s t x y part), same_within pairs x y (seats_same s t x y part))

pub turns_are_local : TurnsAreLocal
turns_are_local w v luck i ground at =
    let after = own_turned (actor_of at.here) (pairs_of (seat_handles at.here) (seat_handles at.there)) w.book v.book
    (part_by (tree_now w.book) (tree_now v.book) at.here at.there ground.nodes at.part) ground luck at.here at.there
    refl
    (seats_same (tree_now w.book) (tree_now v.book) at.here at.there at.part) in
    let one = turned luck w.book at.here.ledger at.here.doing in
    let two = turned luck v.book at.there.ledger at.there.doing in
    subst (λ u. GoneAlike w v u (turn luck v i) i) (sym (turn_is luck w i at.here at.is_here))
    (subst (λ u. GoneAlike w v (turn_of luck w i (Some at.here)) u i) (sym (turn_is luck v i at.there at.is_there))
    (record {
      nodes = after.trees.nodes;
      part = record {
        here = one.seat;
        there = two.seat;
        is_here = set_at w.seats i one.seat (slice_get_within w.seats i at.here at.is_here);
        is_there = set_at v.seats i two.seat (slice_get_within v.seats i at.there at.is_there);
        part = part_from (actor_of at.here) after.more (tree_now one.book) (tree_now two.book) one.seat two.seat
            (sym (ap (λ (root : Root). root.owner.actor) (turn_keeps_root luck w.book at.here.ledger at.here.doing)))
            after.trees after.seats;
      };
      grown = after.grown;
    }))

-- the numbers of an actor's handles after its turn
own_given : (luck : Luck) (w : WorldView) (x : Seat) → AreGiven (tree_now w.book) x
    → AreGiven (tree_now (turned luck w.book x.ledger x.doing).book) (turned luck w.book x.ledger x.doing).seat
own_given luck w x given at h e =
    let part = part_itself (tree_now w.book) x in
    let pairs = pairs_of (seat_handles x) (seat_handles x) in
    let one = turned luck w.book x.ledger x.doing in
    let after = own_turned (actor_of x) pairs w.book w.book (part_by (tree_now w.book) (tree_now w.book) x x refl part)
    (record { nodes = refl; numbers = refl; lines = λ n few. refl }) luck x x refl
    (seats_same (tree_now w.book) (tree_now w.book) x x part) in
    ⊎_elim
    (λ old. let place = at_pair (seat_handles x) (seat_handles x) h h old in
    still_within _ _ _ (given place.0 h place.1.here) (turned_grows luck w.book x))
    (λ new. new.0)
    (after.news h h (place_pairs after.more one.seat one.seat after.trees.apart after.seats at h h
    (record { here = e; there = e })))

pub given_stay : GivenNumbersStay
given_stay w luck i all = by (slice_get w.seats i) refl
  where
    by : (seat : Option Seat) → slice_get w.seats i ≡ seat → AreAllGiven (turn_of luck w i seat)
    by None q j z e = all j z e
    by (Some x) q j z e = ⊎_elim own others (cases_eq i j)
      where
        own : i ≡ j → AreGiven (tree_now (turned luck w.book x.ledger x.doing).book) z
        own p =
            let new = subst (λ n. slice_get (turn_of luck w i (Some x)).seats n ≡ Some
            (turned luck w.book x.ledger x.doing).seat) p
            (set_at w.seats i (turned luck w.book x.ledger x.doing).seat (slice_get_within w.seats i x q)) in
            subst (AreGiven (tree_now (turned luck w.book x.ledger x.doing).book)) (same_Some _ _ (sym new ∙ e))
            (own_given luck w x (all i x q))

        others : i ≢ j → AreGiven (tree_now (turned luck w.book x.ledger x.doing).book) z
        others ne at h is =
            still_within _ _ _ (all j z
            (sym (slice_get-set_other w.seats i (turned luck w.book x.ledger x.doing).seat j (λ r. ne (sym r))) ∙ e)
            at h is)
            (turned_grows luck w.book x)
