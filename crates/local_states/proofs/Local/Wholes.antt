-- Worlds in which all actors have the same parts go on alike.
use Rattle.std.specs.Prelude.{◌≡◌, ◌≢◌, ◌≤◌, ◌<◌, ℕ, ◌+◌, ◌-◌, suc, List, [], ◌∷◌, length, nat_lt, nat_le, Some, slice_get, refl}
use Rattle.std.proofs.Common.{inl, inr, sym, ap, ◌∙◌, subst, ⊎_elim, arith}
use Rattle.std.proofs.lemmas.Bool.{cases_eq, cases_lt}
use Rattle.std.proofs.lemmas.Option.{same_Some, slice_get_within, slice_get_past}
use Rattle.step_resolver.specs.declared.walk.Root.{Root}
use Rattle.tree_model.specs.declared.tree.TheConstants.{NUMBERS_MAX}
use Rattle.tree_model.specs.Steps.{held_count}
use Rattle.tree_model.proofs.StepLaws.{slice_get-set_other}
use Rattle.race_core.specs.declared.seat.Seat.{Seat}
use Rattle.race_core.specs.Book.{tree_now}
use Rattle.race_core.specs.Renamed.{replies_by, LikeSeats}
use Rattle.race_core.specs.Turns.{Luck, turned}
use Rattle.race_core.specs.Worlds.{WorldView, turn_of, turn, is_busy_in, is_within_in, ledgers_in, replies_in}
use Rattle.race_core.proofs.BookMoves.{turn_keeps_root}
use Rattle.local_states.specs.Local.{actor_of, GivenAlike, SamePartAt, SameGround, GoneAlike, AreNumbered, SameParts, SameWorldsTakeSameTurns, SameWorldsAreBusyAlike, SameWorldsTellTheSame}
use Rattle.local_states.proofs.Alike.Steps.{set_at}
use Rattle.local_states.proofs.Local.Parts.{one_actor, part_kept, turned_leaves, turn_is, others_seat}
use Rattle.local_states.proofs.Local.Worlds.{still_within, parts_busy, turns_are_local}
use Rattle.local_states.proofs.Lists.Runs.{turn_stays}

pub no_turn : (luck : Luck) (w : WorldView) (i : ℕ) → length w.seats ≤ i → turn luck w i ≡ w
no_turn luck w i over = ap (λ seat. turn_of luck w i seat) (slice_get_past w.seats i over)

pub same_ground : (w v : WorldView) → SameParts w v → SameGround w.book v.book
same_ground w v same = record {
  nodes = same.nodes;
  numbers = ap (λ n. nat_le NUMBERS_MAX n) same.numbers;
  lines = λ n few. (λ i. nat_lt (same.lines i - (same.events i + same.open_handles i)) n);
}

-- what has grown by as much is the same again
pub same_again : (m' n' m n : ℕ) → m ≡ n → m' + n ≡ n' + m → m' ≡ n'
same_again m' n' m n e e' = omega arith

-- ---- a turn of the one actor, and the seat of another

module _ (w v : WorldView) (luck : Luck) (i : ℕ) (same : SameParts w v) (lt : i < length w.seats) where
  at : SamePartAt w v i
  at = same.parts i lt

  gone : GoneAlike w v (turn luck w i) (turn luck v i) i
  gone = turns_are_local w v luck i (same_ground w v same) (same.parts i lt)

  numbers_again : length (tree_now (turn luck w i).book).handles ≡ length (tree_now (turn luck v i).book).handles
  numbers_again = same_again _ _ _ _ same.numbers gone.grown.numbers

  module _ (x y : Seat) (is_x : slice_get w.seats i ≡ Some x) (is_y : slice_get v.seats i ≡ Some y)
      (like : LikeSeats x y) where
    numbers_after : length (tree_now (turned luck w.book x.ledger x.doing).book).handles ≡ length
        (tree_now (turned luck v.book y.ledger y.doing).book).handles
    numbers_after =
        ap (λ (u : WorldView). length (tree_now u.book).handles) (sym (turn_is luck w i x is_x))
        ∙ (numbers_again ∙ ap (λ (u : WorldView). length (tree_now u.book).handles) (turn_is luck v i y is_y))

    other_part : (j : ℕ) → i ≢ j → SamePartAt w v j
        → SamePartAt (turn_of luck w i (Some x)) (turn_of luck v i (Some y)) j
    other_part j ne old =
        let actor : actor_of x ≡ i = same.numbered i x is_x in
        let others : actor_of old.here ≡ j = same.numbered j old.here old.is_here in
        let differ : actor_of x ≢ actor_of old.here = (λ e. ne (sym actor ∙ (e ∙ others))) in
        let differ' : actor_of y ≢ actor_of old.here = (λ e. ne (sym actor ∙ (one_actor x y like ∙ (e ∙ others)))) in
        let here = turned_leaves luck w.book x old.here differ in
        let there = turned_leaves luck v.book y old.here differ' in
        record {
          here = old.here;
          there = old.there;
          is_here = others_seat luck w i j x old.here ne old.is_here;
          is_there = others_seat luck v i j y old.there ne old.is_there;
          part = part_kept (tree_now w.book) (tree_now v.book) (tree_now (turned luck w.book x.ledger x.doing).book)
              (tree_now (turned luck v.book y.ledger y.doing).book) old.here old.there here there
              (λ place h k are given. given_after h k here.numbers there.numbers given) old.part;
        }
      where
        given_after : (h k : ℕ)
            → length (tree_now w.book).handles ≤ length (tree_now (turned luck w.book x.ledger x.doing).book).handles
            → length (tree_now v.book).handles ≤ length (tree_now (turned luck v.book y.ledger y.doing).book).handles
            → GivenAlike (tree_now w.book) (tree_now v.book) h k
            → GivenAlike (tree_now (turned luck w.book x.ledger x.doing).book)
            (tree_now (turned luck v.book y.ledger y.doing).book) h k
        given_after h k more more' (inl lts) = inl (still_within _ _ _ lts.0 more, still_within _ _ _ lts.1 more')
        given_after h k more more' (inr one) = inr (one.0, numbers_after)

    numbered_after : AreNumbered (turn_of luck w i (Some x)).seats
    numbered_after j z e = ⊎_elim own others (cases_eq i j)
      where
        own : i ≡ j → actor_of z ≡ j
        own q =
            let new : slice_get (turn_of luck w i (Some x)).seats j ≡ Some (turned luck w.book x.ledger x.doing).seat =
            subst (λ n. slice_get (turn_of luck w i (Some x)).seats n ≡ Some (turned luck w.book x.ledger x.doing).seat)
            q
            (set_at w.seats i (turned luck w.book x.ledger x.doing).seat (slice_get_within w.seats i x is_x)) in
            let is : (turned luck w.book x.ledger x.doing).seat ≡ z = same_Some _ _ (sym new ∙ e) in
            ap (λ (seat : Seat). actor_of seat) (sym is)
            ∙ (ap (λ (root : Root). root.owner.actor) (turn_keeps_root luck w.book x.ledger x.doing)
            ∙ (same.numbered i x is_x ∙ q))

        others : i ≢ j → actor_of z ≡ j
        others ne = same.numbered j z
            (sym (slice_get-set_other w.seats i (turned luck w.book x.ledger x.doing).seat j (λ r. ne (sym r))) ∙ e)

  parts_again : (j : ℕ) → j < length w.seats → SamePartAt (turn luck w i) (turn luck v i) j
  parts_again j lt' = ⊎_elim own others (cases_eq i j)
    where
      own : i ≡ j → SamePartAt (turn luck w i) (turn luck v i) j
      own q = subst (λ n. SamePartAt (turn luck w i) (turn luck v i) n) q gone.part

      others : i ≢ j → SamePartAt (turn luck w i) (turn luck v i) j
      others ne =
          subst (λ u. SamePartAt u (turn luck v i) j) (sym (turn_is luck w i at.here at.is_here))
          (subst (λ u. SamePartAt (turn_of luck w i (Some at.here)) u j) (sym (turn_is luck v i at.there at.is_there))
          (other_part at.here at.there at.is_here at.is_there at.part.like j ne (same.parts j lt')))

pub same_turns : SameWorldsTakeSameTurns
same_turns w v luck i same = ⊎_elim seated beyond (cases_lt i (length w.seats))
  where
    seated : i < length w.seats → SameParts (turn luck w i) (turn luck v i)
    seated lt =
        let after = gone w v luck i same lt in
        let at = same.parts i lt in record {
          nodes = after.nodes;
          lines = after.grown.lines ∙ (same.lines ∙ sym after.grown.others_lines);
          events = same_again _ _ _ _ same.events after.grown.events;
          numbers = same_again _ _ _ _ same.numbers after.grown.numbers;
          open_handles = same_again _ _ _ _ same.open_handles after.grown.open_handles;
          seats = turn_stays luck w i ∙ (same.seats ∙ sym (turn_stays luck v i));
          numbered = subst (λ (u : WorldView). AreNumbered u.seats) (sym (turn_is luck w i at.here at.is_here))
              (numbered_after w v luck i same lt at.here at.there at.is_here at.is_there at.part.like);
          parts = λ j lt'. parts_again w v luck i same lt j (subst (λ n. j < n) (turn_stays luck w i) lt');
        }

    beyond : length w.seats ≤ i → SameParts (turn luck w i) (turn luck v i)
    beyond over =
        subst (λ u. SameParts u (turn luck v i)) (sym (no_turn luck w i over))
        (subst (λ u. SameParts w u) (sym (no_turn luck v i (subst (λ n. n ≤ i) same.seats over))) same)

-- ---- what they tell

pub busy_alike : SameWorldsAreBusyAlike
busy_alike w v i same = ⊎_elim seated beyond (cases_lt i (length w.seats))
  where
    seated : i < length w.seats
        → (is_busy_in (slice_get w.seats i) ≡ is_busy_in (slice_get v.seats i))
        × (is_within_in (slice_get w.seats i) ≡ is_within_in (slice_get v.seats i))
    seated lt =
        let at = same.parts i lt in
        let busy = parts_busy (tree_now w.book) (tree_now v.book) at.here at.there at.part in (
          ap is_busy_in at.is_here ∙ (busy.0 ∙ sym (ap is_busy_in at.is_there)),
          ap is_within_in at.is_here ∙ (busy.1 ∙ sym (ap is_within_in at.is_there)),
        )

    beyond : length w.seats ≤ i
        → (is_busy_in (slice_get w.seats i) ≡ is_busy_in (slice_get v.seats i))
        × (is_within_in (slice_get w.seats i) ≡ is_within_in (slice_get v.seats i))
    beyond over =
        let none = slice_get_past w.seats i over ∙ sym (slice_get_past v.seats i (subst (λ n. n ≤ i) same.seats over)) in
        (ap is_busy_in none, ap is_within_in none)

replies_same : (ss ts : List Seat) → length ss ≡ length ts
    → ((i : ℕ) (x y : Seat) → slice_get ss i ≡ Some x → slice_get ts i ≡ Some y → LikeSeats x y)
    → replies_by (λ h. 0) (replies_in (ledgers_in ss)) ≡ replies_by (λ h. 0) (replies_in (ledgers_in ts))
replies_same [] [] many like = refl
replies_same [] (t ∷ ts) many like = absurd (omega (arith, many))
replies_same (s ∷ ss) [] many like = absurd (omega (arith, many))
replies_same (s ∷ ss) (t ∷ ts) many like =
    let first = ap (λ (seat : Seat). seat.ledger.outcomes) (like 0 s t refl refl) in
    let rest = replies_same ss ts (omega (arith, many)) (λ i x y e e'. like (suc i) x y e e') in
    λ i. first i ∷ rest i

pub tell_alike : SameWorldsTellTheSame
tell_alike w v same = record {
  outside = refl;
  replies = replies_same w.seats v.seats same.seats alike;
  nodes = same.nodes;
  held = λ a lt.
      let at = same.parts a lt in
      subst (λ n. held_count (tree_now w.book) n ≡ held_count (tree_now v.book) n)
      (same.numbered a at.here at.is_here) at.part.held_handles;
}
  where
    alike : (i : ℕ) (x y : Seat) → slice_get w.seats i ≡ Some x → slice_get v.seats i ≡ Some y → LikeSeats x y
    alike i x y e e' =
        let at = same.parts i (slice_get_within w.seats i x e) in
        let here : at.here ≡ x = same_Some at.here x (sym at.is_here ∙ e) in
        let there : at.there ≡ y = same_Some at.there y (sym at.is_there ∙ e') in
        subst (λ s. LikeSeats s y) here (subst (λ t. LikeSeats at.here t) there at.part.like)
