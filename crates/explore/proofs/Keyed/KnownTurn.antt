-- The key after a turn, from what the turn comes to: found in that world, or remembered from one that asks the same.
use Rattle.std.specs.Prelude.{◌≡◌, ◌≢◌, ◌≤◌, ◌<◌, ℕ, zero, suc, ◌+◌, ◌-◌, List, [], ◌∷◌, Bool, true, false, length, map, min, nat_le, nat_lt, Option, Some, slice_get, slice_set, slice_index_or, refl}
use Rattle.std.specs.Int.{from_bool}
use Rattle.std.proofs.Common.{sym, ap, ◌∙◌, subst, ⊎_elim, length-set, arith}
use Rattle.std.proofs.lemmas.List.{length-map}
use Rattle.std.proofs.lemmas.Bool.{cases_eq}
use Rattle.std.proofs.lemmas.Bool.Decides.{nat_tests}
use Rattle.std.proofs.lemmas.Option.{same_Some, get_or_from_slice_get}
use Rattle.tree_model.specs.declared.tree.TheConstants.{NUMBERS_MAX}
use Rattle.tree_model.proofs.StepLaws.{slice_get-set_other}
use Rattle.layered_search.proofs.Places.{within_some}
use Rattle.race_core.specs.declared.seat.Seat.{Seat}
use Rattle.race_core.specs.Book.{BookedHistory, tree_now, free_lines}
use Rattle.race_core.specs.Worlds.{WorldView, turn}
use Rattle.local_states.specs.declared.keys.Effect.{Effect}
use Rattle.local_states.specs.declared.keys.Key.{Key}
use Rattle.local_states.specs.declared.keys.Own.{Own}
use Rattle.explore.specs.declared.turns.memo.MemoKey.{MemoKey}
use Rattle.explore.specs.declared.turns.world_counts.Start.{Start}
use Rattle.local_states.specs.Worlds.{full}
use Rattle.local_states.specs.Counting.{bumped}
use Rattle.explore.specs.Effects.{HasGrown, IsEffectFrom, IsMemoKeyOf, IsRemembered, IsStart}
use Rattle.local_states.specs.Keys.{ComponentsView, AreRows, Grows, IsPartAt, IsKey, IsKeyAfter, AreSameKeysButParts, outside_in, own_after}
use Rattle.local_states.specs.Outside.{plus, outside_from, roots_of}
use Rattle.local_states.specs.Local.{actor_of, SamePartAt, AreAllGiven, GrownAlike, SameGround, changes_outside}
use Rattle.local_states.proofs.Alike.OutsideAlike.{roots_stay}
use Rattle.local_states.proofs.Alike.Steps.{set_at}
use Rattle.local_states.proofs.Counting.{bumped_none, bumped_first, bumped_next}
use Rattle.explore.proofs.Keyed.Growing.{grows_same, rows_grow, key_grows}
use Rattle.explore.proofs.Keyed.OneTurn.{lines_stay, numbered_stays}
use Rattle.local_states.proofs.Parted.SameKeys.{part_given, one_part, part_moved, part_of_same, keys_itself}
use Rattle.local_states.proofs.Parted.Parts.{like_there}
use Rattle.local_states.proofs.Lists.Runs.{turn_stays}
use Rattle.local_states.proofs.Local.Parts.{parts_stay}
use Rattle.local_states.proofs.Local.Worlds.{turns_are_local, given_stay}

-- ---- the turn of one who asks the same

-- where both have grown by as many, the one has grown as the other has
module _ (b c after others : BookedHistory) (grown : GrownAlike b c after others) where
  as_many : (so : Bool) (m' n' m n : ℕ) → m' + n ≡ n' + m → n' ≡ plus so n → m' ≡ plus so m
  as_many true m' n' m n e e' = omega arith
  as_many false m' n' m n e e' = omega arith

  bumped_alike : (so : Bool) (i k : ℕ) (roots : List (Option ℕ))
      → outside_from others k roots ≡ bumped so i (outside_from c k roots)
      → outside_from after k roots ≡ bumped so i (outside_from b k roots)
  bumped_alike so i k [] e = sym (bumped_none so i)
  bumped_alike so zero k (root ∷ roots) e =
      let split : changes_outside k root others ∷ outside_from others (suc k) roots ≡ plus so
      (changes_outside k root c) ∷ outside_from c (suc k) roots =
      e ∙ bumped_first so (changes_outside k root c) (outside_from c (suc k) roots) in
      let head : changes_outside k root others ≡ plus so (changes_outside k root c) = cc (split) in
      let tail : outside_from others (suc k) roots ≡ outside_from c (suc k) roots = cc (split) in
      let first = as_many so _ _ (changes_outside k root b) (changes_outside k root c) (grown.outside k root) head in
      let rest = bumped_alike false 0 (suc k) roots tail in
      (λ j. first j ∷ rest j) ∙ sym (bumped_first so (changes_outside k root b) (outside_from b (suc k) roots))
  bumped_alike so (suc i) k (root ∷ roots) e =
      let split : changes_outside k root others ∷ outside_from others (suc k) roots
      ≡ changes_outside k root c ∷ bumped so i (outside_from c (suc k) roots) =
      e ∙ bumped_next so i (changes_outside k root c) (outside_from c (suc k) roots) in
      let head : changes_outside k root others ≡ plus false (changes_outside k root c) = cc (split) in
      let tail : outside_from others (suc k) roots ≡ bumped so i (outside_from c (suc k) roots) = cc (split) in
      let first = as_many false _ _ (changes_outside k root b) (changes_outside k root c) (grown.outside k root) head in
      let rest = bumped_alike so i (suc k) roots tail in
      (λ j. first j ∷ rest j) ∙ sym (bumped_next so i (changes_outside k root b) (outside_from b (suc k) roots))

-- what has grown by as much has grown by that
by_that : (m' n' m n more : ℕ) → m' + n ≡ n' + m → n' ≡ n + more → m' ≡ m + more
by_that m' n' m n more e e' = omega arith

by_those : (m' n' m n more less : ℕ) → m' + n ≡ n' + m → n' + less ≡ n + more → m' + less ≡ m + more
by_those m' n' m n more less e e' = omega arith

grown_alike : (told : Bool) (i : ℕ) (v o : WorldView) (effect : Effect)
    → GrownAlike v.book o.book (turn full v i).book (turn full o i).book
    → roots_of told v ≡ roots_of told o → HasGrown told i o (turn full o i) effect
    → HasGrown told i v (turn full v i) effect
grown_alike told i v o effect alike roots grown = record {
  events = by_that _ _ _ _ _ alike.events grown.events;
  numbers = by_that _ _ _ _ _ alike.numbers grown.numbers;
  open_handles = by_those _ _ _ _ _ _ alike.open_handles grown.open_handles;
  outside =
      ap (λ roots. outside_from (turn full v i).book 0 roots) (roots_stay told full v i)
      ∙ bumped_alike v.book o.book (turn full v i).book (turn full o i).book alike effect.outside i 0 (roots_of told v)
      (subst (λ roots. outside_from (turn full o i).book 0 roots ≡ bumped effect.outside i
      (outside_from o.book 0 roots)) (sym roots)
      (ap (λ roots. outside_from (turn full o i).book 0 roots) (sym (roots_stay told full o i)) ∙ grown.outside));
  untold = grown.untold;
}

same_memo_key : (c : ComponentsView) (w v o : WorldView) (memo_key : MemoKey) → IsMemoKeyOf c w v memo_key
    → IsMemoKeyOf c w o memo_key → SameGround v.book o.book
same_memo_key c w v o memo_key here there = record {
  nodes = same_Some _ _ (sym here.nodes ∙ there.nodes);
  numbers = here.numbers ∙ sym there.numbers;
  lines = λ n few. here.room n few ∙ sym (there.room n few);
}

-- what the turn comes to in the one world it comes to in the other
pub effect_alike : (c : ComponentsView) (w v o : WorldView) (memo_key : MemoKey) (effect : Effect)
    → AreRows c.parts (length w.seats)
    → IsMemoKeyOf c w v memo_key → IsMemoKeyOf c w o memo_key → IsEffectFrom c o memo_key.actor effect
    → IsEffectFrom c v memo_key.actor effect
effect_alike c w v o memo_key effect rows here there is =
    let same : SamePartAt v o memo_key.actor =
    one_part c v o memo_key.actor memo_key.part (length w.seats) rows here.part there.part in
    let gone = turns_are_local v o full memo_key.actor (same_memo_key c w v o memo_key here there) same in
    record {
      nodes = is.nodes ∙ ap Some (sym gone.nodes);
      part = part_of_same c (turn full v memo_key.actor) (turn full o memo_key.actor) memo_key.actor effect.part
          (length w.seats) rows gone.part is.part;
      grown = grown_alike c.told memo_key.actor v o effect gone.grown (here.roots ∙ sym there.roots) is.grown;
    }

-- ---- the others' parts

others_part : (c : ComponentsView) (v : WorldView) (i j at actors : ℕ) → AreRows c.parts actors → i ≢ j
    → i < length v.seats
    → ((k : ℕ) (x : Seat) → slice_get v.seats k ≡ Some x → actor_of x ≡ k) → AreAllGiven v → IsPartAt c v j at
    → IsPartAt c (turn full v i) j at
others_part c v i j at actors rows ne lt numbered given part =
    let own : part.row.actor ≡ j = rows.own j part.row part.there in
    let x = within_some v.seats i lt in
    let old = part.is.same in
    let apart : i ≢ part.row.actor = (λ e. ne (e ∙ own)) in
    let differ : actor_of x.0 ≢ actor_of old.here =
    (λ e. apart (sym (numbered i x.0 x.1) ∙ (e ∙ numbered part.row.actor old.here old.is_here))) in
    let stays = parts_stay v full i part.row.actor x.0 old.here apart x.1 old.is_here differ in
    part_moved part (record {
      here = old.here;
      there = old.there;
      is_here = stays.0;
      is_there = old.is_there;
      part = stays.1 (tree_now part.is.other.book) old.there old.part
          (part_given (tree_now v.book) (tree_now part.is.other.book) old.here old.there old.part
          (given part.row.actor old.here old.is_here));
    })

-- ---- changes outside of roots

from_plus : (so : Bool) (n : ℕ) → n + from_bool so ≡ plus so n
from_plus true n = omega arith
from_plus false n = omega arith

outside_set : (effect : Effect) (xs : List Own) (i : ℕ) (none : Own)
    → map (λ (o : Own). o.outside) (slice_set xs i (own_after (slice_index_or xs i none) effect))
    ≡ bumped effect.outside i (map (λ (o : Own). o.outside) xs)
outside_set effect [] i none = sym (bumped_none effect.outside i)
outside_set effect (x ∷ xs) zero none =
    ap (λ n. n ∷ map (λ (o : Own). o.outside) xs) (from_plus effect.outside x.outside)
    ∙ sym (bumped_first effect.outside x.outside (map (λ (o : Own). o.outside) xs))
outside_set effect (x ∷ xs) (suc i) none =
    ap (λ ns. x.outside ∷ ns) (outside_set effect xs i none)
    ∙ sym (bumped_next effect.outside i x.outside (map (λ (o : Own). o.outside) xs))

outside_after_it : (told : Bool) (effect : Effect) (xs : List Own) (i : ℕ) (none : Own)
    → outside_in told (slice_set xs i (own_after (slice_index_or xs i none) effect)) ≡ bumped effect.outside i
    (outside_in told xs)
outside_after_it true effect xs i none = outside_set effect xs i none
outside_after_it false effect xs i none = sym (bumped_none effect.outside i)

outside_again : (told : Bool) (xs ys : List Own) → map (λ (o : Own). o.outside) xs ≡ map (λ (o : Own). o.outside) ys
    → outside_in told xs ≡ outside_in told ys
outside_again true xs ys e = e
outside_again false xs ys e = refl

-- ---- the key after a turn

module _ (c d : ComponentsView) (w v : WorldView) (i : ℕ) (effect : Effect) (key mid : Key) (is : IsKey c w v key)
    (grows : Grows c d)
    (found : IsEffectFrom d v i effect) (after : IsKeyAfter key i effect mid) (lt : i < length v.seats) where
  abbrev none : Own
  none = record { part = 0; outside = 0 }

  old : IsKey d w v key
  old = key_grows grows is

  within : i < length key.own.items
  within = subst (λ n. i < n) (sym is.many) lt

  -- what has another place in the key after it is as it was, and what has the actor's is the actor's after the effect
  own_there : (own : Own) → slice_get mid.own.items i ≡ Some own
      → own_after (slice_index_or key.own.items i none) effect ≡ own
  own_there own e =
      same_Some _ _ (sym (set_at key.own.items i (own_after (slice_index_or key.own.items i none) effect) within)
      ∙ (ap (λ items. slice_get items i) (sym after.own) ∙ e))

  other_there : (j : ℕ) (own : Own) → i ≢ j → slice_get mid.own.items j ≡ Some own
      → slice_get key.own.items j ≡ Some own
  other_there j own ne e =
      sym (slice_get-set_other key.own.items i (own_after (slice_index_or key.own.items i none) effect) j
      (λ q. ne (sym q)))
      ∙ (ap (λ items. slice_get items j) (sym after.own) ∙ e)

  mid_untold : d.told ≡ false → (j : ℕ) (own : Own) → slice_get mid.own.items j ≡ Some own → own.outside ≡ 0
  mid_untold untold j own e = ⊎_elim here there (cases_eq i j)
    where
      here : i ≡ j → own.outside ≡ 0
      here q =
          let was = within_some key.own.items i within in
          let zero_was : was.0.outside ≡ 0 = old.untold untold i was.0 was.1 in
          let is_was : slice_index_or key.own.items i none ≡ was.0 =
          get_or_from_slice_get key.own.items i was.0 none was.1 in
          let not_outside : effect.outside ≡ false = found.grown.untold untold in
          let now = own_there own (subst (λ n. slice_get mid.own.items n ≡ Some own) (sym q) e) in
          ap (λ (o : Own). o.outside) (sym now)
          ∙ (λ k. (is_was k).outside + from_bool (not_outside k))
          ∙ ap (λ n. n + 0) zero_was

      there : i ≢ j → own.outside ≡ 0
      there ne = old.untold untold j own (other_there j own ne e)

  pub found_whole : (next : Key) → AreSameKeysButParts mid next
      → ((j : ℕ) (own : Own) → slice_get next.own.items j ≡ Some own → IsPartAt d (turn full v i) j own.part)
      → IsKey d w (turn full v i) next
  found_whole next same parts = record {
    nodes = ap (λ n. slice_get d.lists n) (sym same.nodes ∙ after.nodes) ∙ found.nodes;
    lines = lines_stay full v i ∙ old.lines;
    events =
        let grown = found.grown.events in let was = old.events in let mid_is = after.events in
        let next_is = same.events in
        omega arith;
    numbers =
        let grown = found.grown.numbers in let was = old.numbers in let mid_is = after.opened in
        let next_is = same.opened in
        omega arith;
    open_handles =
        let grown = found.grown.open_handles in let was = old.open_handles in
        let opened = after.opened in let closed = after.closed in let opened' = same.opened in
        let closed' = same.closed in
        omega arith;
    seats = turn_stays full v i ∙ old.seats;
    numbered = numbered_stays full v i old.numbered;
    given = λ all. given_stay v full i (old.given all);
    many =
        (sym (length-map next.own.items (λ (o : Own). o.outside)) ∙ ap length (sym same.own)
        ∙ length-map mid.own.items (λ (o : Own). o.outside))
        ∙ (ap length after.own ∙ length-set key.own.items i (own_after (slice_index_or key.own.items i none) effect))
        ∙ (old.many ∙ sym (turn_stays full v i));
    parts = parts;
    roots = roots_stay d.told full v i ∙ old.roots;
    outside =
        found.grown.outside ∙ ap (bumped effect.outside i) old.outside
        ∙ sym (outside_after_it d.told effect key.own.items i none)
        ∙ ap (outside_in d.told) (sym after.own) ∙ outside_again d.told mid.own.items next.own.items same.own;
    untold = λ untold j own e.
        let there = like_there (λ (o : Own). o.outside) next.own.items mid.own.items (sym same.own) j own e in
        there.1.1 ∙ mid_untold untold j there.0 there.1.0;
  }

  pub found_turn : AreRows c.parts (length w.seats) → AreAllGiven w → IsKey d w (turn full v i) mid
  found_turn rows given =
      found_whole mid (keys_itself mid) parts
    where
      parts : (j : ℕ) (own : Own) → slice_get mid.own.items j ≡ Some own → IsPartAt d (turn full v i) j own.part
      parts j own e = ⊎_elim here there (cases_eq i j)
        where
          here : i ≡ j → IsPartAt d (turn full v i) j own.part
          here q =
              let now = own_there own (subst (λ n. slice_get mid.own.items n ≡ Some own) (sym q) e) in
              subst (λ n. IsPartAt d (turn full v i) n own.part) q
              (subst (λ n. IsPartAt d (turn full v i) i n) (ap (λ (o : Own). o.part) now) found.part)

          there : i ≢ j → IsPartAt d (turn full v i) j own.part
          there ne =
              others_part d v i j own.part (length w.seats) (rows_grow grows rows) ne lt old.numbered (old.given given)
              (old.parts j own (other_there j own ne e))

pub known_turn : (c : ComponentsView) (w v : WorldView) (memo_key : MemoKey) (effect : Effect) (key next : Key)
    → AreRows c.parts (length w.seats) → AreAllGiven w
    → IsKey c w v key → IsMemoKeyOf c w v memo_key → IsRemembered c w (record { memo_key = memo_key; effect = effect })
    → IsKeyAfter key memo_key.actor effect next
    → memo_key.actor < length v.seats → IsKey c w (turn full v memo_key.actor) next
known_turn c w v memo_key effect key next rows given is asked remembered after lt =
    found_turn c c w v memo_key.actor effect key next is grows_same
    (effect_alike c w v remembered.from memo_key effect rows asked remembered.memo_key remembered.effect) after lt rows
    given

-- ---- what is asked

-- as many are free as far as two
few_free : (free room n : ℕ) → room ≡ min free 2 → n ≤ 2 → nat_lt free n ≡ nat_lt room n
few_free free room n e le = grind (arith, nat_tests)

pub memo_key_of : (c : ComponentsView) (w v : WorldView) (start : Start) (key : Key) (i : ℕ) (own : Own)
    (memo_key : MemoKey) → IsStart start w → IsKey c w v key
    → slice_get key.own.items i ≡ Some own → memo_key.nodes ≡ key.nodes → memo_key.actor ≡ i → memo_key.part ≡ own.part
    → memo_key.room ≡ min (start.lines - (((start.open_handles + key.opened) - key.closed) + key.events)) 2
    → memo_key.is_full ≡ nat_le NUMBERS_MAX (start.numbers + key.opened) → IsMemoKeyOf c w v memo_key
memo_key_of c w v start key i own memo_key begun is there nodes actor part room is_full = record {
  nodes = ap (λ n. slice_get c.lists n) nodes ∙ is.nodes;
  part = subst (λ n. IsPartAt c v n memo_key.part) (sym actor)
      (subst (λ n. IsPartAt c v i n) (sym part) (is.parts i own there));
  room = λ n few. few_free (free_lines v.book) memo_key.room n (room ∙ ap (λ m. min m 2) (sym free)) few;
  numbers = ap (nat_le NUMBERS_MAX) (is.numbers ∙ ap (λ n. n + key.opened) (sym begun.numbers)) ∙ sym is_full;
  numbered = is.numbered;
  roots = is.roots;
}
  where
    fresh : length w.book.events ≡ 0
    fresh = ap length begun.fresh

    free : free_lines v.book ≡ start.lines - (((start.open_handles + key.opened) - key.closed) + key.events)
    free =
        let lines = begun.lines in let was = is.lines in let events = is.events in let none = fresh in
        let open_handles = begun.open_handles in let open_now = is.open_handles in omega arith
