-- Keys and effects as they are found: the opening world's key, and what a turn comes to by the numbers before and after
-- it.
use Rattle.std.specs.Prelude.{◌≡◌, ◌≤◌, ◌<◌, ◌⊎◌, ℕ, suc, ◌+◌, List, [], ◌∷◌, Bool, true, false, length, map, nat_lt, Some, Result, Ok, Err, IfOk, OnOk, slice_get, slice_set, slice_index_or, refl}
use Rattle.std.specs.Int.{from_bool}
use Rattle.std.specs.List.{All}
use Rattle.std.proofs.Common.{sym, ap, ◌∙◌, subst, ⊎_elim, length-set, arith}
use Rattle.std.proofs.Math.ListN.{get_or-map}
use Rattle.std.proofs.lemmas.Bool.{cases_eq}
use Rattle.std.proofs.Math.Seq.{map-set_same}
use Rattle.std.proofs.lemmas.List.{length-map}
use Rattle.std.proofs.lemmas.List.Elements.{All-head, All-tail}
use Rattle.std.proofs.lemmas.Option.{same_Some, get_or_from_slice_get, slice_get_within}
use Rattle.tree_model.specs.State.{State}
use Rattle.tree_model.specs.Steps.{held}
use Rattle.tree_model.proofs.StepLaws.{slice_get-set_other}
use Rattle.layered_search.proofs.Places.{within_some}
use Rattle.race_core.specs.declared.seat.Seat.{Seat}
use Rattle.race_core.specs.Book.{BookedHistory, tree_now}
use Rattle.race_core.specs.Turns.{Luck}
use Rattle.race_core.specs.Worlds.{WorldView, turn, Runs}
use Rattle.local_states.specs.declared.keys.Effect.{Effect}
use Rattle.local_states.specs.declared.keys.Key.{Key}
use Rattle.local_states.specs.declared.keys.Own.{Own}
use Rattle.explore.specs.declared.turns.memo.MemoKey.{MemoKey}
use Rattle.explore.specs.declared.turns.memo.Entry.{Entry}
use Rattle.explore.specs.declared.turns.world_counts.Counts.{Counts}
use Rattle.local_states.specs.Worlds.{full, after_turns}
use Rattle.explore.specs.Replayed.{ReplayedView}
use Rattle.explore.specs.Effects.{AreCountsIn, AreCompared, IsEffectFrom, IsMemoKeyOf, IsRemembered, KnownView, IsSound}
use Rattle.local_states.specs.Keys.{ComponentsView, Grows, IsPartAt, IsKey, IsKeyAfter, AreSameKeysButParts, AreFew, outside_in, own_after}
use Rattle.local_states.specs.Local.{AreNumbered}
use Rattle.local_states.specs.Outside.{outside_after, outside_from, outside_of, roots_from}
use Rattle.local_states.specs.OutOfMemory.{EndsWell}
use Rattle.local_states.proofs.Alike.Steps.{set_at}
use Rattle.explore.proofs.Keyed.Growing.{part_grows, effect_grows, sound_grows, grows_on}
use Rattle.explore.proofs.Keyed.KnownTurn.{found_turn, found_whole}
use Rattle.explore.proofs.Keyed.OneTurn.{grown_by, numbered_stays}
use Rattle.local_states.proofs.OutOfMemory.Lucky.{full_turn, well_turned}
use Rattle.explore.proofs.OutOfMemory.Lucky.{runs_full}

-- ---- the opening world

-- nothing was changed in it
none_outside : (book : BookedHistory) → book.events ≡ [] → (s : State) (a : ℕ) (seats : List Seat) (own : List Own)
    → length own ≡ length seats
    → All (λ n. n ≡ 0) (map (λ (o : Own). o.outside) own)
    → outside_from book a (roots_from s a seats) ≡ map (λ (o : Own). o.outside) own
none_outside book fresh s a [] [] many none = refl
none_outside book fresh s a [] (one ∷ own) many none = absurd (omega (arith, many))
none_outside book fresh s a (seat ∷ seats) [] many none = absurd (omega (arith, many))
none_outside book fresh s a (seat ∷ seats) (one ∷ own) many none =
    let rest : outside_from book (suc a) (roots_from s (suc a) seats) ≡ map (λ (o : Own). o.outside) own =
    none_outside book fresh s (suc a) seats own (omega (arith, many))
    (All-tail (λ n. n ≡ 0) one.outside (map (λ (o : Own). o.outside) own) none) in
    let zero_is : one.outside ≡ 0 = All-head (λ n. n ≡ 0) one.outside (map (λ (o : Own). o.outside) own) none in
    let first : outside_after a (held s a seat.ledger.root.handle) book.opening book.events ≡ one.outside =
    ap (λ events. outside_after a (held s a seat.ledger.root.handle) book.opening events) fresh ∙ sym zero_is in
    λ k. first k ∷ rest k

none_in : (told : Bool) (w : WorldView) (own : List Own) → w.book.events ≡ [] → length own ≡ length w.seats
    → All (λ n. n ≡ 0) (map (λ (o : Own). o.outside) own) → outside_of told w ≡ outside_in told own
none_in true w own fresh many none = none_outside w.book fresh w.book.opening 0 w.seats own many none
none_in false w own fresh many none = refl

abbrev no_own : Own
no_own = record { part = 0; outside = 0 }

pub zero_at : (own : List Own) → All (λ n. n ≡ 0) (map (λ (o : Own). o.outside) own) → (i : ℕ) (one : Own)
    → slice_get own i ≡ Some one → one.outside ≡ 0
zero_at own none i one there =
    let within : i < length (map (λ (o : Own). o.outside) own) =
    subst (λ n. i < n) (sym (length-map own (λ (o : Own). o.outside))) (slice_get_within own i one there) in
    ap (λ (o : Own). o.outside) (sym (get_or_from_slice_get own i one no_own there))
    ∙ (sym (get_or-map (λ (o : Own). o.outside) own i no_own) ∙ none i 0 within)

pub first_is : (c : ComponentsView) (w : WorldView) (key : Key) → AreNumbered w.seats → w.book.events ≡ []
    → slice_get c.lists key.nodes ≡ Some (tree_now w.book).nodes
    → key.events ≡ 0 → key.opened ≡ 0 → key.closed ≡ 0 → length key.own.items ≡ length w.seats
    → All (λ n. n ≡ 0) (map (λ (o : Own). o.outside) key.own.items)
    → ((i : ℕ) (own : Own) → slice_get key.own.items i ≡ Some own → IsPartAt c w i own.part) → IsKey c w w key
first_is c w key numbered fresh nodes events opened closed many none parts = record {
  nodes = nodes;
  lines = refl;
  events = omega (arith, events);
  numbers = omega (arith, opened);
  open_handles = omega (arith, opened, closed);
  seats = refl;
  numbered = numbered;
  given = λ all. all;
  many = many;
  parts = parts;
  roots = refl;
  outside = none_in c.told w key.own.items fresh many none;
  untold = λ untold i own there. zero_at key.own.items none i own there;
}

pub first_few : (key : Key) → key.events ≡ 0 → key.opened ≡ 0 → key.closed ≡ 0
    → All (λ n. n ≡ 0) (map (λ (o : Own). o.outside) key.own.items) → AreFew 0 key
first_few key events opened closed none = record {
  events = omega arith;
  opened = omega arith;
  closed = omega arith;
  outside = λ i own there. let zero_is = zero_at key.own.items none i own there in omega arith;
}

-- ---- a turn that was found

-- one more, at most
one_more : (n m k : ℕ) (so : Bool) → k ≡ m + from_bool so → m ≤ n → k ≤ n + 1
one_more n m k true e le = omega arith
one_more n m k false e le = omega arith

pub few_after : (n : ℕ) (key next : Key) (i : ℕ) (effect : Effect) → i < length key.own.items → AreFew n key
    → IsKeyAfter key i effect next → AreFew (n + 1) next
few_after n key next i effect lt few after = record {
  events = one_more n key.events next.events effect.event after.events few.events;
  opened = one_more n key.opened next.opened effect.opens after.opened few.opened;
  closed = one_more n key.closed next.closed effect.closes after.closed few.closed;
  outside = λ j own there. ⊎_elim (λ same. here j own same (at j own there)) (λ ne. elsewhere j own ne (at j own there))
      (cases_eq j i);
}
  where
    new : Own
    new = own_after (slice_index_or key.own.items i no_own) effect

    at : (j : ℕ) (own : Own) → slice_get next.own.items j ≡ Some own
        → slice_get (slice_set key.own.items i new) j ≡ Some own
    at j own there = ap (λ items. slice_get items j) (sym after.own) ∙ there

    here : (j : ℕ) (own : Own) → j ≡ i → slice_get (slice_set key.own.items i new) j ≡ Some own → own.outside ≤ n + 1
    here j own same there =
        let was = within_some key.own.items i lt in
        let is : own ≡ new =
        same_Some own new (sym there
        ∙ (ap (λ k. slice_get (slice_set key.own.items i new) k) same ∙ set_at key.own.items i new lt)) in
        let old : slice_index_or key.own.items i no_own ≡ was.0 =
        get_or_from_slice_get key.own.items i was.0 no_own was.1 in
        one_more n was.0.outside own.outside effect.outside
        (ap (λ (o : Own). o.outside) is ∙ ap (λ (o : Own). o.outside + from_bool effect.outside) old)
        (few.outside i was.0 was.1)

    elsewhere : (j : ℕ) (own : Own) → (j ≡ i → ⊥) → slice_get (slice_set key.own.items i new) j ≡ Some own
        → own.outside ≤ n + 1
    elsewhere j own ne there =
        let few_still : own.outside ≤ n =
        few.outside j own (sym (slice_get-set_other key.own.items i new j ne) ∙ there) in
        omega arith

pub length_after : (key next : Key) (i : ℕ) (effect : Effect) → IsKeyAfter key i effect next
    → length next.own.items ≡ length key.own.items
length_after key next i effect after = ap length after.own ∙ length-set key.own.items i _

pub effect_found : (d : ComponentsView) (told : Bool) (luck : Luck) (i : ℕ) (v after : WorldView) (effect : Effect)
    (before now : Counts) → d.told ≡ told
    → AreNumbered v.seats → i < length v.seats → after ≡ turn luck v i → EndsWell after → AreCountsIn told v i before
    → AreCountsIn told after i now → AreCompared before now effect
    → slice_get d.lists effect.nodes ≡ Some (tree_now after.book).nodes → IsPartAt d after i effect.part
    → IsEffectFrom d v i effect
effect_found d told luck i v after effect before now own numbered lt is well before_is now_is compared nodes part =
    record {
      nodes = subst (λ (u : WorldView). slice_get d.lists effect.nodes ≡ Some (tree_now u.book).nodes) all nodes;
      part = subst (λ u. IsPartAt d u i effect.part) all part;
      grown = grown_by d.told full i v effect numbered lt
          (compared.event ∙ (λ k. nat_lt (were.events k) (are_now.events k)))
          (compared.opens ∙ (λ k. nat_lt (were.numbers k) (are_now.numbers k)))
          (compared.closes ∙ (λ k. nat_lt (are_now.open_handles k) (were.open_handles k)))
          (compared.outside ∙ (λ k. nat_lt (were.outside k) (are_now.outside k)));
    }
  where
    all : after ≡ turn full v i
    all = is ∙ full_turn luck v i (subst (λ u. EndsWell u) is well)

    were : AreCountsIn d.told v i before
    were = subst (λ b. AreCountsIn b v i before) (sym own) before_is

    are_now : AreCountsIn d.told (turn full v i) i now
    are_now = subst (λ u. AreCountsIn d.told u i now) all (subst (λ b. AreCountsIn b after i now) (sym own) now_is)

-- an actor's part is put at its place among those of all
module _ (c d : ComponentsView) (w : WorldView) (own : List Own) (n at : ℕ) (grows : Grows c d)
    (lt : n < length own) where
  abbrev put : Own
  put = record { part = at; outside = (slice_index_or own n no_own).outside }

  pub outside_kept : map (λ (o : Own). o.outside) (slice_set own n put) ≡ map (λ (o : Own). o.outside) own
  outside_kept = map-set_same (λ (o : Own). o.outside) own n put no_own refl

  pub parts_more : IsPartAt d w n at
      → ((i : ℕ) (one : Own) → i < n → slice_get own i ≡ Some one → IsPartAt c w i one.part)
      → (i : ℕ) (one : Own) → i < n + 1 → slice_get (slice_set own n put) i ≡ Some one → IsPartAt d w i one.part
  parts_more part below i one less there = ⊎_elim here elsewhere (cases_eq i n)
    where
      here : i ≡ n → IsPartAt d w i one.part
      here same =
          let is : one ≡ put =
          same_Some one put (sym there ∙ (ap (λ k. slice_get (slice_set own n put) k) same ∙ set_at own n put lt))
          in
          subst (λ k. IsPartAt d w k one.part) (sym same)
          (subst (λ k. IsPartAt d w n k) (ap (λ (o : Own). o.part) (sym is)) part)

      elsewhere : (i ≡ n → ⊥) → IsPartAt d w i one.part
      elsewhere ne = part_grows grows (below i one (omega arith) (sym (slice_get-set_other own n put i ne) ∙ there))

-- one more is remembered
pub remembered_more : (c : ComponentsView) (w v : WorldView) (memo_key : MemoKey) (effect : Effect)
    (old new : List Entry)
    → ((at : ℕ) (entry : Entry) → slice_get new at ≡ Some entry
    → (slice_get old at ≡ Some entry) ⊎ (entry ≡ record { memo_key = memo_key; effect = effect }))
    → IsMemoKeyOf c w v memo_key → IsEffectFrom c v memo_key.actor effect
    → ((at : ℕ) (entry : Entry) → slice_get old at ≡ Some entry → IsRemembered c w entry)
    → (at : ℕ) (entry : Entry) → slice_get new at ≡ Some entry → IsRemembered c w entry
remembered_more c w v memo_key effect old new put asked found was at entry there =
    ⊎_elim (λ old_there. was at entry old_there)
    (λ is. subst (λ e. IsRemembered c w e) (sym is) (record { from = v; memo_key = asked; effect = found }))
    (put at entry there)

-- ---- a world gone through by turns, as luck has it

pub runs_numbered : (w v : WorldView) (is : List ℕ) → Runs w is v → AreNumbered w.seats → AreNumbered v.seats
runs_numbered w v [] run numbered = subst (λ (u : WorldView). AreNumbered u.seats) (sym run) numbered
runs_numbered w v (i ∷ is) run numbered = runs_numbered (turn run.0 w i) v is run.1 (numbered_stays run.0 w i numbered)

-- what is said of a run is said of what it is seen as
pub ran_to : (w : WorldView) (is : List ℕ) {inside replayed : ReplayedView} → inside ≡ replayed
    → Runs w is replayed.world → Runs w is inside.world
ran_to w is same run = subst (λ (r : ReplayedView). Runs w is r.world) (sym same) run

-- Where a turn is taken after these, and all comes to an end that tells of no want, the world before that turn is the one
-- after them.
pub before_there : (w v : WorldView) (is : List ℕ) → Runs w is v → (i : ℕ) (after : WorldView)
    → (luck : Luck) × (after ≡ turn luck v i)
    → EndsWell after → v ≡ after_turns w is
before_there w v is run i after turned well =
    runs_full w v is run (well_turned turned.0 v i (subst (λ u. EndsWell u) turned.1 well))

-- what is said of a success, given what is known where there was one
pub ok_with : {T E P : Type 0} {Q R : T → Type 0} (r : Result T E) → (P → (x : T) → Q x → R x) → OnOk r P → IfOk r Q
    → IfOk r R
ok_with (Ok x) on p q = on p x q
ok_with (Err e) on p q = q

-- ---- the key after a turn that was found

module _ (old mid : KnownView) (w v : WorldView) (i : ℕ) (effect : Effect) (key next : Key) (sound : IsSound w old)
    (is : IsKey old.components w v key) (grows : Grows old.components mid.components)
    (rest : mid ≡ record old { components = mid.components })
    (lt : i < length v.seats) (found : IsEffectFrom mid.components v i effect)
    (key_after : IsKeyAfter key i effect next) where
  pub sound_mid : IsSound w mid
  sound_mid = subst (λ (k : KnownView). IsSound w k) (sym rest) (sound_grows grows sound)

  -- it is remembered: the others' parts are as they were
  pub key_known : (new : KnownView) → old.are_given ≡ true → new.components ≡ mid.components
      → IsKey new.components w (turn full v i) next
  key_known new given same =
      subst (λ (c : ComponentsView). IsKey c w (turn full v i) next) (sym same)
      (found_turn old.components mid.components w v i effect key next is grows found key_after lt sound.rows
      (sound.given given))

  -- or all actors' parts are put anew
  pub sound_whole : (new : KnownView) → Grows mid.components new.components
      → new ≡ record mid { components = new.components } → IsSound w new
  sound_whole new more same = subst (λ (k : KnownView). IsSound w k) (sym same) (sound_grows more sound_mid)

  pub key_whole : (new : KnownView) (last : Key) → Grows mid.components new.components → AreSameKeysButParts next last
      → ((j : ℕ) (own : Own) → slice_get last.own.items j ≡ Some own
      → IsPartAt new.components (turn full v i) j own.part)
      → IsKey new.components w (turn full v i) last
  key_whole new last more same parts =
      found_whole old.components new.components w v i effect key next is (grows_on grows more)
      (effect_grows more found) key_after lt last same parts
