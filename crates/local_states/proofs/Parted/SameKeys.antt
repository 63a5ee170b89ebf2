-- Worlds with one key are the same, and those that are the same have one key.
use Rattle.std.specs.Prelude.{◌≡◌, ◌≤◌, ◌<◌, ℕ, ◌+◌, List, length, map, Some, slice_get, refl}
use Rattle.std.proofs.Common.{sym, ap, ◌∙◌, subst, ⊎_elim, arith}
use Rattle.std.proofs.lemmas.Option.{same_Some, slice_get_within}
use Rattle.tree_model.specs.State.{State}
use Rattle.layered_search.proofs.Places.{within_some}
use Rattle.race_core.specs.declared.seat.Seat.{Seat}
use Rattle.race_core.specs.Book.{tree_now}
use Rattle.race_core.specs.Worlds.{WorldView, turn}
use Rattle.local_states.specs.declared.keys.Key.{Key}
use Rattle.local_states.specs.declared.keys.Own.{Own}
use Rattle.local_states.specs.Worlds.{full}
use Rattle.local_states.specs.HandleTables.{PartView, IsPartOf}
use Rattle.local_states.specs.Keys.{PartsView, IsPartIn, ComponentsView, AreRows, AreInterned, IsPartAt, IsKey, AreFew, AreSameKeysBy, AreSameKeys, AreSameKeysButOutside, AreSameKeysButParts, outside_in}
use Rattle.local_states.specs.Local.{actor_of, SamePart, SamePartAt, AreGiven, AreAllGiven, AreNumbered, SameParts}
use Rattle.local_states.specs.Same.{IsSame}
use Rattle.local_states.proofs.Local.OutsideSame.{same_worlds_act}
use Rattle.local_states.proofs.Local.Parts.{one_actor, part_itself, number_there}
use Rattle.local_states.proofs.Parted.Parts.{same_maps, like_there, at_back, at_join, one_kept}

-- ---- one actor's part

-- the numbers of handles were given in both trees
pub part_given : (s t : State) (x y : Seat) → SamePart s t x y → AreGiven s x → AreGiven t y
part_given s t x y part given at k e =
    let h = number_there y x (sym part.like) at k e in
    let lt : h.0 < length s.handles = given at h.0 h.1.there in
    ⊎_elim (λ both. both.1) (λ one. omega (arith, lt, one.0, one.1))
    (part.pairs at h.0 k (record { here = h.1.there; there = h.1.here })).given

pub at_actor : {v : WorldView} {row : PartsView} {at : ℕ} (i : ℕ) → row.actor ≡ i → (is : IsPartIn row v at)
    → SamePartAt v is.other i
at_actor {v} i own is = subst (λ n. SamePartAt v is.other n) own is.same

-- two worlds have the part at one place
pub one_part : (c : ComponentsView) (u v : WorldView) (i at actors : ℕ) → AreRows c.parts actors → IsPartAt c u i at
    → IsPartAt c v i at → SamePartAt u v i
one_part c u v i at actors rows here there =
    let row : there.row ≡ here.row = same_Some there.row here.row (sym there.there ∙ here.there) in
    let is : IsPartIn here.row v at = subst (λ row. IsPartIn row v at) row there.is in
    let own : here.row.actor ≡ i = rows.own i here.row here.there in
    let part : is.part ≡ here.is.part = same_Some is.part here.is.part (sym is.there ∙ here.is.there) in
    let kept : IsPartOf here.row.outcomes is.other here.row.actor here.is.part =
    subst (λ (p : PartView). IsPartOf here.row.outcomes is.other here.row.actor p) part is.is in
    let others : SamePartAt here.is.other is.other i =
    subst (λ n. SamePartAt here.is.other is.other n) own
    (one_kept here.row.outcomes here.is.other is.other here.row.actor here.is.part here.is.is kept) in
    at_join (at_actor i own here.is) (at_join others (at_back (at_actor i own is)))

-- the place is that of the part in each world that is the same
pub part_moved : {c : ComponentsView} {u v : WorldView} {i at : ℕ} (part : IsPartAt c v i at)
    → SamePartAt u part.is.other part.row.actor → IsPartAt c u i at
part_moved part same = record {
  row = part.row;
  there = part.there;
  is = record { part = part.is.part; there = part.is.there; other = part.is.other; is = part.is.is; same = same };
}

-- so it is where the part is the same in two worlds
pub part_of_same : (c : ComponentsView) (u v : WorldView) (i at actors : ℕ) → AreRows c.parts actors → SamePartAt u v i
    → IsPartAt c v i at → IsPartAt c u i at
part_of_same c u v i at actors rows same part =
    let own : part.row.actor ≡ i = rows.own i part.row part.there in
    part_moved part (at_join (subst (λ n. SamePartAt u v n) (sym own) same) part.is.same)

-- ---- whole worlds

pub same_keys : (c : ComponentsView) (w u v : WorldView) (key : Key) → IsKey c w u key → IsKey c w v key
    → AreRows c.parts (length w.seats) → IsSame c.told u v
same_keys c w u v key here there rows = record {
  parts = record {
    nodes = same_Some _ _ (sym here.nodes ∙ there.nodes);
    lines = here.lines ∙ sym there.lines;
    events = here.events ∙ sym there.events;
    numbers = here.numbers ∙ sym there.numbers;
    open_handles = let one = here.open_handles in let two = there.open_handles in omega (arith, one, two);
    seats = here.seats ∙ sym there.seats;
    numbered = here.numbered;
    parts = λ i lt.
        let own = within_some key.own.items i (subst (λ n. i < n) (sym here.many) lt) in
        one_part c u v i own.0.part (length w.seats) rows (here.parts i own.0 own.1) (there.parts i own.0 own.1);
  };
  roots = here.roots ∙ sym there.roots;
  outside = here.outside ∙ sym there.outside;
}

-- the numbers of handles were given in worlds that are the same
given_same : (u v : WorldView) → SameParts v u → AreAllGiven v → AreAllGiven u
given_same u v same given i x e =
    let lt : i < length v.seats = subst (λ n. i < n) (sym same.seats) (slice_get_within u.seats i x e) in
    let at = same.parts i lt in
    subst (AreGiven (tree_now u.book)) (same_Some at.there x (sym at.is_there ∙ e))
    (part_given (tree_now v.book) (tree_now u.book) at.here at.there at.part (given i at.here at.is_here))

pub key_of_same : (c : ComponentsView) (w u v : WorldView) (key : Key) → IsKey c w v key → IsSame c.told v u
    → IsKey c w u key
key_of_same c w u v key is same =
    let nodes = same.parts.nodes in record {
      nodes = is.nodes ∙ ap Some nodes;
      lines = sym same.parts.lines ∙ is.lines;
      events = sym same.parts.events ∙ is.events;
      numbers = sym same.parts.numbers ∙ is.numbers;
      open_handles = ap (λ n. n + key.closed) (sym same.parts.open_handles) ∙ is.open_handles;
      seats = sym same.parts.seats ∙ is.seats;
      numbered = numbered;
      given = λ all. given_same u v same.parts (is.given all);
      many = is.many ∙ same.parts.seats;
      parts = parts;
      roots = sym same.roots ∙ is.roots;
      outside = sym same.outside ∙ is.outside;
      untold = is.untold;
    }
  where
    numbered : AreNumbered u.seats
    numbered i x e =
        let lt : i < length v.seats = subst (λ n. i < n) (sym same.parts.seats) (slice_get_within u.seats i x e) in
        let at = same.parts.parts i lt in
        let there : at.there ≡ x = same_Some at.there x (sym at.is_there ∙ e) in
        ap (λ (seat : Seat). actor_of seat) (sym there)
        ∙ (sym (one_actor at.here at.there at.part.like) ∙ is.numbered i at.here at.is_here)

    parts : (i : ℕ) (own : Own) → slice_get key.own.items i ≡ Some own → IsPartAt c u i own.part
    parts i own e =
        let part = is.parts i own e in
        let lt : part.row.actor < length v.seats =
        slice_get_within v.seats part.row.actor part.is.same.here part.is.same.is_here in
        part_moved part (at_join (at_back (same.parts.parts part.row.actor lt)) part.is.same)

-- ---- keys that are the same, by what is seen of the actors' own

module _ {Seen : Type 0} {seen : List Own → Seen} where
  pub keys_itself : (key : Key) → AreSameKeysBy seen key key
  keys_itself key = record { nodes = refl; events = refl; opened = refl; closed = refl; own = refl }

  pub keys_back : (key other : Key) → AreSameKeysBy seen key other → AreSameKeysBy seen other key
  keys_back key other same = record {
    nodes = sym same.nodes;
    events = sym same.events;
    opened = sym same.opened;
    closed = sym same.closed;
    own = sym same.own;
  }

  pub keys_on : (a b c : Key) → AreSameKeysBy seen a b → AreSameKeysBy seen b c → AreSameKeysBy seen a c
  keys_on a b c first second = record {
    nodes = first.nodes ∙ second.nodes;
    events = first.events ∙ second.events;
    opened = first.opened ∙ second.opened;
    closed = first.closed ∙ second.closed;
    own = first.own ∙ second.own;
  }

-- the same keys are the same by less
pub keys_seen : {Seen : Type 0} (seen : List Own → Seen) (key other : Key) → AreSameKeys key other
    → AreSameKeysBy seen key other
keys_seen seen key other same = record {
  nodes = same.nodes;
  events = same.events;
  opened = same.opened;
  closed = same.closed;
  own = ap seen same.own;
}

pub few_again : (n : ℕ) (key other : Key) → AreSameKeysButParts key other → AreFew n key → AreFew n other
few_again n key other same few = record {
  events = subst (λ k. k ≤ n) same.events few.events;
  opened = subst (λ k. k ≤ n) same.opened few.opened;
  closed = subst (λ k. k ≤ n) same.closed few.closed;
  outside = λ i own there.
      let was = like_there (λ (o : Own). o.outside) other.own.items key.own.items (sym same.own) i own there in
      subst (λ k. k ≤ n) (sym was.1.1) (few.outside i was.0 was.1.0);
}

pub few_copied : (n : ℕ) (key copy : Key) → AreSameKeys copy key → AreFew n key → AreFew n copy
few_copied n key copy same =
    few_again n key copy (keys_seen (map (λ (o : Own). o.outside)) key copy (keys_back copy key same))

-- a key and one with the same numbers are keys of one world
pub key_again : (c : ComponentsView) (w v : WorldView) (key other : Key) → AreSameKeys key other → IsKey c w v key
    → IsKey c w v other
key_again c w v key other same is = record {
  nodes = ap (λ n. slice_get c.lists n) (sym same.nodes) ∙ is.nodes;
  lines = is.lines;
  events = is.events ∙ ap (λ n. length w.book.events + n) same.events;
  numbers = is.numbers ∙ ap (λ n. length (tree_now w.book).handles + n) same.opened;
  open_handles = let one = is.open_handles in let opened = same.opened in let closed = same.closed in omega arith;
  seats = is.seats;
  numbered = is.numbered;
  given = is.given;
  many = ap length (sym same.own) ∙ is.many;
  parts = λ i own e. is.parts i own (ap (λ items. slice_get items i) same.own ∙ e);
  roots = is.roots;
  outside = is.outside ∙ ap (outside_in c.told) same.own;
  untold = λ none i own e. is.untold none i own (ap (λ items. slice_get items i) same.own ∙ e);
}

-- the same turn leads worlds with one key to worlds with one key
pub key_turned : (c d : ComponentsView) (w u v : WorldView) (i : ℕ) (key next : Key) → AreRows c.parts (length w.seats)
    → IsKey c w u key → IsKey c w v key → IsKey d w (turn full u i) next → c.told ≡ d.told
    → IsKey d w (turn full v i) next
key_turned c d w u v i key next rows here there after told =
    let same = same_worlds_act c.told u v full i (same_keys c w u v key here there rows) in
    key_of_same d w (turn full v i) (turn full u i) next after
    (subst (λ told. IsSame told (turn full u i) (turn full v i)) told same)

-- ---- keys that are the same but for changes outside of roots

module _ (c : ComponentsView) (w u v : WorldView) (key other : Key) (rows : AreRows c.parts (length w.seats))
    (here : IsKey c w u key) (there : IsKey c w v other) where
  -- they are keys of worlds in which each actor has the same part
  pub same_but_outside_parts : AreSameKeysButOutside key other → SameParts u v
  same_but_outside_parts are = record {
    nodes = same_Some _ _ (sym here.nodes ∙ (ap (slice_get c.lists) are.nodes ∙ there.nodes));
    lines = here.lines ∙ sym there.lines;
    events = let one = here.events in let two = there.events in let e = are.events in omega arith;
    numbers = let one = here.numbers in let two = there.numbers in let e = are.opened in omega arith;
    open_handles = let one = here.open_handles in let two = there.open_handles in let e = are.opened in
        let q = are.closed in omega arith;
    seats = here.seats ∙ sym there.seats;
    numbered = here.numbered;
    parts = λ i lt.
        let own = within_some key.own.items i (subst (λ n. i < n) (sym here.many) lt) in
        let its = like_there (λ (o : Own). o.part) key.own.items other.own.items are.own i own.0 own.1 in
        one_part c u v i own.0.part (length w.seats) rows (here.parts i own.0 own.1)
        (subst (λ at. IsPartAt c v i at) (sym its.1.1) (there.parts i its.0 its.1.0));
  }

  -- and such worlds have such keys
  pub parts_same_but_outside : AreInterned c.lists c.parts → SameParts u v → AreSameKeysButOutside key other
  parts_same_but_outside met same = record {
    nodes = met.lists_once key.nodes other.nodes _ here.nodes (there.nodes ∙ ap Some (sym same.nodes));
    events = let one = here.events in let two = there.events in let both = same.events in omega arith;
    opened = opened;
    closed = let one = here.open_handles in let two = there.open_handles in let both = same.open_handles in
        let e = opened in omega arith;
    own = same_maps (λ (o : Own). o.part) (λ (o : Own). o.part) key.own.items other.own.items
        (here.many ∙ (same.seats ∙ sym there.many)) part_once;
  }
    where
      opened : key.opened ≡ other.opened
      opened = let one = here.numbers in let two = there.numbers in let both = same.numbers in omega arith

      part_once : (i : ℕ) (own its : Own) → slice_get key.own.items i ≡ Some own
          → slice_get other.own.items i ≡ Some its → own.part ≡ its.part
      part_once i own its e q =
          let one = here.parts i own e in
          let two = there.parts i its q in
          let row : two.row ≡ one.row = same_Some two.row one.row (sym two.there ∙ one.there) in
          let is : IsPartIn one.row v its.part = subst (λ (r : PartsView). IsPartIn r v its.part) row two.is in
          let lt : one.row.actor < length u.seats =
          slice_get_within u.seats one.row.actor one.is.same.here one.is.same.is_here in
          met.parts_once i one.row one.there own.part its.part u v one.is is (same.parts one.row.actor lt)

-- each actor has the same part in a world as in itself
pub same_itself : (w : WorldView) → AreNumbered w.seats → SameParts w w
same_itself w numbered = record {
  nodes = refl;
  lines = refl;
  events = refl;
  numbers = refl;
  open_handles = refl;
  seats = refl;
  numbered = numbered;
  parts = λ i lt.
      let seat = within_some w.seats i lt in
      record {
        here = seat.0;
        there = seat.0;
        is_here = seat.1;
        is_there = seat.1;
        part = part_itself (tree_now w.book) seat.0;
      };
}
