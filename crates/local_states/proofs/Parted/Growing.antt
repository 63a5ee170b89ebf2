-- What is said by places stays so when more is met.
use Rattle.std.specs.Prelude.{◌≡◌, ◌<◌, ◌∷◌, ℕ, length, refl}
use Rattle.std.proofs.Common.{sym, ap, ◌∙◌, subst, arith}
use Rattle.std.proofs.lemmas.Option.{same_Some, slice_get_within}
use Rattle.layered_search.proofs.Places.{within_some}
use Rattle.race_core.specs.Worlds.{WorldView}
use Rattle.local_states.specs.declared.keys.Key.{Key}
use Rattle.local_states.specs.Fingerprint.{mixed}
use Rattle.local_states.specs.Keys.{PartsView, ComponentsView, AreRows, Grows, IsPartAt, IsKey, AreSameKeysButOutside, outside_in, print_of}
use Rattle.local_states.specs.Outside.{roots_of, outside_of}
use Rattle.local_states.proofs.Parted.Parts.{more_itself, more_on, in_more}

pub grows_same : {c : ComponentsView} → Grows c c
grows_same = record {
  told = refl;
  lists = λ k x e. e;
  parts = record { many = refl; each = λ i row e. (row, (e, more_itself row)) };
}

pub grows_on : {a b c : ComponentsView} → Grows a b → Grows b c → Grows a c
grows_on first second = record {
  told = second.told ∙ first.told;
  lists = λ k x e. second.lists k x (first.lists k x e);
  parts = record {
    many = second.parts.many ∙ first.parts.many;
    each = λ i row e.
        let more = first.parts.each i row e in
        let most = second.parts.each i more.0 more.1.0 in
        (most.0, (most.1.0, more_on row more.0 most.0 more.1.1 most.1.1));
  };
}

pub rows_grow : {c d : ComponentsView} {actors : ℕ} → Grows c d → AreRows c.parts actors → AreRows d.parts actors
rows_grow {c} {d} grows rows = record {
  many = grows.parts.many ∙ rows.many;
  own = λ i row e.
      let within : i < length c.parts = let lt = slice_get_within d.parts i row e in let same = grows.parts.many in
      omega arith in
      let old = within_some c.parts i within in
      let more = grows.parts.each i old.0 old.1 in
      let same : more.0 ≡ row = same_Some more.0 row (sym more.1.0 ∙ e) in
      ap (λ (r : PartsView). r.actor) (sym same) ∙ (more.1.1.actor ∙ rows.own i old.0 old.1);
}

pub part_grows : {c d : ComponentsView} {v : WorldView} {i at : ℕ} → Grows c d → IsPartAt c v i at → IsPartAt d v i at
part_grows {v = v} {i} {at} grows part =
    let more = grows.parts.each i part.row part.there in
    record { row = more.0; there = more.1.0; is = in_more part.row more.0 v at more.1.1 part.is }

pub key_grows : {c d : ComponentsView} {w v : WorldView} {key : Key} → Grows c d → IsKey c w v key → IsKey d w v key
key_grows {c} {d} {w} {v} {key} grows is =
    let told = sym grows.told in
    record {
      nodes = grows.lists key.nodes _ is.nodes;
      lines = is.lines;
      events = is.events;
      numbers = is.numbers;
      open_handles = is.open_handles;
      seats = is.seats;
      numbered = is.numbered;
      given = is.given;
      many = is.many;
      parts = λ i own e. part_grows grows (is.parts i own e);
      roots = subst (λ told. roots_of told v ≡ roots_of told w) told is.roots;
      outside = subst (λ told. outside_of told v ≡ outside_in told key.own.items) told is.outside;
      untold = λ none. is.untold (told ∙ none);
    }

-- keys that are the same but for changes outside of roots have one number
pub same_but_outside_print : (key other : Key) → AreSameKeysButOutside key other → print_of key ≡ print_of other
unfolding print_of
same_but_outside_print key other is = λ i. mixed 0 (is.nodes i ∷ is.events i ∷ is.opened i ∷ is.closed i ∷ is.own i)
