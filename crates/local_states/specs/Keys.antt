-- A world as a key: the places of its components among those that were met, and how much its book has grown.
use Rattle.std.specs.Prelude.{◌≡◌, ◌≤◌, ℕ, ◌+◌, List, [], ◌∷◌, Bool, true, false, length, map, Some, slice_get, slice_set, slice_index_or}
use Rattle.std.specs.Int.{from_bool}
use Rattle.tree_model.specs.declared.inode.Inode.{Inode}
use Rattle.tree_model.specs.StepLaws.{open_count}
use Rattle.race_core.specs.Book.{tree_now}
use Rattle.race_core.specs.declared.report.Outcome.{Outcome}
use Rattle.race_core.specs.Worlds.{WorldView}
use Rattle.local_states.specs.declared.keys.Effect.{Effect}
use Rattle.local_states.specs.declared.keys.Key.{Key}
use Rattle.local_states.specs.declared.keys.Own.{Own}
use Rattle.local_states.specs.Fingerprint.{mixed}
use Rattle.local_states.specs.HandleTables.{PartView, IsPartOf}
use Rattle.local_states.specs.Distinct.{Keeps, AreEachOnce}
use Rattle.local_states.specs.Local.{SamePartAt, AreNumbered, AreAllGiven}
use Rattle.local_states.specs.Outside.{roots_of, outside_of}

-- ---- components

-- What is kept of the parts that the actor of that number had in some worlds, and the outcomes that its calls had
-- there.
pub record PartsView : Type 0 where
  pub actor : ℕ
  pub outcomes : List Outcome
  pub parts : List PartView

-- In this world it has the part at that place: what is kept there is its part in a world in which it is the same.
pub record IsPartIn (row : PartsView) (v : WorldView) (at : ℕ) : Type 0 where
  pub part : PartView
  pub there : slice_get row.parts at ≡ Some part
  pub other : WorldView
  pub is : IsPartOf row.outcomes other row.actor part
  pub same : SamePartAt v other row.actor

-- where it has the same part in two worlds, it has it at one place
abbrev pub AreApartParts : PartsView → Type 0
AreApartParts row = (k l : ℕ) (v w : WorldView) → IsPartIn row v k → IsPartIn row w l → SamePartAt v w row.actor
    → k ≡ l

-- the lists of nodes that were met, and the parts of each actor; and whether changes outside of roots are told
pub record ComponentsView : Type 0 where
  pub told : Bool
  pub lists : List (List Inode)
  pub parts : List PartsView

-- there is a row for each of so many actors
pub record AreRows (parts : List PartsView) (actors : ℕ) : Type 0 where
  pub many : length parts ≡ actors
  pub own : (i : ℕ) (row : PartsView) → slice_get parts i ≡ Some row → row.actor ≡ i

-- each of the rows is that of its actor; no two lists of nodes are equal, and no two parts of an actor the same
pub record AreInterned (lists : List (List Inode)) (parts : List PartsView) : Type 0 where
  pub rows : AreRows parts (length parts)
  pub lists_once : AreEachOnce lists
  pub parts_once : (i : ℕ) (row : PartsView) → slice_get parts i ≡ Some row → AreApartParts row

-- the row has what it had, and maybe more
pub record HasMore (row more : PartsView) : Type 0 where
  pub actor : more.actor ≡ row.actor
  pub outcomes : Keeps row.outcomes more.outcomes
  pub parts : Keeps row.parts more.parts

-- and so has each row
pub record AreMoreParts (old new : List PartsView) : Type 0 where
  pub many : length new ≡ length old
  pub each : (i : ℕ) (row : PartsView) → slice_get old i ≡ Some row
      → (more : PartsView) × ((slice_get new i ≡ Some more) × HasMore row more)

-- what was met keeps its place
pub record Grows (old new : ComponentsView) : Type 0 where
  pub told : new.told ≡ old.told
  pub lists : Keeps old.lists new.lists
  pub parts : AreMoreParts old.parts new.parts

-- ---- keys

-- of each actor, how many changes it has made outside of its root, where that is told
abbrev pub outside_in : Bool → List Own → List ℕ
outside_in false own = []
outside_in true own = map (λ (o : Own). o.outside) own

-- the actor of that number has the part at that place
pub record IsPartAt (c : ComponentsView) (v : WorldView) (i at : ℕ) : Type 0 where
  pub row : PartsView
  pub there : slice_get c.parts i ≡ Some row
  pub is : IsPartIn row v at

-- Of a world after some turns from w: its nodes and parts are those at the places of the key, and its book, its handles
-- and the changes outside of roots are so many more.
pub record IsKey (c : ComponentsView) (w v : WorldView) (key : Key) : Type 0 where
  pub nodes : slice_get c.lists key.nodes ≡ Some (tree_now v.book).nodes
  pub lines : v.book.lines ≡ w.book.lines
  pub events : length v.book.events ≡ length w.book.events + key.events
  pub numbers : length (tree_now v.book).handles ≡ length (tree_now w.book).handles + key.opened
  pub open_handles : open_count (tree_now v.book) + key.closed ≡ open_count (tree_now w.book) + key.opened
  pub seats : length v.seats ≡ length w.seats
  pub numbered : AreNumbered v.seats
  pub given : AreAllGiven w → AreAllGiven v
  pub many : length key.own.items ≡ length v.seats
  pub parts : (i : ℕ) (own : Own) → slice_get key.own.items i ≡ Some own → IsPartAt c v i own.part
  pub roots : roots_of c.told v ≡ roots_of c.told w
  pub outside : outside_of c.told v ≡ outside_in c.told key.own.items
  pub untold : c.told ≡ false → (i : ℕ) (own : Own) → slice_get key.own.items i ≡ Some own → own.outside ≡ 0

-- none of its counts is more than that
pub record AreFew (n : ℕ) (key : Key) : Type 0 where
  pub events : key.events ≤ n
  pub opened : key.opened ≤ n
  pub closed : key.closed ≤ n
  pub outside : (i : ℕ) (own : Own) → slice_get key.own.items i ≡ Some own → own.outside ≤ n

-- a number that keys have in common that are the same but for changes outside of roots
unfoldable pub print_of : Key → ℕ
print_of key = mixed 0 (key.nodes ∷ key.events ∷ key.opened ∷ key.closed ∷ map (λ (o : Own). o.part) key.own.items)

-- the keys have the same numbers, and what is seen of the actors' own is the same
pub record AreSameKeysBy {Seen : Type 0} (seen : List Own → Seen) (key other : Key) : Type 0 where
  pub nodes : key.nodes ≡ other.nodes
  pub events : key.events ≡ other.events
  pub opened : key.opened ≡ other.opened
  pub closed : key.closed ≡ other.closed
  pub own : seen key.own.items ≡ seen other.own.items

-- they have the same numbers, and the same of each actor
abbrev pub AreSameKeys : Key → Key → Type 0
AreSameKeys = AreSameKeysBy (λ own. own)

-- they are the same but for changes outside of roots
abbrev pub AreSameKeysButOutside : Key → Key → Type 0
AreSameKeysButOutside = AreSameKeysBy (map (λ (o : Own). o.part))

-- they are the same but for parts
abbrev pub AreSameKeysButParts : Key → Key → Type 0
AreSameKeysButParts = AreSameKeysBy (map (λ (o : Own). o.outside))

-- ---- a turn

-- the actor's own after a turn of it
abbrev pub own_after : Own → Effect → Own
own_after own effect = record { part = effect.part; outside = own.outside + from_bool effect.outside }

-- it is the key after that turn of the actor
pub record IsKeyAfter (key : Key) (i : ℕ) (effect : Effect) (new : Key) : Type 0 where
  pub nodes : new.nodes ≡ effect.nodes
  pub events : new.events ≡ key.events + from_bool effect.event
  pub opened : new.opened ≡ key.opened + from_bool effect.opens
  pub closed : new.closed ≡ key.closed + from_bool effect.closes
  pub own : new.own.items ≡ slice_set key.own.items i
      (own_after (slice_index_or key.own.items i (record { part = 0; outside = 0 })) effect)
