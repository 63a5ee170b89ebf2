-- What an actor holds by the handles that it knows, and the parts that are kept with it.
use Rattle.std.specs.Prelude.{◌≡◌, ◌⊎◌, ◌<◌, ⊤, ℕ, List, [], ◌∷◌, Bool, length, map, Some, slice_get}
use Rattle.tree_model.specs.State.{State}
use Rattle.tree_model.specs.Steps.{held, held_count}
use Rattle.race_core.specs.Book.{tree_now}
use Rattle.race_core.specs.declared.seat.Seat.{Seat}
use Rattle.race_core.specs.declared.report.Outcome.{Outcome}
use Rattle.race_core.specs.Renamed.{outcomes_by, seat_handles, LikeSeats}
use Rattle.race_core.specs.WithoutOutcomes.{without_outcomes}
use Rattle.race_core.specs.Worlds.{WorldView, is_busy_at, is_within_at}
use Rattle.local_states.specs.declared.handle_tables.HandleTable.{HandleTable}
use Rattle.local_states.specs.Local.{actor_of}
use Rattle.local_states.specs.Paired.{AreAt, IsApartBefore}

-- ---- handle tables

-- it is what the actor of the seat holds in that tree
pub record IsHandleTableOf (s : State) (x : Seat) (handle_table : HandleTable) : Type 0 where
  pub handles : handle_table.handles.items ≡ seat_handles x
  pub nodes : handle_table.nodes.items ≡ map (held s (actor_of x)) (seat_handles x)
  pub given : handle_table.given ≡ length s.handles
  pub held_handles : handle_table.held ≡ held_count s (actor_of x)

-- the world has a seat of that number, of the actor of that number, and that is what the actor holds
pub record HasHandleTable (w : WorldView) (actor : ℕ) (handle_table : HandleTable) : Type 0 where
  pub seat : Seat
  pub there : slice_get w.seats actor ≡ Some seat
  pub numbered : actor_of seat ≡ actor
  pub is : IsHandleTableOf (tree_now w.book) seat handle_table

-- both numbers are among so many that were given, or they are one number where as many were given
abbrev pub AreGivenAs : ℕ → ℕ → ℕ → ℕ → Type 0
AreGivenAs n m h k = ((h < n) × (k < m)) ⊎ ((h ≡ k) × (n ≡ m))

-- the numbers of two lists, place by place: both given or one number, and none is paired with two
pub record AreGivenPairs (n m : ℕ) (hs ks : List ℕ) : Type 0 where
  pub given : (at h k : ℕ) → AreAt hs ks at h k → AreGivenAs n m h k
  pub apart : (at h k : ℕ) → AreAt hs ks at h k → IsApartBefore hs ks h k at

-- the two are the same but for the numbers of handles
pub record LikeHandleTables (handle_table other : HandleTable) : Type 0 where
  pub held_handles : handle_table.held ≡ other.held
  pub many : length handle_table.handles.items ≡ length other.handles.items
  pub nodes : handle_table.nodes.items ≡ other.nodes.items
  pub pairs : AreGivenPairs handle_table.given other.given handle_table.handles.items other.handles.items

-- ---- parts

-- What is kept of an actor's part: its seat without outcomes, the places of these among those that were met, what it
-- holds, and whether it is busy and within a call.
pub record PartView : Type 0 where
  pub seat : Seat
  pub outcomes : List ℕ
  pub handle_table : HandleTable
  pub busy : Bool
  pub within : Bool

-- the outcomes are those at these places of a table
abbrev pub AreNamed : List Outcome → List ℕ → List Outcome → Type 0
AreNamed table [] [] = ⊤
AreNamed table [] (outcome ∷ outcomes) = ⊥
AreNamed table (at ∷ places) [] = ⊥
AreNamed table (at ∷ places) (outcome ∷ outcomes) = (slice_get table at ≡ Some outcome) × AreNamed table places outcomes

-- so are those of the actor of that number in the world, with 0 for each number of a handle
abbrev pub HasOutcomes : List Outcome → WorldView → ℕ → List ℕ → Type 0
HasOutcomes table w actor places = (seat : Seat) → slice_get w.seats actor ≡ Some seat
    → AreNamed table places (outcomes_by (λ h. 0) seat.ledger.outcomes)

-- it is the part of the actor of that number in the world, but for the numbers of handles in the seat
pub record IsPartOf (table : List Outcome) (w : WorldView) (actor : ℕ) (part : PartView) : Type 0 where
  pub handle_table : HasHandleTable w actor part.handle_table
  pub outcomes : HasOutcomes table w actor part.outcomes
  pub seat : LikeSeats (without_outcomes handle_table.seat) part.seat
  pub busy : part.busy ≡ is_busy_at w.seats actor
  pub within : part.within ≡ is_within_at w.seats actor

-- the two are the same but for the numbers of handles
pub record AreLikeParts (part other : PartView) : Type 0 where
  pub seat : LikeSeats part.seat other.seat
  pub outcomes : part.outcomes ≡ other.outcomes
  pub handle_table : LikeHandleTables part.handle_table other.handle_table

-- each is the actor's part in a world, and no two are the same
pub record ArePartsOf (actor : ℕ) (table : List Outcome) (parts : List PartView) : Type 0 where
  pub each : (k : ℕ) (part : PartView) → slice_get parts k ≡ Some part
      → (w : WorldView) × IsPartOf table w actor part
  pub once : (k l : ℕ) (part other : PartView) → slice_get parts k ≡ Some part → slice_get parts l ≡ Some other
      → AreLikeParts part other → k ≡ l
