-- A turn is local: it reads and changes the tree's nodes and its own actor's part alone. So what a turn of an actor
-- comes to may be remembered by these two, whatever the others are about.
use Rattle.std.specs.Prelude.{◌≡◌, ◌≢◌, ◌⊎◌, ◌≤◌, ◌<◌, ℕ, ◌+◌, List, length, nat_le, nat_lt, Bool, false, Option, Some, slice_get}
use Rattle.tree_model.specs.declared.tree.TheConstants.{NUMBERS_MAX}
use Rattle.tree_model.specs.State.{State}
use Rattle.tree_model.specs.StepLaws.{open_count}
use Rattle.tree_model.specs.Steps.{held, held_count}
use Rattle.race_core.specs.Book.{BookedHistory, tree_now, free_lines}
use Rattle.race_core.specs.declared.seat.Seat.{Seat}
use Rattle.race_core.specs.Renamed.{replies_by, seat_handles, LikeSeats}
use Rattle.race_core.specs.Turns.{Luck}
use Rattle.race_core.specs.TurnView.{is_busy, is_within}
use Rattle.race_core.specs.Worlds.{WorldView, turn, is_busy_at, is_within_at, ledgers_in, replies_in}
use Rattle.local_states.specs.Outside.{outside_after, outside_of}
use Rattle.local_states.specs.Paired.{AreAt, IsApartBefore}

-- ---- an actor's part

abbrev pub actor_of : Seat → ℕ
actor_of seat = seat.ledger.root.owner.actor

-- both numbers were given, or they are one number in trees that have given as many
abbrev pub GivenAlike : State → State → ℕ → ℕ → Type 0
GivenAlike s t h k = ((h < length s.handles) × (k < length t.handles))
    ⊎ ((h ≡ k) × (length s.handles ≡ length t.handles))

-- and the actor holds the same by them
pub record IsOwnPair (a : ℕ) (s t : State) (h k : ℕ) : Type 0 where
  pub given : GivenAlike s t h k
  pub holds : held s a h ≡ held t a k

-- In the two trees the actor of these seats has the same part. The seats are the same but for the numbers of handles,
-- the numbers at one place are a pair, none is paired with two, and the actor has as many handles open.
pub record SamePart (s t : State) (x y : Seat) : Type 0 where
  pub like : LikeSeats x y
  pub pairs : (at h k : ℕ) → AreAt (seat_handles x) (seat_handles y) at h k → IsOwnPair (actor_of x) s t h k
  pub apart : (at h k : ℕ) → AreAt (seat_handles x) (seat_handles y) at h k
      → IsApartBefore (seat_handles x) (seat_handles y) h k at
  pub held_handles : held_count s (actor_of x) ≡ held_count t (actor_of x)

-- each world has a seat of that number, and the two have the same part
pub record SamePartAt (w v : WorldView) (i : ℕ) : Type 0 where
  pub here : Seat
  pub there : Seat
  pub is_here : slice_get w.seats i ≡ Some here
  pub is_there : slice_get v.seats i ≡ Some there
  pub part : SamePart (tree_now w.book) (tree_now v.book) here there

-- the numbers of the actor's handles were given; and so were all actors'
abbrev pub AreGiven : State → Seat → Type 0
AreGiven s x = (at h : ℕ) → slice_get (seat_handles x) at ≡ Some h → h < length s.handles

abbrev pub AreAllGiven : WorldView → Type 0
AreAllGiven w = (i : ℕ) (x : Seat) → slice_get w.seats i ≡ Some x → AreGiven (tree_now w.book) x

-- ---- a turn

-- What a turn asks of the tree and of the book beside its actor's part: the nodes, whether all numbers of handles were
-- given, and whether as many lines are free as a step needs.
pub record SameGround (b c : BookedHistory) : Type 0 where
  pub nodes : (tree_now b).nodes ≡ (tree_now c).nodes
  pub numbers : nat_le NUMBERS_MAX (length (tree_now b).handles) ≡ nat_le NUMBERS_MAX (length (tree_now c).handles)
  pub lines : (n : ℕ) → n ≤ 2 → nat_lt (free_lines b) n ≡ nat_lt (free_lines c) n

-- how many of the book's events are changes that this actor made outside of this root
abbrev pub changes_outside : ℕ → Option ℕ → BookedHistory → ℕ
changes_outside a root book = outside_after a root book.opening book.events

-- The two books have as many lines as before. They have got as many more events, numbers of handles, open handles, and
-- changes outside of any root by any actor.
pub record GrownAlike (b c after others : BookedHistory) : Type 0 where
  pub lines : after.lines ≡ b.lines
  pub others_lines : others.lines ≡ c.lines
  pub events : length after.events + length c.events ≡ length others.events + length b.events
  pub numbers : length (tree_now after).handles + length (tree_now c).handles
      ≡ length (tree_now others).handles + length (tree_now b).handles
  pub open_handles : open_count (tree_now after) + open_count (tree_now c)
      ≡ open_count (tree_now others) + open_count (tree_now b)
  pub outside : (a : ℕ) (root : Option ℕ) → changes_outside a root after + changes_outside a root c
      ≡ changes_outside a root others + changes_outside a root b

-- after the actor's turn in both the nodes and its part are the same again
pub record GoneAlike (w v after others : WorldView) (i : ℕ) : Type 0 where
  pub nodes : (tree_now after.book).nodes ≡ (tree_now others.book).nodes
  pub part : SamePartAt after others i
  pub grown : GrownAlike w.book v.book after.book others.book

-- ---- whole worlds

-- each actor's number is its seat's
abbrev pub AreNumbered : List Seat → Type 0
AreNumbered seats = (i : ℕ) (x : Seat) → slice_get seats i ≡ Some x → actor_of x ≡ i

-- The two worlds have the same nodes, and as many lines, events, numbers of handles, open handles and seats. The actor
-- of each seat has its number, and the same part in both.
pub record SameParts (w v : WorldView) : Type 0 where
  pub nodes : (tree_now w.book).nodes ≡ (tree_now v.book).nodes
  pub lines : w.book.lines ≡ v.book.lines
  pub events : length w.book.events ≡ length v.book.events
  pub numbers : length (tree_now w.book).handles ≡ length (tree_now v.book).handles
  pub open_handles : open_count (tree_now w.book) ≡ open_count (tree_now v.book)
  pub seats : length w.seats ≡ length v.seats
  pub numbered : AreNumbered w.seats
  pub parts : (i : ℕ) → i < length w.seats → SamePartAt w v i

-- What two worlds tell is the same: the replies but for numbers of handles, the nodes, and how many handles each actor
-- has open; and where it is told, what was changed outside of roots.
pub record TellAlike (told : Bool) (w v : WorldView) : Type 0 where
  pub replies : replies_by (λ h. 0) (replies_in (ledgers_in w.seats))
      ≡ replies_by (λ h. 0) (replies_in (ledgers_in v.seats))
  pub nodes : (tree_now w.book).nodes ≡ (tree_now v.book).nodes
  pub held : (a : ℕ) → a < length w.seats → held_count (tree_now w.book) a ≡ held_count (tree_now v.book) a
  pub outside : outside_of told w ≡ outside_of told v

-- ---- the laws

-- the turn of an actor who has the same part in both worlds, on the same nodes, comes to the same, with the same luck
abbrev pub TurnsAreLocal : Type 0
TurnsAreLocal = (w v : WorldView) (luck : Luck) (i : ℕ) → SameGround w.book v.book → SamePartAt w v i
    → GoneAlike w v (turn luck w i) (turn luck v i) i

-- it has something to do, and a call under way, in both or in neither
abbrev pub SamePartsAreBusyAlike : Type 0
SamePartsAreBusyAlike = (s t : State) (x y : Seat) → SamePart s t x y
    → (is_busy x ≡ is_busy y) × (is_within x ≡ is_within y)

-- its turn leaves another actor's seat, and what that part is the same as
abbrev pub OthersPartsStay : Type 0
OthersPartsStay = (w : WorldView) (luck : Luck) (i j : ℕ) (x y : Seat) → i ≢ j → slice_get w.seats i ≡ Some x
    → slice_get w.seats j ≡ Some y → actor_of x ≢ actor_of y
    → (slice_get (turn luck w i).seats j ≡ Some y)
    × ((t : State) (z : Seat) → SamePart (tree_now w.book) t y z → AreGiven t z
    → SamePart (tree_now (turn luck w i).book) t y z)

-- and where all numbers were given they are after it
abbrev pub GivenNumbersStay : Type 0
GivenNumbersStay = (w : WorldView) (luck : Luck) (i : ℕ) → AreAllGiven w → AreAllGiven (turn luck w i)

-- a part is the same as itself
abbrev pub PartsAreThemselves : Type 0
PartsAreThemselves = (s : State) (x : Seat) → SamePart s s x x

-- of two that are the same either is the same as the other
abbrev pub SamePartsTurnRound : Type 0
SamePartsTurnRound = (s t : State) (x y : Seat) → SamePart s t x y → SamePart t s y x

-- and two that are the same as a third are the same
abbrev pub SamePartsJoin : Type 0
SamePartsJoin = (s t u : State) (x y z : Seat) → SamePart s t x y → SamePart t u y z → SamePart s u x z

-- worlds in which all actors have the same parts come to such worlds by the same turn, with the same luck
abbrev pub SameWorldsTakeSameTurns : Type 0
SameWorldsTakeSameTurns = (w v : WorldView) (luck : Luck) (i : ℕ) → SameParts w v
    → SameParts (turn luck w i) (turn luck v i)

-- each actor has something to do, and a call under way, in both or in neither
abbrev pub SameWorldsAreBusyAlike : Type 0
SameWorldsAreBusyAlike = (w v : WorldView) (i : ℕ) → SameParts w v
    → (is_busy_at w.seats i ≡ is_busy_at v.seats i) × (is_within_at w.seats i ≡ is_within_at v.seats i)

-- and they tell the same, but for what was changed outside of roots before
abbrev pub SameWorldsTellTheSame : Type 0
SameWorldsTellTheSame = (w v : WorldView) → SameParts w v → TellAlike false w v
