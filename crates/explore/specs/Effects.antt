-- What a turn comes to, remembered by all that it depends on: the nodes, the actor's part, and how full the book is.
use Rattle.std.specs.Prelude.{◌≡◌, ◌≤◌, ℕ, ◌+◌, List, [], Bool, true, false, length, nat_le, nat_lt, Some, slice_get, slice_index_or}
use Rattle.std.specs.Int.{from_bool}
use Rattle.tree_model.specs.declared.tree.TheConstants.{NUMBERS_MAX}
use Rattle.tree_model.specs.StepLaws.{open_count}
use Rattle.race_core.specs.Book.{tree_now, free_lines}
use Rattle.race_core.specs.Worlds.{WorldView, turn}
use Rattle.local_states.specs.declared.keys.Effect.{Effect}
use Rattle.explore.specs.declared.turns.memo.MemoKey.{MemoKey}
use Rattle.explore.specs.declared.turns.memo.Entry.{Entry}
use Rattle.explore.specs.declared.turns.world_counts.Counts.{Counts}
use Rattle.explore.specs.declared.turns.world_counts.Start.{Start}
use Rattle.local_states.specs.Worlds.{full}
use Rattle.local_states.specs.Counting.{bumped}
use Rattle.local_states.specs.Keys.{ComponentsView, IsPartAt, AreRows}
use Rattle.local_states.specs.Local.{AreNumbered, AreAllGiven}
use Rattle.local_states.specs.Outside.{roots_of, outside_of}

-- ---- a turn

-- after the actor's turn there are so many more events, handles, open handles and changes outside of its root
pub record HasGrown (told : Bool) (i : ℕ) (v after : WorldView) (effect : Effect) : Type 0 where
  pub events : length after.book.events ≡ length v.book.events + from_bool effect.event
  pub numbers : length (tree_now after.book).handles ≡ length (tree_now v.book).handles + from_bool effect.opens
  pub open_handles : open_count (tree_now after.book) + from_bool effect.closes
      ≡ open_count (tree_now v.book) + from_bool effect.opens
  pub outside : outside_of told after ≡ bumped effect.outside i (outside_of told v)
  pub untold : told ≡ false → effect.outside ≡ false

-- the actor's turn from the world comes to that, as far as it is the actor's own
pub record IsEffectFrom (c : ComponentsView) (v : WorldView) (i : ℕ) (effect : Effect) : Type 0 where
  pub nodes : slice_get c.lists effect.nodes ≡ Some (tree_now (turn full v i).book).nodes
  pub part : IsPartAt c (turn full v i) i effect.part
  pub grown : HasGrown c.told i v (turn full v i) effect

-- these are the world's numbers, and how many changes that actor has made outside of its root
pub record AreCountsIn (told : Bool) (v : WorldView) (i : ℕ) (counts : Counts) : Type 0 where
  pub events : counts.events ≡ length v.book.events
  pub numbers : counts.numbers ≡ length (tree_now v.book).handles
  pub open_handles : counts.open_handles ≡ open_count (tree_now v.book)
  pub outside : counts.outside ≡ slice_index_or (outside_of told v) i 0

-- it says which of the numbers have risen, and whether the open handles have become fewer
pub record AreCompared (before after : Counts) (effect : Effect) : Type 0 where
  pub event : effect.event ≡ nat_lt before.events after.events
  pub opens : effect.opens ≡ nat_lt before.numbers after.numbers
  pub closes : effect.closes ≡ nat_lt after.open_handles before.open_handles
  pub outside : effect.outside ≡ nat_lt before.outside after.outside

-- in the world, after turns from w, the actor's turn depends on that
pub record IsMemoKeyOf (c : ComponentsView) (w v : WorldView) (memo_key : MemoKey) : Type 0 where
  pub nodes : slice_get c.lists memo_key.nodes ≡ Some (tree_now v.book).nodes
  pub part : IsPartAt c v memo_key.actor memo_key.part
  pub room : (n : ℕ) → n ≤ 2 → nat_lt (free_lines v.book) n ≡ nat_lt memo_key.room n
  pub numbers : nat_le NUMBERS_MAX (length (tree_now v.book).handles) ≡ memo_key.is_full
  pub numbered : AreNumbered v.seats
  pub roots : roots_of c.told v ≡ roots_of c.told w

-- ---- what is remembered

-- so it is in some world, and that came of it
pub record IsRemembered (c : ComponentsView) (w : WorldView) (entry : Entry) : Type 0 where
  pub from : WorldView
  pub memo_key : IsMemoKeyOf c w from entry.memo_key
  pub effect : IsEffectFrom c from entry.memo_key.actor entry.effect

-- one of the entries says that that comes of it
abbrev pub IsEntry : List Entry → MemoKey → Effect → Type 0
IsEntry entries memo_key effect = (at : ℕ)
    × (slice_get entries at ≡ Some (record { memo_key = memo_key; effect = effect }))

-- ---- all that is known

pub record KnownView : Type 0 where
  pub components : ComponentsView
  pub entries : List Entry
  pub start : Start
  pub are_given : Bool

-- it is what the world has, in which no step was made yet
pub record IsStart (start : Start) (w : WorldView) : Type 0 where
  pub fresh : w.book.events ≡ []
  pub lines : start.lines ≡ w.book.lines
  pub numbers : start.numbers ≡ length (tree_now w.book).handles
  pub open_handles : start.open_handles ≡ open_count (tree_now w.book)

-- all of it is so, of worlds after turns from w
pub record IsSound (w : WorldView) (known : KnownView) : Type 0 where
  pub rows : AreRows known.components.parts (length w.seats)
  pub numbered : AreNumbered w.seats
  pub start : IsStart known.start w
  pub given : known.are_given ≡ true → AreAllGiven w
  pub turns : (at : ℕ) (entry : Entry) → slice_get known.entries at ≡ Some entry
      → IsRemembered known.components w entry
