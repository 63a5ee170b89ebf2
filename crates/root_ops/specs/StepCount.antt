-- How many steps a call makes once its walks are over: the statement of the law.
use Rattle.std.specs.Prelude.{◌≡◌, ℕ, ◌+◌, ◌*◌, ◌<◌, ◌≤◌, List, length, Bool, true, false}
use Rattle.tree_model.specs.declared.answer.Answer.{Answer}
use Rattle.step_resolver.specs.Asked.{AskedPart}
use Rattle.step_resolver.specs.Order.{Way, Handle, Line, found, partial}
use Rattle.bulk_ops.specs.declared.remove_all.clearing.TheConstants.{CLEARING_STEPS_MAX}
use Rattle.bulk_ops.specs.MakeAllOrder.{after_walk}
use Rattle.bulk_ops.specs.RemoveAllOrder as remove
use Rattle.bulk_ops.specs.RemoveAllTells.{IsBounded}
use Rattle.root_ops.specs.declared.below.Below.{Below}
use Rattle.root_ops.specs.declared.op.Op.{Op}
use Rattle.root_ops.specs.declared.op.Op.TheVariants.{Resolve, ResolveNoFollow, ReadLink, CreateFile, CreateDir, CreateLink, RemoveFile, RemoveDir, Rename, MkdirAll, RemoveAll, Single, Release}
use Rattle.root_ops.specs.Order.{Doing, walking, acting, checking, closing, making, removing, releasing, CallTurn, more, ends, Reply, makes, removing_turn, starts, take, steps_left, LeadsTo}

abbrev pub is_walking : Doing → Bool
is_walking (walking walk aim) = true
is_walking (acting wanted step hs) = false
is_walking (checking old new renaming) = false
is_walking (closing h hs after) = false
is_walking (making call) = false
is_walking (removing call) = false
is_walking (releasing h) = false

-- one of a bulk call, its walk's steps among them
abbrev pub is_of_bulk : Doing → Bool
is_of_bulk (walking walk aim) = false
is_of_bulk (acting wanted step hs) = false
is_of_bulk (checking old new renaming) = false
is_of_bulk (closing h hs after) = false
is_of_bulk (making call) = true
is_of_bulk (removing call) = true
is_of_bulk (releasing h) = false

-- the operations that make or remove many entries
abbrev pub is_bulk : Op → Bool
is_bulk (Resolve path) = false
is_bulk (ResolveNoFollow path) = false
is_bulk (ReadLink path) = false
is_bulk (CreateFile path) = false
is_bulk (CreateDir path) = false
is_bulk (CreateLink path text) = false
is_bulk (RemoveFile path) = false
is_bulk (RemoveDir path) = false
is_bulk (Rename old new mode) = false
is_bulk (MkdirAll path) = true
is_bulk (RemoveAll path) = true
is_bulk (Single step) = false
is_bulk (Release standing) = false

-- a step of a walk is due, or at most so many are to come; and none of a bulk call
abbrev pub WalksOrFew : ℕ → Below → CallTurn → Type 0
WalksOrFew most below (more doing) =
    (is_of_bulk doing ≡ false) × (is_walking doing ≡ false → steps_left below doing ≤ most)
WalksOrFew most below (ends reply) = Unit {0}

-- no walk's step is due and none of a bulk call, and fewer than so many are to come
abbrev pub FewerThan : ℕ → Below → CallTurn → Type 0
FewerThan most below (more doing) =
    (is_of_bulk doing ≡ false) × (is_walking doing ≡ false) × (steps_left below doing < most)
FewerThan most below (ends reply) = Unit {0}

-- Once its walks are over a call makes at most five steps, if it is no bulk call: where one begins or its walk goes
-- on, a walk's step is due or at most five steps are to come; and from there each leaves fewer, and none walks
-- again.
pub record FiveAfterWalks : Type 0 where
  pub begun : (below : Below) (room : Bool) (op : Op) → is_bulk op ≡ false → WalksOrFew 5 below (starts below room op)
  pub walked : (below : Below) (room : Bool) (doing : Doing) (answer : Answer) → is_walking doing ≡ true
      → WalksOrFew 5 below (take below room doing answer)
  pub after : (below : Below) (room : Bool) (doing : Doing) (answer : Answer) → is_walking doing ≡ false
      → is_of_bulk doing ≡ false
      → FewerThan (steps_left below doing) below (take below room doing answer)

-- After its walk a MkdirAll makes at most one step, where that found what the whole path means, and else three for
-- each part of the rest and two more; a RemoveAll at most CLEARING_STEPS_MAX steps of clearing, and then only closes
-- what it holds, in all at most two for each step of clearing, which may open a handle that is to be closed, and one
-- more.
pub record BulkAfterWalks : Type 0 where
  pub making : (below : Below) (room : Bool) (handle : Handle) (names : List (List ℕ))
      (lines : List Line) (reply : Reply)
      → (LeadsTo below (makes (after_walk room (found handle names))) lines (ends reply) → length lines ≤ 1)
      × ((rest : List AskedPart)
      → LeadsTo below (makes (after_walk room (partial handle names rest))) lines (ends reply)
      → length lines ≤ 3 * length rest + 2)
  pub removing : (below : Below) (way : Way) (target : List ℕ) (handle : Handle) (names : List (List ℕ))
      (lines : List Line) (reply : Reply)
      → LeadsTo below (removing_turn (remove.walked way target (found handle names))) lines (ends reply)
      → (length lines ≤ 2 * CLEARING_STEPS_MAX + 1) × IsBounded lines
