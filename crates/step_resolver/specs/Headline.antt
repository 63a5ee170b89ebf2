-- The headline, clause by clause.
--
-- For every interleaving of actors' single steps,
--     `EveryWalk`: every walk in every legal history of steps (`WalkHistory.WalkInHistory`), whatever the other actors
--     do in between;
-- a resolution that succeeds opens an object
--     `Opens`: what was reached is the `node` of the handle, which is open (`new`);
-- reached by its path's parts, each passed as the tree stood at rising moments of the call,
--     its `trail`, over all the parts of the path from the root on, at the walk's own events,
--     with LINKS_MAX links at most;
-- and at its last check the object stood under the root at the names passed;
--     its `stood`, at an own event `when` that comes after all of the trail;
-- where no entry that it reads is changed meanwhile,
--     `Means`, its premise `AllLeftAlone`: by others, of the entries that the path reads in the tree
--     as the window begins;
-- its object or error is what in-root resolution of the whole path means.
--     its conclusion `IsMeant`, of the meaning in that tree (`Meaning.reading_means`).
--
-- No walk makes, removes or renames an entry: `leaves`. What each failure tells is in `Failures`. For a walk that is
-- after the deepest directory that stands there, `Deepest` has the same; it tells nothing of any other walk.
-- path_resolution(7); openat2(2).
use Rattle.std.specs.Prelude.{◌≡◌, ℕ, List, false}
use Rattle.path_text.specs.declared.errno.Errno.{Errno}
use Rattle.step_resolver.specs.Asked.{follows, is_deepest}
use Rattle.step_resolver.specs.Meaning.{Meant, reading_means, reads_of}
use Rattle.step_resolver.specs.Trail.{Spot}
use Rattle.step_resolver.specs.Order.{Handle, Turn, more, found, partial, failed, begins, LeadsTo}
use Rattle.step_resolver.specs.WalkHistory.{WalkInHistory, IsWalkInHistory, parts_of_walk, IsTrailTo}
pub use Rattle.step_resolver.specs.Moments.{StoodAt, IsNewHandle}
use Rattle.step_resolver.specs.Moments.{HandlesStay, AllLeaveEntries}
use Rattle.step_resolver.specs.Failures.{TellsError}
use Rattle.step_resolver.specs.Footprint.{ground, AllLeftAlone, is_for_want, IsMeant, IsEnd}
pub use Rattle.step_resolver.specs.Deepest.{OpensDeepest, MeansDeepest}

-- ---- what is opened

-- All parts were passed, and afterwards the object, which is open, stood under the root at the names passed.
pub record Opens (w : WalkInHistory) (handle : Handle) (names : List (List ℕ)) : Type 0 where
  pub to : Spot
  pub trail : IsTrailTo w (parts_of_walk w) to
  pub node : to.node ≡ handle.node
  pub passed : to.names ≡ names
  pub when : ℕ
  pub stood : StoodAt w to when
  pub new : IsNewHandle w handle

-- ---- what the path means

abbrev pub whole_meaning : WalkInHistory → Meant
whole_meaning w = reading_means (ground w) w.path (follows w.way.goal)

-- Where the entries that the path reads are left alone, the end is what the path means, but for want of memory, of
-- room in the book or of handles.
abbrev pub Means : WalkInHistory → Turn → Type 0
Means w end = IsEnd end → is_deepest w.way.goal ≡ false → is_for_want end ≡ false
    → AllLeftAlone w (reads_of (whole_meaning w)) → IsMeant (whole_meaning w) end

-- ---- the whole

-- a failure was true once, and what the walk had opened is closed
pub record TellsFailed (w : WalkInHistory) (error : Errno) : Type 0 where
  pub true_once : TellsError w error
  pub handles : HandlesStay w

-- what an end tells; a walk that goes on tells nothing yet
abbrev pub Tells : WalkInHistory → Turn → Type 0
Tells w (more walk) = Unit {0}
Tells w (found handle names) = Opens w handle names
Tells w (partial handle names rest) = OpensDeepest w handle names rest
Tells w (failed error) = TellsFailed w error

pub record Headline (w : WalkInHistory) (end : Turn) : Type 0 where
  pub tells : Tells w end
  pub means : Means w end
  pub leaves : AllLeaveEntries w
  pub deepest : MeansDeepest w end

-- Each walk in each legal history ends so: where the lines that it was told lead it to this end.
abbrev pub EveryWalk : Type 0
EveryWalk = (w : WalkInHistory) (end : Turn) → IsWalkInHistory w → LeadsTo w.way (begins w.way w.path) w.lines end
    → Headline w end

-- the first of it alone
abbrev pub WalksTell : Type 0
WalksTell = (w : WalkInHistory) (end : Turn) → IsWalkInHistory w → LeadsTo w.way (begins w.way w.path) w.lines end
    → Tells w end
