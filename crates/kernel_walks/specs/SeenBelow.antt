-- A walk whose last check says that its object is below the root, and not at which names: as openat2(2) says it with
-- RESOLVE_IN_ROOT or RESOLVE_BENEATH.
use Rattle.std.specs.Prelude.{◌≡◌, ℕ, List, reverse}
use Rattle.tree_model.specs.declared.answer.Answer.TheVariants.{Names}
use Rattle.tree_model.specs.declared.step.StepOf.TheVariants.{NameBelow}
use Rattle.tree_model.specs.State.{Stands}
use Rattle.step_resolver.specs.Footprint.{AllLeftAlone, IsMeant}
use Rattle.step_resolver.specs.Headline.{whole_meaning}
use Rattle.step_resolver.specs.Meaning.{reads_of}
use Rattle.step_resolver.specs.Moments.{IsNewHandle, AllLeaveEntries}
use Rattle.step_resolver.specs.Order.{Handle, found}
use Rattle.step_resolver.specs.Trail.{Spot, IsOwnFrom}
use Rattle.step_resolver.specs.WalkHistory.{WalkInHistory, timeline, parts_of_walk, IsTrailTo}
use Rattle.bulk_ops.specs.WalkFirst.{event_at}

-- at the walk's own event v, after all that led to the spot, it stood below the root, at some names
pub record StoodBelowAt (w : WalkInHistory) (to : Spot) (v : ℕ) : Type 0 where
  pub at : IsOwnFrom (timeline w) to.moment v
  pub names : List (List ℕ)
  pub stands : Stands ((timeline w).nodes_at v) w.root to.node names

-- All parts were passed, at rising moments, and afterwards the object, which is open, stood below the root: as it was
-- asked where it stands.
pub record OpensBelow (w : WalkInHistory) (handle : Handle) (names : List (List ℕ)) : Type 0 where
  pub to : Spot
  pub trail : IsTrailTo w (parts_of_walk w) to
  pub node : to.node ≡ handle.node
  pub passed : to.names ≡ names
  pub when : ℕ
  pub stood : StoodBelowAt w to when
  pub asked : event_at w when (NameBelow w.way.root handle.number) (Names (reverse stood.names))
  pub new : IsNewHandle w handle

-- Where the entries that the path reads are left alone by others, it is what the path means.
abbrev pub MeansBelow : WalkInHistory → Handle → List (List ℕ) → Type 0
MeansBelow w handle names = AllLeftAlone w (reads_of (whole_meaning w)) → IsMeant (whole_meaning w) (found handle names)

pub record SeenBelow (w : WalkInHistory) (handle : Handle) (names : List (List ℕ)) : Type 0 where
  pub opens : OpensBelow w handle names
  pub means : MeansBelow w handle names
  pub leaves : AllLeaveEntries w
