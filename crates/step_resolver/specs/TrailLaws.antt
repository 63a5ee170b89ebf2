-- The statements of the laws of trails and stops.
use Rattle.std.specs.Prelude.{◌≡◌, ℕ, ◌+◌, ◌≤◌, List, ◌++◌, true, Option, Some, None}
use Rattle.path_text.specs.declared.flags.Flags.{Flags}
use Rattle.tree_model.specs.declared.inode.Inode.{Inode}
use Rattle.tree_model.specs.State.{Stands, is_dir}
use Rattle.tree_model.specs.Trees.{IsTree}
use Rattle.tree_model.specs.declared.inode.Place.{Place}
use Rattle.step_resolver.specs.Asked.{AskedPart}
use Rattle.step_resolver.specs.Meaning.{Ground, object, means}
use Rattle.step_resolver.specs.Trail.{Timeline, Spot, Trail, quiet}

-- What leads over appended parts: a trail over the first and then what leads over the second, or a stop in the first.
pub data Split (timeline : Timeline) (ps qs : List AskedPart) (s z : Spot) (next : Option AskedPart) : Type 0 where
  passed : (mid : Spot) → Trail timeline ps s mid None → Trail timeline qs mid z next → Split timeline ps qs s z next
  stopped : (p : AskedPart) → next ≡ Some p → Trail timeline ps s z (Some p) → Split timeline ps qs s z next

abbrev pub TrailsSplit : Type 0
TrailsSplit = (timeline : Timeline) (ps qs : List AskedPart) (s z : Spot) (next : Option AskedPart)
    → Trail timeline (ps ++ qs) s z next → Split timeline ps qs s z next

-- and the other way round
abbrev pub TrailsAppend : Type 0
TrailsAppend = (timeline : Timeline) (ps qs : List AskedPart) (s mid z : Spot) (next : Option AskedPart)
    → Trail timeline ps s mid None → Trail timeline qs mid z next → Trail timeline (ps ++ qs) s z next

abbrev pub StopsOfMore : Type 0
StopsOfMore = (timeline : Timeline) (ps qs : List AskedPart) (s z : Spot) (p : AskedPart)
    → Trail timeline ps s z (Some p) → Trail timeline (ps ++ qs) s z (Some p)

-- moments never fall, and links left never rise
abbrev pub MomentsAndLinks : Type 0
MomentsAndLinks = (timeline : Timeline) (ps : List AskedPart) (s z : Spot) (next : Option AskedPart)
    → Trail timeline ps s z next
    → (s.moment ≤ z.moment) × (z.links ≤ s.links)

-- so many links more were left
abbrev pub with_links : ℕ → Spot → Spot
with_links k s = record { node = s.node; names = s.names; links = s.links + k; moment = s.moment }

-- with more links left at the beginning, as many more are left at the end
abbrev pub MoreLinksLead : Type 0
MoreLinksLead = (timeline : Timeline) (k : ℕ) (ps : List AskedPart) (s z : Spot) (next : Option AskedPart)
    → Trail timeline ps s z next
    → Trail timeline ps (with_links k s) (with_links k z) next

-- ---- where nothing changes

abbrev pub still : List Inode → ℕ → Flags → Ground
still nodes r flags = record { nodes = nodes; root = r; flags = flags }

-- what a trail leads to where nothing changes is what the parts mean, and it stands at the names passed
pub record IsMeantThere (nodes : List Inode) (r : ℕ) (flags : Flags) (nested : ℕ) (ps : List AskedPart)
    (s z : Spot) : Type 0 where
  pub reads : List Place
  pub means : means nested (still nodes r flags) s.node ps s.links ≡ object z.node z.links reads
  pub stands : Stands nodes r z.node z.names

abbrev pub QuietTrailsMean : Type 0
QuietTrailsMean = (nodes : List Inode) (r : ℕ) (flags : Flags) → IsTree nodes → is_dir nodes r ≡ true
    → (nested : ℕ) (ps : List AskedPart) (s z : Spot) → s.links ≤ nested → Stands nodes r s.node s.names
    → Trail (quiet nodes r flags) ps s z None → IsMeantThere nodes r flags nested ps s z

-- and the other way round: where the parts mean an object, a trail leads to it, with the same links left
pub record IsReachedThere (nodes : List Inode) (r : ℕ) (flags : Flags) (ps : List AskedPart) (s : Spot)
    (x b : ℕ) : Type 0 where
  pub to : Spot
  pub trail : Trail (quiet nodes r flags) ps s to None
  pub node : to.node ≡ x
  pub links : to.links ≡ b
  pub stands : Stands nodes r to.node to.names

abbrev pub QuietMeaningsAreReached : Type 0
QuietMeaningsAreReached = (nodes : List Inode) (r : ℕ) (flags : Flags) → IsTree nodes → is_dir nodes r ≡ true
    → (nested : ℕ) (ps : List AskedPart) (s : Spot) (x b : ℕ) (reads : List Place) → Stands nodes r s.node s.names
    → means nested (still nodes r flags) s.node ps s.links ≡ object x b reads → IsReachedThere nodes r flags ps s x b
