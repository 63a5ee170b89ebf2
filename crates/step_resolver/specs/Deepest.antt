-- The deepest directory of a path that stands there: what it means in one tree, and what the ends of a walk that is
-- after it tell. MkdirAll begins with such a walk. Whoever asks what opening a path promises need not read this: where
-- a walk is after the object, nothing here is said of it. path_resolution(7); openat2(2).
use Rattle.std.specs.Prelude.{◌≡◌, ℕ, suc, ◌<◌, ◌&&◌, List, [], ◌∷◌, ◌++◌, Bool, true, false, not, if◌then◌else◌, Some, is_none}
use Rattle.path_text.specs.declared.errno.Errno.{Errno}
use Rattle.path_text.specs.declared.errno.Errno.TheVariants.{CrossRoot}
use Rattle.path_text.specs.Reading.{Reading}
use Rattle.path_text.specs.Text.{parts_of}
use Rattle.tree_model.specs.declared.inode.Place.{Place}
use Rattle.tree_model.specs.State.{child, is_dir}
use Rattle.walk_plan.specs.Plan.{leads_out}
use Rattle.step_resolver.specs.Asked.{AskedPart, Cur, Up, Named, asked, followed, is_deepest}
use Rattle.step_resolver.specs.Meaning.{Ground, Meant, object, fails, is_too_long, means, LINKS_MAX}
use Rattle.step_resolver.specs.Trail.{Spot, Trail, IsLinkAt, from_text}
use Rattle.step_resolver.specs.Order.{Handle, Turn, found, partial, failed}
use Rattle.step_resolver.specs.WalkHistory.{WalkInHistory, timeline, parts_of_walk, IsTrailTo}
use Rattle.step_resolver.specs.Moments.{StoodAt, DidNotStandAt, IsMissingAt, IsNewHandle}
use Rattle.step_resolver.specs.Footprint.{ground, AllLeftAlone, is_for_want, IsEnd}

-- ---- what it is in one tree

-- all of the parts; or the directory in which the first of the rest is missing; or an error
pub data Deep : Type 0 where
  whole : ℕ → ℕ → List Place → Deep
  up_to : ℕ → ℕ → List AskedPart → List Place → Deep
  none : Errno → List Place → Deep

-- the part is a name of good length that the directory doesn't have
abbrev pub is_missing : Ground → ℕ → AskedPart → Bool
is_missing g d Cur = false
is_missing g d Up = false
is_missing g d (Named follow n) = is_dir g.nodes d && not (is_too_long n) && is_none (child g.nodes d n)

-- the entry that a part reads in a directory
abbrev pub entries_of : ℕ → AskedPart → List Place
entries_of d Cur = []
entries_of d Up = []
entries_of d (Named follow n) = record { parent = d; name = n } ∷ []

abbrev pub deep_after : List Place → Deep → Deep
deep_after entries (whole d b reads) = whole d b (entries ++ reads)
deep_after entries (up_to d b rest reads) = up_to d b rest (entries ++ reads)
deep_after entries (none error reads) = none error (entries ++ reads)

abbrev pub and_then_deep : Meant → (ℕ → ℕ → Deep) → Deep
and_then_deep (object d b reads) onward = deep_after reads (onward d b)
and_then_deep (fails error reads) onward = none error reads

-- the caller's own parts one by one, up to the first that is missing; what is missing within a link's text is an error
abbrev pub deepest : ℕ → Ground → ℕ → List AskedPart → ℕ → Deep
deepest nested g d [] b = whole d b []
deepest nested g d (p ∷ ps) b =
    if is_missing g d p then up_to d b (p ∷ ps) (entries_of d p)
    else and_then_deep (means nested g d (p ∷ []) b) (λ e c. deepest nested g e ps c)

abbrev pub path_deepest : Ground → List AskedPart → Deep
path_deepest g ps = deepest LINKS_MAX g g.root ps LINKS_MAX

abbrev pub reading_deepest : Ground → Reading → Deep
reading_deepest g reading =
    if leads_out reading.absolute g.flags then none CrossRoot [] else path_deepest g (asked true reading.parts)

abbrev pub deep_reads : Deep → List Place
deep_reads (whole d b reads) = reads
deep_reads (up_to d b rest reads) = reads
deep_reads (none error reads) = reads

-- ---- what is opened

-- The parts before the rest were passed, and the first name of the rest was missing; afterwards the directory, which is
-- open, stood under the root at the names passed.
pub record OpensDeepest (w : WalkInHistory) (handle : Handle) (names : List (List ℕ))
    (rest : List AskedPart) : Type 0 where
  pub goal : is_deepest w.way.goal ≡ true
  pub front : List AskedPart
  pub parts : parts_of_walk w ≡ front ++ rest
  pub to : Spot
  pub trail : IsTrailTo w front to
  pub node : to.node ≡ handle.node
  pub passed : to.names ≡ names
  pub follow : Bool
  pub name : List ℕ
  pub others : List AskedPart
  pub begins_with : rest ≡ Named follow name ∷ others
  pub short : is_too_long name ≡ false
  pub first : ℕ
  pub missing : IsMissingAt w to name first
  pub when : ℕ
  pub stood : StoodAt w to when
  pub after : first < when
  pub new : IsNewHandle w handle

-- ---- what its failures tell beside those of any walk

-- ENOENT: the stop before this part is within the text of a link, which was at one of the caller's own parts.
pub record IsWithinLink (w : WalkInHistory) (to : Spot) (next : AskedPart) : Type 0 where
  pub front : List AskedPart
  pub name : List ℕ
  pub rest : List AskedPart
  pub parts : parts_of_walk w ≡ front ++ Named true name ∷ rest
  pub mid : Spot
  pub trail : IsTrailTo w front mid
  pub when : ℕ
  pub text : List ℕ
  pub left : ℕ
  pub link : IsLinkAt (timeline w) mid name when text left
  pub stop : Trail (timeline w) (followed (parts_of text))
      (from_text (timeline w) mid text left (suc when)) to (Some next)

-- EAGAIN: all parts before a missing one of the caller's own were passed, and then the directory didn't stand at the
-- names passed.
pub record TellsRacedDeepest (w : WalkInHistory) : Type 0 where
  pub goal : is_deepest w.way.goal ≡ true
  pub front : List AskedPart
  pub follow : Bool
  pub name : List ℕ
  pub rest : List AskedPart
  pub parts : parts_of_walk w ≡ front ++ Named follow name ∷ rest
  pub to : Spot
  pub trail : IsTrailTo w front to
  pub first : ℕ
  pub missing : IsMissingAt w to name first
  pub when : ℕ
  pub astray : DidNotStandAt w to (suc first) when

-- ---- what the path means

abbrev pub deepest_meaning : WalkInHistory → Deep
deepest_meaning w = reading_deepest (ground w) w.path

abbrev pub IsMeantDeep : Deep → Turn → Type 0
IsMeantDeep (whole x b reads) (found handle names) = handle.node ≡ x
IsMeantDeep (up_to x b rest reads) (partial handle names told) = (handle.node ≡ x) × (told ≡ rest)
IsMeantDeep (none error reads) (failed told) = told ≡ error
IsMeantDeep _ _ = ⊥

-- Where the entries that the path reads are left alone, the end is what the path means, but for want.
abbrev pub MeansDeepest : WalkInHistory → Turn → Type 0
MeansDeepest w end = IsEnd end → is_deepest w.way.goal ≡ true → is_for_want end ≡ false
    → AllLeftAlone w (deep_reads (deepest_meaning w)) → IsMeantDeep (deepest_meaning w) end
