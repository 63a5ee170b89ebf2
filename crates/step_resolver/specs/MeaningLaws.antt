-- The statements of the laws of meaning. path_resolution(7); POSIX.1, 4.16 Pathname Resolution.
use Rattle.std.specs.Prelude.{◌≡◌, ◌≢◌, ◌↔◌, ◌⊎◌, ℕ, suc, ◌≤◌, List, [], ◌∷◌, ◌++◌, Bool, true, false, Some}
use Rattle.path_text.specs.declared.errno.Errno.{Errno}
use Rattle.path_text.specs.declared.errno.Errno.TheVariants.{NotFound, CrossRoot, NotDir, TooLong, Loop}
use Rattle.path_text.specs.Text.{parts_of, begins_with_slash}
use Rattle.tree_model.specs.declared.inode.Object.TheVariants.{Link}
use Rattle.tree_model.specs.State.{object_at, child, parent, is_dir}
use Rattle.tree_model.specs.Trees.{IsTree}
use Rattle.tree_model.specs.declared.inode.Place.{Place}
use Rattle.walk_plan.specs.Plan.{leads_out}
use Rattle.step_resolver.specs.Asked.{AskedPart, Named, followed}
use Rattle.step_resolver.specs.Meaning.{Ground, Meant, object, fails, after_reads, and_then, is_too_long, from_of, above_of, means}
use Rattle.step_resolver.specs.Deepest.{Deep, whole, up_to, none, is_missing, entries_of, deepest}

-- over appended parts it is the meaning of the first, then of the second from there, with what both read
abbrev pub AppendedPartsMean : Type 0
AppendedPartsMean = (nested : ℕ) (g : Ground) (d : ℕ) (ps qs : List AskedPart) (b : ℕ)
    → means nested g d (ps ++ qs) b ≡ and_then (means nested g d ps b) (λ e c. means nested g e qs c)

-- a bound on the nesting that is no less than the links left doesn't matter
abbrev pub NestingDoesNotMatter : Type 0
NestingDoesNotMatter = (nested other : ℕ) (g : Ground) (d : ℕ) (ps : List AskedPart) (b : ℕ)
    → b ≤ nested → b ≤ other → means nested g d ps b ≡ means other g d ps b

-- the links left never rise
abbrev pub LinksNeverRise : Type 0
LinksNeverRise = (nested : ℕ) (g : Ground) (d : ℕ) (ps : List AskedPart) (b e c : ℕ) (reads : List Place)
    → means nested g d ps b ≡ object e c reads → c ≤ b

-- the errors that the parts of a path can mean
abbrev pub is_of_parts : Errno → Bool
is_of_parts NotFound = true
is_of_parts CrossRoot = true
is_of_parts NotDir = true
is_of_parts TooLong = true
is_of_parts Loop = true
is_of_parts _ = false

-- no other error comes
abbrev pub PartsFailAsPaths : Type 0
PartsFailAsPaths = (nested : ℕ) (g : Ground) (d : ℕ) (ps : List AskedPart) (b : ℕ) (error : Errno) (reads : List Place)
    → means nested g d ps b ≡ fails error reads → is_of_parts error ≡ true

-- the name is that of a link which may be followed
pub record IsOpenLink (g : Ground) (d : ℕ) (n text : List ℕ) : Type 0 where
  pub dir : is_dir g.nodes d ≡ true
  pub short : is_too_long n ≡ false
  pub link : ℕ
  pub child : child g.nodes d n ≡ Some link
  pub is_link : object_at g.nodes link ≡ Some (Link text)
  pub allowed : g.flags.no_links ≡ false
  pub within : leads_out (begins_with_slash text) g.flags ≡ false

-- a link that is followed means its text, put before the rest, with one link less
abbrev pub LinksAreTheirTexts : Type 0
LinksAreTheirTexts = (nested : ℕ) (g : Ground) (d : ℕ) (n text : List ℕ) (rest : List AskedPart) (b : ℕ)
    → IsOpenLink g d n text → suc b ≤ nested
    → means nested g d (Named true n ∷ rest) (suc b)
    ≡ after_reads (record { parent = d; name = n } ∷ [])
    (means nested g (from_of g.root d text) (followed (parts_of text) ++ rest) b)

-- ---- the deepest directory

-- The parts are a front and a rest: the front means a directory, in which the first name of the rest is missing.
pub record IsFrontAndRest (nested : ℕ) (g : Ground) (d : ℕ) (ps : List AskedPart) (b x c : ℕ)
    (rest : List AskedPart) (reads : List Place) : Type 0 where
  pub front : List AskedPart
  pub parts : ps ≡ front ++ rest
  pub follow : Bool
  pub name : List ℕ
  pub others : List AskedPart
  pub begins_with : rest ≡ Named follow name ∷ others
  pub before : List Place
  pub front_means : means nested g d front b ≡ object x c before
  pub missing : is_missing g x (Named follow name) ≡ true
  pub all_reads : reads ≡ before ++ entries_of x (Named follow name)

-- the object, where the whole means one; the directory and the rest, where the parts are such; else the error
abbrev pub IsDeepest : ℕ → Ground → ℕ → List AskedPart → ℕ → Deep → Type 0
IsDeepest nested g d ps b (whole x c reads) = means nested g d ps b ≡ object x c reads
IsDeepest nested g d ps b (up_to x c rest reads) = IsFrontAndRest nested g d ps b x c rest reads
IsDeepest nested g d ps b (none error reads) = (means nested g d ps b ≡ fails error reads)
    × ((x c : ℕ) (rest : List AskedPart) (others : List Place) → IsFrontAndRest nested g d ps b x c rest others → ⊥)

abbrev pub DeepestIsFrontAndRest : Type 0
DeepestIsFrontAndRest = (nested : ℕ) (g : Ground) (d : ℕ) (ps : List AskedPart) (b : ℕ) (deep : Deep)
    → (deepest nested g d ps b ≡ deep) ↔ IsDeepest nested g d ps b deep

-- the meaning that the deepest has: where a name is missing there is none
abbrev pub meant_by : Deep → Meant
meant_by (whole d b reads) = object d b reads
meant_by (up_to d b rest reads) = fails NotFound reads
meant_by (none error reads) = fails error reads

-- the deepest has the meaning of the whole, and reads the same entries
abbrev pub DeepestMeansTheSame : Type 0
DeepestMeansTheSame = (nested : ℕ) (g : Ground) (d : ℕ) (ps : List AskedPart) (b : ℕ)
    → meant_by (deepest nested g d ps b) ≡ means nested g d ps b

-- ---- the way up

-- the root, or a node that has a parent
abbrev pub IsBelow : Ground → ℕ → Type 0
IsBelow g d = (d ≡ g.root) ⊎ ((e : ℕ) × (parent g.nodes d ≡ Some e))

-- In a tree, what parts mean from such a place is such a place. A link's text begins at the root or in the directory
-- that holds the link.
abbrev pub PartsLeadBelow : Type 0
PartsLeadBelow = (nested : ℕ) (g : Ground) → IsTree g.nodes
    → (d : ℕ) (ps : List AskedPart) (b e c : ℕ) (reads : List Place)
    → IsBelow g d → means nested g d ps b ≡ object e c reads → IsBelow g e

-- So `..` never finds a place without a parent.
abbrev pub UpIsNeverMissing : Type 0
UpIsNeverMissing = (nested : ℕ) (g : Ground) → IsTree g.nodes → (ps : List AskedPart) (b e c : ℕ) (reads : List Place)
    → means nested g g.root ps b ≡ object e c reads → above_of g e c ≢ fails NotFound []
