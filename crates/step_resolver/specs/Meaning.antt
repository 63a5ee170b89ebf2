-- What a path means in one tree: the end of the whole path, and the entries that it reads on the way.
-- path_resolution(7); POSIX.1, 4.16 Pathname Resolution; openat2(2), RESOLVE_IN_ROOT, RESOLVE_BENEATH,
-- RESOLVE_NO_SYMLINKS.
use Rattle.std.specs.Prelude.{ℕ, zero, suc, ◌==◌, List, [], ◌∷◌, ◌++◌, Bool, true, if◌then◌else◌, nat_lt, length, Option, Some, None}
use Rattle.path_text.specs.declared.errno.Errno.{Errno}
use Rattle.path_text.specs.declared.errno.Errno.TheVariants.{NotFound, CrossRoot, NotDir, TooLong, Loop}
use Rattle.path_text.specs.declared.flags.Flags.{Flags}
use Rattle.path_text.specs.declared.name.TheConstants.{NAME_MAX}
use Rattle.path_text.specs.Reading.{Reading}
use Rattle.path_text.specs.Text.{text_fault, parts_of, reading_of, begins_with_slash}
use Rattle.tree_model.specs.declared.inode.Inode.{Inode}
use Rattle.tree_model.specs.declared.inode.Object.{Object}
use Rattle.tree_model.specs.declared.inode.Object.TheVariants.{Link}
use Rattle.tree_model.specs.State.{object_at, child, parent, is_dir}
use Rattle.tree_model.specs.declared.inode.Place.{Place}
use Rattle.step_resolver.specs.Asked.{AskedPart, Cur, Up, Named, asked, followed}
pub use Rattle.walk_plan.specs.declared.plan.TheConstants.{LINKS_MAX}
use Rattle.walk_plan.specs.Plan.{leads_out}

-- where a path is resolved: the nodes, the root's number, and the call's restrictions
pub record Ground : Type 0 where
  pub nodes : List Inode
  pub root : ℕ
  pub flags : Flags

-- an object with the links left, or an error; and the entries that were read
pub data Meant : Type 0 where
  object : ℕ → ℕ → List Place → Meant
  fails : Errno → List Place → Meant

-- these entries were read before
abbrev pub after_reads : List Place → Meant → Meant
after_reads entries (object d b reads) = object d b (entries ++ reads)
after_reads entries (fails error reads) = fails error (entries ++ reads)

-- from the object onward, unless there is an error
abbrev pub and_then : Meant → (ℕ → ℕ → Meant) → Meant
and_then (object d b reads) onward = after_reads reads (onward d b)
and_then (fails error reads) onward = fails error reads

abbrev pub is_too_long : List ℕ → Bool
is_too_long n = nat_lt NAME_MAX (length n)

-- the root for an absolute text, else the directory that holds the link
abbrev pub from_of : ℕ → ℕ → List ℕ → ℕ
from_of r d text = if begins_with_slash text then r else d

-- What follows takes how the parts of a link's text are resolved: from which directory, which parts, with how many
-- links left.
abbrev pub Deeper : Type 0
Deeper = ℕ → List AskedPart → ℕ → Meant

-- a link that is followed is the object that its whole text means (the budget falls by one for the link itself)
abbrev pub link_in : Deeper → Ground → ℕ → List ℕ → ℕ → Meant
link_in deeper g d text zero = fails Loop []
link_in deeper g d text (suc b) =
    if g.flags.no_links then fails Loop []
    else (if leads_out (begins_with_slash text) g.flags then fails CrossRoot []
    else deeper (from_of g.root d text) (followed (parts_of text)) b)

-- a child that is no link, or is not followed, is entered
abbrev pub child_is : Deeper → Ground → ℕ → Bool → ℕ → ℕ → Option Object → Meant
child_is deeper g d true b c (Some (Link text)) = link_in deeper g d text b
child_is deeper g d _ b c _ = object c b []

abbrev pub named : Deeper → Ground → ℕ → Bool → ℕ → Option ℕ → Meant
named deeper g d follow b None = fails NotFound []
named deeper g d follow b (Some c) = child_is deeper g d follow b c (object_at g.nodes c)

-- above the root there is nothing; a directory that was removed has no parent
abbrev pub above : ℕ → Option ℕ → Meant
above b None = fails NotFound []
above b (Some e) = object e b []

abbrev pub above_of : Ground → ℕ → ℕ → Meant
above_of g d b =
    if d == g.root then (if g.flags.beneath then fails CrossRoot [] else object d b [])
    else above b (parent g.nodes d)

-- one part, from a directory
abbrev pub one_part : Deeper → Ground → ℕ → AskedPart → ℕ → Meant
one_part deeper g d Cur b = object d b []
one_part deeper g d Up b = above_of g d b
one_part deeper g d (Named follow n) b =
    if is_too_long n then fails TooLong []
    else after_reads (record { parent = d; name = n } ∷ []) (named deeper g d follow b (child g.nodes d n))

-- one part, from any object: only a directory has one
abbrev pub part_means : Deeper → Ground → ℕ → AskedPart → ℕ → Meant
part_means deeper g d p b = if is_dir g.nodes d then one_part deeper g d p b else fails NotDir []

-- one part after another
abbrev pub parts_mean : Deeper → Ground → ℕ → List AskedPart → ℕ → Meant
parts_mean deeper g d [] b = object d b []
parts_mean deeper g d (p ∷ ps) b = and_then (part_means deeper g d p b) (λ e c. parts_mean deeper g e ps c)

-- The meaning of parts from d with b links left, for links nested that deep. The links left bound the nesting, so any
-- number from them on gives the same.
abbrev pub means : ℕ → Ground → ℕ → List AskedPart → ℕ → Meant
means zero g d ps b = parts_mean (λ e qs c. fails Loop []) g d ps b
means (suc nested) g d ps b = parts_mean (λ e qs c. means nested g e qs c) g d ps b

-- the meaning of parts from the root, with all links left
abbrev pub path_means : Ground → List AskedPart → Meant
path_means g ps = means LINKS_MAX g g.root ps LINKS_MAX

-- the meaning of a path as it was read
abbrev pub reading_means : Ground → Reading → Bool → Meant
reading_means g reading follow =
    if leads_out reading.absolute g.flags then fails CrossRoot [] else path_means g (asked follow reading.parts)

abbrev pub resolves : Ground → List ℕ → Bool → Option Errno → Meant
resolves g text follow None = reading_means g (reading_of text) follow
resolves g text follow (Some fault) = fails fault []

-- the meaning of a path text
abbrev pub resolved : List Inode → ℕ → List ℕ → Bool → Flags → Meant
resolved nodes r text follow flags =
    resolves (record { nodes = nodes; root = r; flags = flags }) text follow (text_fault text)

-- the error, or the object without the links left
pub data Resolution : Type 0 where
  is_object : ℕ → Resolution
  is_error : Errno → Resolution

abbrev pub resolution : Meant → Resolution
resolution (object d b reads) = is_object d
resolution (fails error reads) = is_error error

abbrev pub reads_of : Meant → List Place
reads_of (object d b reads) = reads
reads_of (fails error reads) = reads
