-- A tree built of a list of entries, each made at its names below the top, in their order.
use Rattle.std.specs.Prelude.{◌≡◌, ◌≤◌, ◌-◌, ℕ, suc, List, [], ◌∷◌, length, take, reverse, slice_get, Option, None, Result, Ok, Err, IsOk, ◌⊎◌, Some}
use Rattle.path_text.specs.declared.errno.Errno.{Errno}
use Rattle.path_text.specs.declared.errno.Errno.TheVariants.{NotFound, NoMemory, Exists}
use Rattle.path_text.specs.Text.{text_fault}
use Rattle.tree_model.specs.declared.inode.Inode.{Inode}
use Rattle.tree_model.specs.declared.inode.Object.{Object}
use Rattle.tree_model.specs.declared.inode.Object.TheVariants as object
use Rattle.tree_model.specs.State.{State, TOP, object_at, child, Stands}
use Rattle.tree_model.specs.Entries.{with_some, refuse_by, makes}
use Rattle.tree_list.specs.declared.build.New.{New}
use Rattle.tree_list.specs.declared.build.New.TheVariants.{Dir, File, Link}
use Rattle.tree_list.specs.declared.build.Entry.{Entry}
use Rattle.tree_list.specs.declared.build.BuildFault.{BuildFault}

-- the top alone
abbrev pub top_alone : List Inode
top_alone = record { object = object.Dir; place = None } ∷ []

-- what a new entry is
abbrev pub object_of : New → Object
object_of Dir = object.Dir
object_of File = object.File
object_of (Link text) = object.Link text

-- why a link's text is no path text
abbrev pub new_fault : New → Option Errno
new_fault Dir = None
new_fault File = None
new_fault (Link text) = text_fault text

-- A new node at these names below x, no link followed. Where its parent is missing, at whatever depth, it is NotFound;
-- there is no entry without a name but the top.
abbrev pub makes_at : List Inode → ℕ → List (List ℕ) → Object → Result (List Inode) Errno
makes_at nodes x [] what = Err Exists
makes_at nodes x (n ∷ []) what = makes nodes x n what
makes_at nodes x (n ∷ m ∷ names) what =
    with_some (child nodes x n) (Err NotFound) (λ c. makes_at nodes c (m ∷ names) what)

-- the node at these names below x, if one is there
abbrev pub node_at : List Inode → ℕ → List (List ℕ) → Option ℕ
node_at nodes x [] = Some x
node_at nodes x (n ∷ names) = with_some (child nodes x n) None (λ c. node_at nodes c names)

-- the names but the last, by which the last is reached
abbrev pub way : List (List ℕ) → List (List ℕ)
way names = take (length names - 1) names

-- the node below which an entry at these names stands, or is to stand
abbrev pub StandsIn : List Inode → List (List ℕ) → ℕ → Type 0
StandsIn nodes names parent = node_at nodes TOP (way names) ≡ Some parent

-- the nodes with an entry
abbrev pub adds : List Inode → Entry → Result (List Inode) Errno
adds nodes entry = refuse_by (new_fault entry.what) (makes_at nodes TOP entry.at (object_of entry.what))

-- what goes on with the nodes of the k-th entry, if it isn't refused
abbrev pub with_added : Result (List Inode) Errno → ℕ → (List Inode → Result (List Inode) BuildFault)
    → Result (List Inode) BuildFault
with_added (Err cause) k otherwise = Err (record { at = k; cause = cause })
with_added (Ok nodes) k otherwise = otherwise nodes

-- the nodes with these entries, the first of which is the k-th, or the first that is refused, and why
abbrev pub adds_all : ℕ → List Inode → List Entry → Result (List Inode) BuildFault
adds_all k nodes [] = Ok nodes
adds_all k nodes (entry ∷ entries) = with_added (adds nodes entry) k (λ added. adds_all (suc k) added entries)

-- the nodes of the tree with these entries, or the first that is refused, and why
abbrev pub built : List Entry → Result (List Inode) BuildFault
built entries = adds_all 0 top_alone entries

-- the tree of these nodes, no handle open
abbrev pub with_nodes : List Inode → State
with_nodes nodes = record { nodes = nodes; handles = [] }

-- the tree with these entries
abbrev pub IsBuilt : List Entry → State → Type 0
IsBuilt entries tree = (built entries ≡ Ok tree.nodes) × (tree.handles ≡ [])

-- A fault of adding entries to these nodes: that of the first entry that is refused, or a want of memory after the
-- entries before it.
abbrev pub IsFaultFrom : List Inode → List Entry → BuildFault → Type 0
IsFaultFrom nodes entries fault = (adds_all 0 nodes entries ≡ Err fault)
    ⊎ ((fault.cause ≡ NoMemory) × (fault.at ≤ length entries) × IsOk (adds_all 0 nodes (take fault.at entries)))

-- a fault of building a tree of these entries
abbrev pub IsFaultOf : List Entry → BuildFault → Type 0
IsFaultOf = IsFaultFrom top_alone

-- each entry is the node of the number after its place in the list, and stands at its names below the top; there is
-- no node but these and the top
pub record IsTreeOf (entries : List Entry) (nodes : List Inode) : Type 0 where
  pub count : length nodes ≡ suc (length entries)
  pub objects : (k : ℕ) (entry : Entry) → slice_get entries k ≡ Some entry
      → object_at nodes (suc k) ≡ Some (object_of entry.what)
  pub names : (k : ℕ) (entry : Entry) → slice_get entries k ≡ Some entry → Stands nodes TOP (suc k) (reverse entry.at)
