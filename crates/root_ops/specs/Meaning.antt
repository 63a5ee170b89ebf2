-- What an operation done whole means: its reply, and the nodes after it, in a tree that nobody else changes
-- meanwhile. Its paths mean what step_resolver's `Meaning` says (path_resolution(7); openat2(2)). In the directory
-- that is found so one entry is changed, by the functions of tree_model's `Entries`; what the bulk calls change is
-- bulk_ops's `MakeAllQuiet` and `RemoveAllQuiet`. It knows no steps, and of handles only those that the caller
-- gives.
use Rattle.std.specs.Prelude.{ℕ, ◌||◌, List, Bool, true, false, not, if◌then◌else◌, Option, Some, None, Result, Ok, Err}
use Rattle.path_text.specs.declared.errno.Errno.{Errno}
use Rattle.path_text.specs.declared.errno.Errno.TheVariants.{NotFound, BadHandle, NotDir, Invalid}
use Rattle.path_text.specs.declared.path.Rule.{Rule}
use Rattle.path_text.specs.declared.path.Rule.TheVariants.{Drop, Refuse}
use Rattle.path_text.specs.declared.path.Split.{Split}
use Rattle.path_text.specs.Reading.{Reading}
use Rattle.path_text.specs.Text.{text_fault, reading_of}
use Rattle.path_text.specs.Split.{split_of}
use Rattle.tree_model.specs.declared.answer.Answer.{Answer}
use Rattle.tree_model.specs.declared.answer.Answer.TheVariants.{Refused}
use Rattle.tree_model.specs.declared.inode.Inode.{Inode}
use Rattle.tree_model.specs.declared.inode.Object.{Object}
use Rattle.tree_model.specs.declared.inode.Object.TheVariants as object
use Rattle.tree_model.specs.declared.step.Mode.{Mode}
use Rattle.tree_model.specs.State.{State, object_at, child, is_dir}
use Rattle.tree_model.specs.Entries.{refuse_if, with_some, refuse_by, makes, makes_link, removes_file, removes_dir, renames}
use Rattle.tree_model.specs.Steps.{Outcome, outcome, held}
use Rattle.handles.specs.Objects.{StandingObject}
use Rattle.step_resolver.specs.Meaning.{Resolution, is_object, is_error, resolution, reading_means, resolved}
use Rattle.step_resolver.specs.Deepest.{reading_deepest}
use Rattle.bulk_ops.specs.MakeAllQuiet.{MakeMeant, refuses, gives, make_means}
use Rattle.bulk_ops.specs.RemoveAllQuiet.{cleared, cleared_rows}
use Rattle.root_ops.specs.declared.below.Below.{Below}
use Rattle.root_ops.specs.declared.op.Op.{Op}
use Rattle.root_ops.specs.declared.op.Op.TheVariants.{Resolve, ResolveNoFollow, ReadLink, CreateFile, CreateDir, CreateLink, RemoveFile, RemoveDir, Rename, MkdirAll, RemoveAll, Single, Release}
use Rattle.root_ops.specs.Order.{is_single, same_owner}

-- a call's caller: the tree as it stands, who calls, the node of the root, and whose that root is with the walks'
-- restrictions
pub record Caller : Type 0 where
  pub tree : State
  pub actor : ℕ
  pub root : ℕ
  pub below : Below

-- the reply: the object that is opened, a link's text, that it is done, how many entries were removed, a single
-- step's answer, what isn't the caller's to release, or the error
pub data Told : Type 0 where
  is_open : ℕ → Told
  has_text : List ℕ → Told
  is_done : Told
  counts : ℕ → Told
  answers : Answer → Told
  keeps : StandingObject → Told
  fails : Errno → Told

pub record Whole : Type 0 where
  pub reply : Told
  pub nodes : List Inode

-- from the value onward, unless there is an error
abbrev pub and_then : {A B : Type 0} → Result A Errno → (A → Result B Errno) → Result B Errno
and_then (Ok value) onward = onward value
and_then (Err error) onward = Err error

-- ---- what paths mean

abbrev pub found : Resolution → Result ℕ Errno
found (is_object x) = Ok x
found (is_error error) = Err error

-- the object that a path text means, its last link being followed or not
abbrev pub object_of : Caller → List ℕ → Bool → Result ℕ Errno
object_of c text follow = found (resolution (resolved c.tree.nodes c.root text follow c.below.flags))

-- the object that the path before a last name means; a link at its end is followed, as one before a last name is
-- (path_resolution(7))
abbrev pub directory_of : Caller → Reading → Result ℕ Errno
directory_of c path = found
    (resolution (reading_means (record { nodes = c.tree.nodes; root = c.root; flags = c.below.flags }) path true))

-- the directory's path and the name of the entry that a path text is for, or the first fault: of the text, then of
-- its last part
abbrev pub entry_of : List ℕ → Rule → Result Split Errno
entry_of text rule = refuse_by (text_fault text) (split_of (reading_of text) rule)

-- ---- changes

-- the nodes after a change of the entry that a path text is for
abbrev pub changed_at : Caller → List ℕ → Rule → (ℕ → List ℕ → Result (List Inode) Errno) → Result (List Inode) Errno
changed_at c text rule change =
    and_then (entry_of text rule) (λ split.
    and_then (directory_of c split.dir) (λ d.
    change d split.name))

-- why the entry of a name is no directory, if it is none
abbrev pub no_directory : List Inode → ℕ → List ℕ → Option Errno
no_directory nodes d n =
    refuse_if (not (is_dir nodes d)) (Some NotDir)
    (with_some (child nodes d n) (Some NotFound) (λ c.
    refuse_if (not (is_dir nodes c)) (Some NotDir) None))

-- The nodes after a rename. A slash at the end of either path demands that what is renamed is a directory
-- (rename(2), ENOTDIR).
abbrev pub renamed : Caller → Split → Split → Mode → Result (List Inode) Errno
renamed c old new mode =
    and_then (directory_of c old.dir) (λ d.
    and_then (directory_of c new.dir) (λ f.
    refuse_by (if old.slash || new.slash then no_directory c.tree.nodes d old.name else None)
    (renames c.tree.nodes d old.name f new.name mode)))

-- ---- replies

-- the text of a link; nothing else has one
abbrev pub text_of : Option Object → Result (List ℕ) Errno
text_of (Some (object.Link text)) = Ok text
text_of _ = Err Invalid

-- no node is changed
abbrev pub tells : {A : Type 0} → Caller → (A → Told) → Result A Errno → Whole
tells c reply (Ok value) = record { reply = reply value; nodes = c.tree.nodes }
tells c reply (Err error) = record { reply = fails error; nodes = c.tree.nodes }

-- the nodes are these after it; an error changes none
abbrev pub changes : Caller → Result (List Inode) Errno → Whole
changes c (Ok nodes) = record { reply = is_done; nodes = nodes }
changes c (Err error) = record { reply = fails error; nodes = c.tree.nodes }

-- the same of what was told with its nodes
abbrev pub unless_error : {A : Type 0} → Caller → Result A Errno → (A → Whole) → Whole
unless_error c (Ok value) onward = onward value
unless_error c (Err error) onward = record { reply = fails error; nodes = c.tree.nodes }

-- the last of the directories that are made is opened
abbrev pub made : Caller → MakeMeant → Whole
made c (refuses error) = record { reply = fails error; nodes = c.tree.nodes }
made c (gives x nodes) = record { reply = is_open x; nodes = nodes }

abbrev pub makes_along : Caller → Reading → Whole
makes_along c path = made c
    (make_means c.tree.nodes
    (reading_deepest (record { nodes = c.tree.nodes; root = c.root; flags = c.below.flags }) path))

-- the target in directory d with all that is below it goes, and is counted
abbrev pub clears : Caller → List ℕ → ℕ → Whole
clears c target d =
    if is_dir c.tree.nodes d
    then record { reply = counts (cleared_rows c.tree.nodes d target); nodes = cleared c.tree.nodes d target }
    else record { reply = fails NotDir; nodes = c.tree.nodes }

abbrev pub told_by : Answer → Told
told_by (Refused error) = fails error
told_by answer = answers answer

-- a step by the step table
abbrev pub steps : Outcome → Whole
steps o = record { reply = told_by o.answer; nodes = o.after.nodes }

-- the caller's own handle is closed, if it is open
abbrev pub closes : Option ℕ → Told
closes (Some x) = is_done
closes None = fails BadHandle

-- ---- the operations

abbrev pub op_means : Caller → Op → Whole
-- openat2(2) with O_PATH; with O_NOFOLLOW too
op_means c (Resolve text) = tells c is_open (object_of c text true)
op_means c (ResolveNoFollow text) = tells c is_open (object_of c text false)
-- readlink(2)
op_means c (ReadLink text) =
    tells c has_text (and_then (object_of c text false) (λ x. text_of (object_at c.tree.nodes x)))
-- mknod(2), mkdir(2), symlink(2)
op_means c (CreateFile text) = changes c (changed_at c text Refuse (λ d n. makes c.tree.nodes d n object.File))
op_means c (CreateDir text) = changes c (changed_at c text Drop (λ d n. makes c.tree.nodes d n object.Dir))
op_means c (CreateLink text target) = changes c (changed_at c text Refuse (λ d n. makes_link c.tree.nodes d n target))
-- unlink(2), rmdir(2)
op_means c (RemoveFile text) = changes c (changed_at c text Refuse (λ d n. removes_file c.tree.nodes d n))
op_means c (RemoveDir text) = changes c (changed_at c text Drop (λ d n. removes_dir c.tree.nodes d n))
-- rename(2), renameat2(2); the faults of the old path come before those of the new one
op_means c (Rename old new mode) =
    changes c (and_then (entry_of old Drop) (λ from. and_then (entry_of new Drop) (λ to. renamed c from to mode)))
-- mkdir(2), as `mkdir -p` makes them
op_means c (MkdirAll text) =
    unless_error c (refuse_by (text_fault text) (Ok (reading_of text))) (λ path. makes_along c path)
-- unlink(2) and rmdir(2), as `rm -r` removes
op_means c (RemoveAll text) = unless_error c (entry_of text Drop)
    (λ split. unless_error c (directory_of c split.dir) (λ d. clears c split.name d))
-- one step on handles of the caller's, but none that opens or closes one
op_means c (Single step) =
    if is_single step then steps (outcome c.tree c.actor step)
    else record { reply = fails Invalid; nodes = c.tree.nodes }
-- close(2); what is another owner's is handed back
op_means c (Release standing) =
    record {
      reply = if same_owner standing.owner c.below.root.owner
          then closes (held c.tree c.actor standing.handle) else keeps standing;
      nodes = c.tree.nodes;
    }
