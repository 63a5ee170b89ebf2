-- What a path means in a tree that is built of entries, as a caller gets it.
use Rattle.std.specs.Prelude.{◌≡◌, ℕ, List, ◌⊎◌, true, Result, Ok, Err}
use Rattle.path_text.specs.declared.errno.Errno.{Errno}
use Rattle.path_text.specs.declared.errno.Errno.TheVariants.{NoMemory}
use Rattle.path_text.specs.declared.flags.Flags.{Flags}
use Rattle.tree_model.specs.declared.inode.Inode.{Inode}
use Rattle.tree_model.specs.State.{State, TOP}
use Rattle.tree_model.specs.Steps.{directory_at, held}
use Rattle.tree_list.specs.Build.{built}
use Rattle.tree_list.specs.declared.build.BuildFault.{BuildFault}
use Rattle.tree_list.specs.declared.build.Entry.{Entry}
use Rattle.step_resolver.specs.Meaning.{Resolution, is_object, is_error, resolution, resolved}

-- The caller gets the node of the object that is meant, or the error; unless there was no memory.
abbrev pub Gives : Resolution → Result ℕ Errno → Type 0
Gives (is_object x) (Ok node) = node ≡ x
Gives (is_object x) (Err error) = error ≡ NoMemory
Gives (is_error cause) (Ok node) = ⊥
Gives (is_error cause) (Err error) = (error ≡ NoMemory) ⊎ (error ≡ cause)

-- the same handles are open, each on the node that it was on, whoever's they are
abbrev pub LeavesAllHandles : State → State → Type 0
LeavesAllHandles s t = (a h : ℕ) → held t a h ≡ held s a h

-- below a directory that was found
abbrev pub meaning_below : List Inode → Result ℕ Errno → List ℕ → Flags → Resolution
meaning_below nodes (Err error) text flags = is_error error
meaning_below nodes (Ok r) text flags = resolution (resolved nodes r text true flags)

-- in a tree that was built
abbrev pub meaning_on : Result (List Inode) BuildFault → List (List ℕ) → List ℕ → Flags → Resolution
meaning_on (Err fault) root text flags = is_error fault.cause
meaning_on (Ok nodes) root text flags = meaning_below nodes (directory_at nodes TOP root) text flags

-- what a path text means in the tree of these entries, below the directory at those names
abbrev pub meaning_in : List Entry → List (List ℕ) → List ℕ → Flags → Resolution
meaning_in entries root text flags = meaning_on (built entries) root text flags
