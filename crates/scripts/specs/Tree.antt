-- What a script's tree says, over the data that its JSON text is.
use Rattle.std.specs.Prelude.{ℕ, ◌==◌, ◌&&◌, List, [], ◌∷◌, Bool, if◌then◌else◌, nat_lt, length, codes, Option, Some, None, is_none, option_map, option_and_then, Result, Ok, Err}
use Rattle.serde_json.specs.Data.{Data, Items, no_items, item}
use Rattle.serde_json.specs.Find.{at, as_str}
use Rattle.path_text.specs.declared.errno.Errno.{Errno}
use Rattle.path_text.specs.declared.errno.Errno.TheVariants as errno
use Rattle.path_text.specs.Name.{same_bytes}
use Rattle.path_text.specs.Print.{names_read}
use Rattle.tree_model.specs.declared.inode.Inode.{Inode}
use Rattle.tree_model.specs.Entries.{refuse_if}
use Rattle.tree_list.specs.declared.build.BuildFault.{BuildFault}
use Rattle.tree_list.specs.declared.build.Entry.{Entry}
use Rattle.tree_list.specs.declared.build.New.{New}
use Rattle.tree_list.specs.declared.build.New.TheVariants.{Dir, File, Link}
use Rattle.tree_list.specs.Build.{built}
use Rattle.scripts.specs.declared.fault.Cause.TheVariants.{Shape, Refused}
use Rattle.scripts.specs.declared.fault.RunFault.{RunFault}
use Rattle.scripts.specs.declared.fault.RunFault.TheVariants.{Script, NoMemory}
use Rattle.scripts.specs.declared.fault.ScriptFault.{ScriptFault}
use Rattle.scripts.specs.declared.fault.ScriptFault.TheVariants.{TooManyEntries, TreeEntry}
use Rattle.scripts.specs.Checks.{count_of}
use Rattle.scripts.specs.Limits.{MOST_ENTRIES}

-- ---- names

-- names with a slash before each, of which there is one at least
abbrev pub names_of : List ℕ → Option (List (List ℕ))
names_of text = if same_bytes text (codes "/") then None else names_read text

-- ---- the tree

abbrev pub text_at : ℕ → Data → Option (List ℕ)
text_at i d = option_and_then as_str (at i d)

-- an entry has as many elements as its kind wants
abbrev pub has_elements : ℕ → Data → Bool
has_elements n d = is_none (at n d)

-- what a new entry of that kind is
abbrev pub new_of : List ℕ → Data → Option New
new_of kind d =
    if same_bytes kind (codes "dir") && has_elements 2 d then Some Dir
    else (if same_bytes kind (codes "file") && has_elements 2 d then Some File
    else (if same_bytes kind (codes "link") && has_elements 3 d then option_map Link (text_at 2 d)
    else None))

-- `["dir", PATH]`, `["file", PATH]` or `["link", PATH, TEXT]`
abbrev pub entry_of : Data → Option Entry
entry_of d =
    option_and_then (λ kind.
    option_and_then (λ what. option_and_then (λ path. option_map (λ names. record { at = names; what = what })
    (names_of path)) (text_at 1 d)) (new_of kind d)) (text_at 0 d)

abbrev pub entry_then : Option Entry → List Entry → List Entry
entry_then None entries = []
entry_then (Some entry) entries = entry ∷ entries

-- the entries, up to the first that has another shape
abbrev pub entries_of : Items → List Entry
entries_of no_items = []
entries_of (item d ds) = entry_then (entry_of d) (entries_of ds)

-- the entries of good shape that come first can be built, and are all that there are
abbrev pub tree_built : Result (List Inode) BuildFault → ℕ → ℕ → Result (List Inode) ScriptFault
tree_built (Err fault) shaped all = Err (TreeEntry fault.at (Refused fault.cause))
tree_built (Ok nodes) shaped all = if shaped == all then Ok nodes else Err (TreeEntry shaped Shape)

abbrev pub tree_of : Items → Result (List Inode) ScriptFault
tree_of items =
    refuse_if (nat_lt MOST_ENTRIES (count_of items)) (Err TooManyEntries)
    (tree_built (built (entries_of items)) (length (entries_of items)) (count_of items))

-- how a run tells that its tree can't be built
abbrev pub told_by : Errno → ℕ → RunFault
told_by errno.NoMemory k = NoMemory
told_by cause k = Script (TreeEntry k (Refused cause))
