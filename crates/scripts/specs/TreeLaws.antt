-- What holds of the definition of a script's tree.
use Rattle.std.specs.Prelude.{⊤, ◌≡◌, ◌↔◌, ℕ, ◌<◌, ◌≤◌, List, length, slice_get, Option, Some, None, option_and_then, Ok, Err}
use Rattle.serde_json.specs.Data.{Items}
use Rattle.serde_json.specs.Find.{get_item}
use Rattle.tree_model.specs.declared.inode.Inode.{Inode}
use Rattle.tree_list.specs.declared.build.Entry.{Entry}
use Rattle.tree_list.specs.Build.{adds, built}
use Rattle.scripts.specs.declared.fault.Cause.{Cause}
use Rattle.scripts.specs.declared.fault.Cause.TheVariants.{Shape, Refused}
use Rattle.scripts.specs.declared.fault.ScriptFault.TheVariants.{TreeEntry}
use Rattle.scripts.specs.Checks.{count_of}
use Rattle.scripts.specs.Limits.{MOST_ENTRIES}
use Rattle.scripts.specs.Tree.{entry_of, tree_of}

-- these entries are what the first k values say
pub record AreFirst (items : Items) (k : ℕ) (entries : List Entry) : Type 0 where
  pub count : length entries ≡ k
  pub said : (i : ℕ) (entry : Entry) → slice_get entries i ≡ Some entry
      → option_and_then entry_of (get_item i items) ≡ Some entry

-- a value that says no entry is refused for its shape, and an entry for its place or its link text
abbrev pub IsRefused : List Inode → Option Entry → Cause → Type 0
IsRefused nodes None Shape = ⊤
IsRefused nodes None (Refused error) = ⊥
IsRefused nodes (Some entry) Shape = ⊥
IsRefused nodes (Some entry) (Refused error) = adds nodes entry ≡ Err error

-- the first k values say entries that make a tree, and the k-th is refused after them
pub record IsFirstRefused (items : Items) (k : ℕ) (cause : Cause) : Type 0 where
  pub few : count_of items ≤ MOST_ENTRIES
  pub within : k < count_of items
  pub entries : List Entry
  pub before : AreFirst items k entries
  pub nodes : List Inode
  pub built : built entries ≡ Ok nodes
  pub refused : IsRefused nodes (option_and_then entry_of (get_item k items)) cause

-- an entry is told exactly where it is the first that is refused
abbrev pub FirstRefusedIsTold : Type 0
FirstRefusedIsTold = (items : Items) (k : ℕ) (cause : Cause)
    → (tree_of items ≡ Err (TreeEntry k cause)) ↔ IsFirstRefused items k cause
