-- The line of an entry that a property asks for: its directory's path, and its name.
use Rattle.std.specs.Prelude.{ℕ, suc, ◌==◌, ◌&&◌, not, List, [], ◌++◌, length, Bool, false, nat_eq, if◌then◌else◌, Option, Some, None, option_map, option_and_then, codes, decimal}
use Rattle.std.specs.List.{list_any, starts_with}
use Rattle.serde_json.specs.Data.{Data, Items, no_items, item}
use Rattle.serde_json.specs.Find.{get, at, as_str, as_array}
use Rattle.path_text.specs.Name.{same_bytes}
use Rattle.event_log.specs.Words.{BLANK}
use Rattle.command_line.specs.Cut.{front, behind, is_within}

abbrev pub is_same : List ℕ → Option (List ℕ) → Bool
is_same text None = false
is_same text (Some other) = same_bytes other text

-- an element of an entry is that text
abbrev pub is_text : ℕ → List ℕ → Data → Bool
is_text place text entry = is_same text (option_and_then as_str (at place entry))

-- an entry is the directory with that path
abbrev pub is_dir_at : List ℕ → Data → Bool
is_dir_at path entry = is_text 0 (codes "dir") entry && is_text 1 path entry

-- the number of the first that is, where they are counted from k on
abbrev pub node_among : List ℕ → ℕ → Items → Option ℕ
node_among path k no_items = None
node_among path k (item entry entries) = if is_dir_at path entry then Some k else node_among path (suc k) entries

-- the top is node 0, and entry K of the tree, counted from 0, is node K + 1
abbrev pub node_at : List ℕ → Data → Option ℕ
node_at path script =
    if same_bytes path (codes "/") then Some 0
    else option_and_then (node_among path 1) (option_and_then as_array (get (codes "tree") script))

abbrev pub word_of : List ℕ → List ℕ
word_of text = front BLANK text

abbrev pub rest_of : List ℕ → List ℕ
rest_of text = behind BLANK text

abbrev pub is_row : List ℕ → Bool
is_row text = same_bytes (word_of text) (codes "row")

-- the words behind a directory, if there are any
abbrev pub with_rest : List ℕ → List ℕ
with_rest rest = if length rest == 0 then [] else codes " " ++ rest

abbrev pub numbered_row : List ℕ → ℕ → List ℕ
numbered_row rest node = codes "row " ++ (decimal node ++ with_rest rest)

-- a row whose directory is a path has its number, and any other text is its own line
abbrev pub row_line : List ℕ → Data → Option (List ℕ)
row_line text script =
    if is_row text && starts_with nat_eq (word_of (rest_of text)) (codes "/")
    then option_map (numbered_row (rest_of (rest_of text))) (node_at (word_of (rest_of text)) script)
    else Some text

abbrev pub BACKSLASH : ℕ
BACKSLASH = 92

abbrev pub is_escaped : List ℕ → Bool
is_escaped text = list_any (λ b. b == BACKSLASH) text

-- no escape hides a name, and it isn't there
abbrev pub is_nowhere : List ℕ → List ℕ → Bool
is_nowhere name script =
    not (is_escaped name) && (not (is_escaped script) && (not (length name == 0) && not (is_within name script)))

abbrev pub name_of : List ℕ → List ℕ
name_of text = word_of (rest_of (rest_of text))

-- a row's name is a part of the script
abbrev pub can_be_named : List ℕ → List ℕ → Bool
can_be_named script text = not (is_row text && is_nowhere (name_of text) script)
