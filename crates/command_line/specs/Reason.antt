-- What is wrong with an entry, an actor or a call that is refused.
use Rattle.std.specs.Prelude.{ℕ, ◌==◌, ◌||◌, ◌&&◌, not, List, [], ◌∷◌, length, Bool, false, if◌then◌else◌, is_some, is_none, Option, Some, None, option_map, option_and_then, codes}
use Rattle.std.specs.List.{list_any, slice_split}
use Rattle.serde_json.specs.Data.{Data}
use Rattle.serde_json.specs.Find.{get, at, as_str, as_array, as_object}
use Rattle.path_text.specs.Name.{same_bytes, name_fault}
use Rattle.path_text.specs.declared.name.TheConstants.{SLASH}
use Rattle.path_text.specs.declared.errno.Errno.TheVariants.{NotFound}
use Rattle.scripts.specs.declared.call_fault.CallFault.{CallFault}
use Rattle.scripts.specs.declared.call_fault.CallFault.TheVariants.{Unknown}
use Rattle.scripts.specs.declared.call_fault.Field.TheVariants.{Op}
use Rattle.scripts.specs.declared.fault.Cause.TheVariants.{Shape, Refused}
use Rattle.scripts.specs.declared.fault.ScriptFault.{ScriptFault}
use Rattle.scripts.specs.declared.fault.ScriptFault.TheVariants.{TreeEntry, Actor, Call}
use Rattle.command_line.specs.Entry.{entry_of}

abbrev pub text_at : ℕ → Data → Option (List ℕ)
text_at place d = option_and_then as_str (at place d)

-- ---- paths

abbrev pub is_dots : List ℕ → Bool
is_dots name = same_bytes name (codes ".") || same_bytes name (codes "..")

abbrev pub parts_of : List ℕ → List (List ℕ)
parts_of names = slice_split (λ b. b == SLASH) names

abbrev pub has_dots : List ℕ → Bool
has_dots names = list_any is_dots (parts_of names)

abbrev pub has_empty : List ℕ → Bool
has_empty names = list_any (λ name. length name == 0) (parts_of names)

abbrev pub has_no_name : List ℕ → Bool
has_no_name names = list_any (λ name. is_some (name_fault name)) (parts_of names)

-- what is wrong with names that have a slash between them
abbrev pub names_reason : List ℕ → Option (List ℕ)
names_reason names =
    if not (has_no_name names) then None
    else (if has_dots names then Some (codes ". and .. are no names")
    else (if has_empty names then Some (codes "a path has one slash before each name, and none at its end")
    else Some (codes "a name has at most 255 bytes, and no NUL")))

-- what is wrong with a path that has a slash before each of its names
abbrev pub path_reason : List ℕ → Option (List ℕ)
path_reason [] = Some (codes "a path begins with a slash")
path_reason (b ∷ names) = if b == SLASH then names_reason names else Some (codes "a path begins with a slash")

-- ---- entries

-- what is wrong with how many elements an entry of that kind has
abbrev pub kind_reason : List ℕ → Data → Option (List ℕ)
kind_reason kind entry =
    if same_bytes kind (codes "link") then
    (if is_some (text_at 2 entry) && is_none (at 3 entry) then None
    else Some (codes "a link has a path and a text: [\"link\", PATH, TEXT]"))
    else (if not (same_bytes kind (codes "dir")) && not (same_bytes kind (codes "file")) then
    Some (codes "an entry is a \"dir\", a \"file\" or a \"link\"")
    else (if is_none (at 2 entry) then None
    else Some (codes "a directory or a file has a path alone: [\"dir\", PATH]")))

-- what is wrong with the path of an entry
abbrev pub place_reason : Option (List ℕ) → Option (List ℕ)
place_reason None = Some (codes "an entry's second element is its path, a text")
place_reason (Some path) =
    if same_bytes path (codes "/") then Some (codes "/ is the top of the tree, which is there already")
    else path_reason path

-- the first of two
abbrev pub or_else : Option (List ℕ) → Option (List ℕ) → Option (List ℕ)
or_else None other = other
or_else (Some reason) other = Some reason

abbrev pub kind_or_place : Option (List ℕ) → Data → Option (List ℕ)
kind_or_place None entry = Some (codes "an entry is a list that begins with \"dir\", \"file\" or \"link\"")
kind_or_place (Some kind) entry = or_else (kind_reason kind entry) (place_reason (text_at 1 entry))

abbrev pub entry_reason : Data → Option (List ℕ)
entry_reason entry = kind_or_place (text_at 0 entry) entry

abbrev pub is_empty_text : Option (List ℕ) → Bool
is_empty_text None = false
is_empty_text (Some text) = same_bytes text []

-- which of two things an entry lacks
abbrev pub missing_reason : Data → List ℕ
missing_reason entry =
    if is_empty_text (text_at 2 entry) then codes "ENOENT: its link text is empty"
    else codes "ENOENT: its directory is no entry before it"

-- ---- actors

abbrev pub list_reason : Option Data → Option (List ℕ)
list_reason None = Some (codes "\"calls\" is missing, a list that may be empty; walk alone does without")
list_reason (Some calls) = if is_some (as_array calls) then None else Some (codes "\"calls\" is no list")

abbrev pub calls_reason : Data → Option (List ℕ)
calls_reason actor = list_reason (get (codes "calls") actor)

abbrev pub top_or_path : Option (List ℕ) → Option (List ℕ)
top_or_path None = Some (codes "\"root\" is no text")
top_or_path (Some path) = if same_bytes path (codes "/") then None else path_reason path

abbrev pub root_reason : Data → Option (List ℕ)
root_reason root = top_or_path (as_str root)

abbrev pub root_or_calls : Option Data → Data → Option (List ℕ)
root_or_calls None actor = Some (codes "\"root\" is missing, the path of a directory")
root_or_calls (Some root) actor = or_else (root_reason root) (calls_reason actor)

abbrev pub actor_reason : Data → Option (List ℕ)
actor_reason actor =
    if is_some (as_object actor) then root_or_calls (get (codes "root") actor) actor
    else Some (codes "an actor is an object with \"root\" and \"calls\"")

-- ---- calls

-- which operation may be meant by another system's word
abbrev pub operation_reason : List ℕ → List ℕ
operation_reason word =
    if same_bytes word (codes "open") then codes "\"open\" is no operation: \"resolve\" opens what a path means"
    else (if same_bytes word (codes "mkdir") then
    codes "\"mkdir\" is no operation: \"create_dir\" makes a directory, \"mkdir_all\" all that are missing"
    else (if same_bytes word (codes "creat") then codes "\"creat\" is no operation: \"create_file\" makes a file"
    else (if same_bytes word (codes "symlink") then codes "\"symlink\" is no operation: \"create_link\" makes a link"
    else (if same_bytes word (codes "readlink") then codes "\"readlink\" is no operation: \"read_link\" reads a link"
    else (if same_bytes word (codes "unlink") then
    codes "\"unlink\" is no operation: \"remove_file\" removes a file or a link"
    else (if same_bytes word (codes "rmdir") then
    codes "\"rmdir\" is no operation: \"remove_dir\" removes an empty directory"
    else (if same_bytes word (codes "close") then
    codes "\"close\" is no operation: \"release\" closes what a label names"
    else codes "\"op\" is resolve, resolve_nofollow, read_link, mkdir_all, create_dir, create_file, create_link, remove_file, remove_dir, remove_all, rename, step or release")))))))

abbrev pub field_reason : CallFault → Data → Option (List ℕ)
field_reason (Unknown Op) call = option_map operation_reason (option_and_then as_str (get (codes "op") call))
field_reason (Unknown other) call =
    Some (codes "\"step\" is read_link, list, below, make_dir, make_file, make_link, remove_file, remove_dir or rename")
field_reason other call = None

abbrev pub call_reason : CallFault → Data → Option (List ℕ)
call_reason fault call =
    if is_some (as_object call) then field_reason fault call
    else Some (codes "a call is an object, as {\"op\":\"resolve\",\"path\":\"a\"}")

-- ---- of a whole script

abbrev pub fault_reason : ScriptFault → Data → Option (List ℕ)
fault_reason (TreeEntry place Shape) entry = entry_reason entry
fault_reason (TreeEntry place (Refused NotFound)) entry = Some (missing_reason entry)
fault_reason (Actor actor Shape) entry = actor_reason entry
fault_reason (Call actor call (Some fault)) entry = call_reason fault entry
fault_reason other entry = None

abbrev pub reason_of : ScriptFault → Data → Option (List ℕ)
reason_of fault script = option_and_then (fault_reason fault) (entry_of fault script)
