-- What a tree has that an earlier one didn't have, or had elsewhere: nodes and handles by their numbers.
use Rattle.std.specs.Prelude.{ℕ, ◌==◌, ◌&&◌, not, Bool, true, false, List, [], ◌∷◌, ◌++◌, if◌then◌else◌, Option, Some, None, slice_get, codes, decimal}
use Rattle.path_text.specs.Name.{same_bytes}
use Rattle.report_text.specs.Report.{numbered}
use Rattle.event_log.specs.Output.{escaped, kind_word}
use Rattle.tree_model.specs.declared.inode.Inode.{Inode}
use Rattle.tree_model.specs.declared.inode.OpenHandle.{OpenHandle}
use Rattle.tree_model.specs.declared.inode.Place.{Place}
use Rattle.tree_model.specs.Entries.{with_some}
use Rattle.tree_model.specs.State.{State}
use Rattle.tree_model.specs.Steps.{kind_of}
use Rattle.report_text.specs.Json.{text_words, comma_words}

-- ---- nodes

abbrev pub same_place : Option Place → Option Place → Bool
same_place None None = true
same_place (Some place) (Some other) = place.parent == other.parent && same_bytes place.name other.name
same_place place other = false

-- a node is new, or stands elsewhere than before
abbrev pub has_moved : Option Inode → Inode → Bool
has_moved None inode = true
has_moved (Some old) inode = not (same_place old.place inode.place)

-- the number of a node that has moved
abbrev pub moved_one : List Inode → ℕ → Inode → List ℕ
moved_one before x inode = if has_moved (slice_get before x) inode then x ∷ [] else []

-- those of all that have, in their order
abbrev pub moved : List Inode → List Inode → List ℕ
moved before after = numbered (moved_one before) 0 after

-- ,PARENT,NAME of a node that stands somewhere
abbrev pub place_words : Option Place → List ℕ
place_words None = []
place_words (Some place) = (codes "," ++ decimal place.parent) ++ (codes "," ++ text_words (escaped place.name))

-- [NODE,KIND,PARENT,NAME], or [NODE,KIND] of a node that stands nowhere
unfoldable pub node_words : ℕ → Inode → List ℕ
node_words x inode =
    (codes "[" ++ decimal x)
    ++ (codes ",\"" ++ (kind_word (kind_of inode.object) ++ (codes "\"" ++ (place_words inode.place ++ codes "]"))))

abbrev pub node_at : List Inode → ℕ → ℕ → List ℕ
node_at nodes at x = comma_words at ++ with_some (slice_get nodes x) [] (node_words x)

-- the nodes that have moved, as they stand now
abbrev pub nodes_words : List Inode → List Inode → List ℕ
nodes_words before after = numbered (node_at after) 0 (moved before after)

-- ---- handles

abbrev pub same_handle : Option OpenHandle → Option OpenHandle → Bool
same_handle None None = true
same_handle (Some handle) (Some other) = handle.actor == other.actor && handle.node == other.node
same_handle handle other = false

-- a handle is new, or was closed
abbrev pub has_changed : Option (Option OpenHandle) → Option OpenHandle → Bool
has_changed None handle = true
has_changed (Some old) handle = not (same_handle old handle)

abbrev pub changed_one : List (Option OpenHandle) → ℕ → Option OpenHandle → List ℕ
changed_one before h handle = if has_changed (slice_get before h) handle then h ∷ [] else []

abbrev pub changed : List (Option OpenHandle) → List (Option OpenHandle) → List ℕ
changed before after = numbered (changed_one before) 0 after

-- ,ACTOR,NODE of a handle that is open
abbrev pub open_words : Option OpenHandle → List ℕ
open_words None = []
open_words (Some handle) = (codes "," ++ decimal handle.actor) ++ (codes "," ++ decimal handle.node)

-- [HANDLE,ACTOR,NODE], or [HANDLE] of a handle that is closed
unfoldable pub handle_words : ℕ → Option OpenHandle → List ℕ
handle_words h handle = (codes "[" ++ decimal h) ++ (open_words handle ++ codes "]")

abbrev pub handle_at : List (Option OpenHandle) → ℕ → ℕ → List ℕ
handle_at handles at h = comma_words at ++ with_some (slice_get handles h) [] (handle_words h)

abbrev pub handles_words : List (Option OpenHandle) → List (Option OpenHandle) → List ℕ
handles_words before after = numbered (handle_at after) 0 (changed before after)

-- ---- both

-- what one tree has that another hasn't, behind other members of an object
unfoldable pub changes_words : List Inode → List (Option OpenHandle) → State → List ℕ
changes_words nodes handles after =
    codes ",\"nodes\":[" ++ (nodes_words nodes after.nodes
    ++ (codes "],\"handles\":[" ++ (handles_words handles after.handles ++ codes "]")))
