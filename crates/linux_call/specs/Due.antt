-- What is due, as C gets it (host/calls.h): a system call with its arguments, or the end.
use Rattle.std.specs.Prelude.{◌≡◌, ℕ, ◌+◌, ◌<◌, List, [], ◌∷◌, ◌++◌, Bool, true, false, if◌then◌else◌, bit_or, drop, length, take}
use Rattle.system_calls.specs.OpenFlags.{O_CLOEXEC, O_PATH}
use Rattle.dialogue.specs.Dialogue.{SystemCall, closes, knows, look_up, makes_directory, makes_link, makes_node, open_path, opens, removes, renames, stats}
use Rattle.linux_call.specs.declared.due.Due.{Due}

-- ---- a system call

-- one of this number, by this descriptor
abbrev pub IsOn : ℕ → ℕ → Due → Type 0
IsOn what fd d = (d.what ≡ what) × (d.fd ≡ fd)

-- openat2(2), openat(2), statx(2), close(2), mkdirat(2), mknodat(2), symlinkat(2), unlinkat(2), renameat2(2); or what
-- the thread knows of the kernel. The others are of other calls.
abbrev pub IsAskedBy : SystemCall → Due → Type 0
IsAskedBy (look_up dir path flags resolve) d =
    IsOn 1 dir d × (d.number ≡ bit_or (bit_or flags O_PATH) O_CLOEXEC) × (d.mode ≡ 0) × (d.resolve ≡ resolve)
IsAskedBy (open_path dir path flags mode resolve) d =
    IsOn 1 dir d × (d.number ≡ flags) × (d.mode ≡ mode) × (d.resolve ≡ resolve)
IsAskedBy (opens dir path flags mode) d = IsOn 2 dir d × (d.number ≡ flags) × (d.mode ≡ mode)
IsAskedBy (stats fd) d = IsOn 3 fd d
IsAskedBy (closes fd) d = IsOn 7 fd d
IsAskedBy (makes_directory dir name mode) d = IsOn 10 dir d × (d.mode ≡ mode)
IsAskedBy (makes_node dir name mode device) d = IsOn 11 dir d × (d.mode ≡ mode) × (d.number ≡ device)
IsAskedBy (makes_link dir name text) d = IsOn 12 dir d
IsAskedBy (removes dir name directory) d = IsOn 14 dir d × (d.number ≡ (if directory then 1 else 0))
IsAskedBy (renames from name to other flags) d = IsOn 15 from d × (d.other ≡ to) × (d.number ≡ flags)
IsAskedBy (knows known) d = IsOn 29 (if known then 1 else 0) d
IsAskedBy q d = Unit {0}

-- on a path
abbrev pub is_path_call : SystemCall → Bool
is_path_call (look_up dir path flags resolve) = true
is_path_call (open_path dir path flags mode resolve) = true
is_path_call q = false

abbrev pub is_look_call : SystemCall → Bool
is_look_call (stats fd) = true
is_look_call q = false

-- on an entry
abbrev pub is_entry_call : SystemCall → Bool
is_entry_call (opens dir path flags mode) = true
is_entry_call (makes_directory dir name mode) = true
is_entry_call (makes_node dir name mode device) = true
is_entry_call (makes_link dir name text) = true
is_entry_call (removes dir name directory) = true
is_entry_call (renames from name to other flags) = true
is_entry_call q = false

-- ---- its texts

-- a text, and a NUL behind it, lie there
abbrev pub IsLaid : List ℕ → ℕ → List ℕ → Type 0
IsLaid room at text = take (length text + 1) (drop at room) ≡ text ++ 0 ∷ []

-- the second text lies there
abbrev pub SECOND : ℕ
SECOND = 4352

abbrev pub HasText : List ℕ → List ℕ → Type 0
HasText text room = length text < length room → IsLaid room 0 text

abbrev pub HasBoth : List ℕ → List ℕ → List ℕ → Type 0
HasBoth name text room =
    length name < SECOND → SECOND + length text < length room → IsLaid room 0 name × IsLaid room SECOND text

-- unless the room is too short
abbrev pub HasTexts : SystemCall → List ℕ → Type 0
HasTexts (look_up dir path flags resolve) room = HasText path room
HasTexts (open_path dir path flags mode resolve) room = HasText path room
HasTexts (opens dir path flags mode) room = HasText path room
HasTexts (makes_directory dir name mode) room = HasText name room
HasTexts (makes_node dir name mode device) room = HasText name room
HasTexts (makes_link dir name text) room = HasBoth name text room
HasTexts (removes dir name directory) room = HasText name room
HasTexts (renames from name to other flags) room = HasBoth name other room
HasTexts q room = Unit {0}
