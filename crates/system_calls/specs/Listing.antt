-- What getdents64(2) tells of a directory: records that stand one behind another, each a `struct linux_dirent64`. A
-- record has eight bytes of inode, eight of an offset, two of its own length, one of a type, then the name with a
-- NUL, and what fills it up. The two bytes are in the order of x86-64 and of arm64 on Linux: the less significant
-- one comes first.
use Rattle.std.specs.Prelude.{◌≡◌, ◌≢◌, ◌+◌, ◌*◌, ◌-◌, ◌≤◌, ℕ, List, [], ◌∷◌, ◌++◌, ◌==◌, ◌⊎◌, Bool, true, false, not, ◌&&◌, if◌then◌else◌, nat_lt, nat_le, length, take, drop, slice_index, Option, Some, None, MatchBool, codes}
use Rattle.std.specs.Cmp.Lexicographic.{slice_cmp}
use Rattle.std.specs.List.{filter, position}
use Rattle.std.specs.List.Sorted.{IsPermutation, IsSorted}
use Rattle.std.specs.Option.{option_map}
use Rattle.std.specs.Ordering.{nat_cmp}
use Rattle.path_text.specs.Errno.{number_of}
use Rattle.path_text.specs.Name.{NUL, name_fault, same_bytes}
use Rattle.path_text.specs.Print.{after_slashes, printed}
use Rattle.path_text.specs.Text.{pieces}
use Rattle.path_text.specs.declared.errno.Errno.{Errno}
use Rattle.path_text.specs.declared.errno.Errno.TheVariants.{NoMemory, TooLong}
use Rattle.system_calls.specs.Errors.{EIO, ERANGE}
use Rattle.system_calls.specs.declared.listing.Sorted.{Sorted}
use Rattle.system_calls.specs.declared.records.Taken.{Taken}

-- so many bytes of a record come before its name
abbrev pub HEAD_SIZE : ℕ
HEAD_SIZE = 19

-- the length that a record tells of itself
abbrev pub size_told : List ℕ → ℕ
size_told bytes = slice_index bytes 16 + 256 * slice_index bytes 17

-- what comes before a NUL, if there is one
abbrev pub before_nul : List ℕ → Option (List ℕ)
before_nul bytes = option_map (λ size. take size bytes) (position (λ b. b == NUL) bytes)

-- the record with which bytes begin has room for a name, and ends within the bytes
abbrev pub is_whole : List ℕ → Bool
is_whole bytes = nat_lt HEAD_SIZE (size_told bytes) && nat_le (size_told bytes) (length bytes)

-- the name of the record with which bytes begin, if one does: it ends within the record
abbrev pub name_told : List ℕ → Option (List ℕ)
name_told bytes =
    if is_whole bytes then before_nul (take (size_told bytes - HEAD_SIZE) (drop HEAD_SIZE bytes)) else None

-- a directory tells itself and the one above as well, which are no entries
abbrev pub is_entry : List ℕ → Bool
is_entry name = not (same_bytes name (codes ".")) && not (same_bytes name (codes ".."))

-- why what no entry can have is not taken: ENAMETOOLONG of a name over 255 bytes, and EIO of what is no name, as
-- the kernel answers where a file system tells it such a one
abbrev pub error_of_fault : Option Errno → ℕ
error_of_fault None = 0
error_of_fault (Some TooLong) = number_of TooLong
error_of_fault (Some other) = EIO

abbrev pub name_error : List ℕ → ℕ
name_error name = if is_entry name then error_of_fault (name_fault name) else 0

-- why the record with which bytes begin isn't taken, or zero
abbrev pub error_of_name : Option (List ℕ) → ℕ
error_of_name None = EIO
error_of_name (Some name) = name_error name

abbrev pub record_error : List ℕ → ℕ
record_error bytes = error_of_name (name_told bytes)

-- bytes begin with records of these names, which all can be taken, and the rest stands behind them
abbrev pub ReadsTo : List ℕ → List (List ℕ) → List ℕ → Type 0
ReadsTo bytes [] rest = bytes ≡ rest
ReadsTo bytes (name ∷ names) rest =
    (name_told bytes ≡ Some name) × (name_error name ≡ 0) × ReadsTo (drop (size_told bytes) bytes) names rest

-- the entries among the names, with a slash before each
abbrev pub entries_text : List (List ℕ) → List ℕ
entries_text names = after_slashes (filter is_entry names)

-- the next record is an entry's, for which so much room is too little
pub record HasNoRoom (rest : List ℕ) (room : ℕ) : Type 0 where
  pub name : List ℕ
  pub told : name_told rest ≡ Some name
  pub entry : is_entry name ≡ true
  pub fault : name_fault name ≡ None
  pub short : room ≤ length name

-- why no more was taken: the room was full, there was no more, or what is next has an error
abbrev pub Stops : List ℕ → ℕ → Bool → ℕ → Type 0
Stops rest room true error = (error ≡ 0) × HasNoRoom rest room
Stops rest room false error = ((error ≡ 0) × (rest ≡ [])) ⊎ ((error ≢ 0) × (rest ≢ []) × (error ≡ record_error rest))

-- the names of the first records lie at the room's beginning, and the other bytes there stayed
pub record IsTaken (records old new : List ℕ) (taken : Taken) : Type 0 where
  pub names : List (List ℕ)
  pub rest : List ℕ
  pub read : ReadsTo records names rest
  pub used : taken.used ≡ length (entries_text names)
  pub within : taken.used ≤ length old
  pub laid : new ≡ entries_text names ++ drop taken.used old
  pub stop : Stops rest (length old - taken.used) taken.full taken.error

-- the same names, each as often, in the order of their bytes
pub record AreInOrder (names sorted : List (List ℕ)) : Type 0 where
  pub same : IsPermutation names sorted
  pub order : IsSorted (slice_cmp nat_cmp) sorted

-- the pieces of the text lie sorted at the room's beginning, as a path
pub record IsLaidSorted (text old new : List ℕ) (sorted : Sorted) : Type 0 where
  pub names : List (List ℕ)
  pub order : AreInOrder (pieces text) names
  pub error : sorted.error ≡ 0
  pub size : sorted.length ≡ length (printed names)
  pub laid : new ≡ printed names ++ drop (length (printed names)) old

-- nothing was laid, and why
pub record IsRefused (old new : List ℕ) (sorted : Sorted) (number : ℕ) : Type 0 where
  pub error : sorted.error ≡ number
  pub size : sorted.length ≡ 0
  pub same : new ≡ old

-- sorted, if there is room for a byte more than the text has; and if there is memory
abbrev pub Sorts : List ℕ → List ℕ → List ℕ → Sorted → Type 0
Sorts text old new sorted =
    MatchBool (nat_le (length old) (length text)) (IsRefused old new sorted ERANGE)
    (IsLaidSorted text old new sorted ⊎ IsRefused old new sorted (number_of NoMemory))
