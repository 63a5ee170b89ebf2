-- The names of directory entries (POSIX.1, Filename; path_resolution(7)).
use Rattle.std.specs.Prelude.{ℕ, List, [], Bool, not, ◌&&◌, ◌==◌, if◌then◌else◌, nat_lt, nat_eq, length, Option, Some, None, is_none, codes}
use Rattle.std.specs.List.{list_any}
use Rattle.std.specs.Cmp.Lexicographic.{pointwise}
use Rattle.path_text.specs.declared.errno.Errno.{Errno}
use Rattle.path_text.specs.declared.errno.Errno.TheVariants.{Invalid, TooLong}
use Rattle.path_text.specs.declared.name.TheConstants.{SLASH, NAME_MAX}

-- the byte NUL
abbrev pub NUL : ℕ
NUL = 0

-- the two texts are the same bytes
abbrev pub same_bytes : List ℕ → List ℕ → Bool
same_bytes = pointwise nat_eq

-- what can stand between two slashes as a name, of any length
abbrev pub is_component : List ℕ → Bool
is_component bytes =
    not (same_bytes bytes []) && not (same_bytes bytes (codes ".")) && not (same_bytes bytes (codes ".."))
    && not (list_any (λ b. b == SLASH) bytes) && not (list_any (λ b. b == NUL) bytes)

-- why the bytes are no name, where they are none: what is no component comes before what is too long
abbrev pub name_fault : List ℕ → Option Errno
name_fault bytes =
    if not (is_component bytes) then Some Invalid
    else (if nat_lt NAME_MAX (length bytes) then Some TooLong else None)

abbrev pub is_name : List ℕ → Bool
is_name bytes = is_none (name_fault bytes)

-- why the bytes are no part that names an entry, where they are none
abbrev pub component_fault : List ℕ → Option Errno
component_fault bytes = if is_component bytes then None else Some Invalid
