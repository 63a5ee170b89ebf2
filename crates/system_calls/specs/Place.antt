-- Where an object stands below a root, in what the kernel tells: the path that a link of /proc/pid/fd leads to
-- (proc(5)).
use Rattle.std.specs.Prelude.{ℕ, List, [], ◌∷◌, ◌==◌, Bool, not, ◌&&◌, ◌||◌, if◌then◌else◌, nat_lt, nat_eq, length, take, drop, Option, Some, None, codes}
use Rattle.std.specs.List.{list_any, ends_with}
use Rattle.path_text.specs.Name.{same_bytes}
use Rattle.path_text.specs.Text.{begins_with_slash}
use Rattle.path_text.specs.declared.name.TheConstants.{SLASH}
use Rattle.path_text.specs.declared.path.TheConstants.{TEXT_MAX}

-- what comes behind a directory's path: nothing of the directory itself, which stands at a slash, or what a slash
-- sets off
abbrev pub behind : List ℕ → Option (List ℕ)
behind [] = Some (SLASH ∷ [])
behind (byte ∷ rest) = if byte == SLASH then Some (byte ∷ rest) else None

-- A path's place below a directory. Both begin with a slash: of what has no path from the thread's root the kernel
-- writes `(unreachable)` first, or a word as `socket:[7]`. The path of the root that all paths begin at is a slash
-- alone.
abbrev pub place_below : List ℕ → List ℕ → Option (List ℕ)
place_below root path =
    if not (begins_with_slash root && begins_with_slash path) then None
    else (if same_bytes root (SLASH ∷ []) then Some path
    else (if same_bytes (take (length root) path) root then behind (drop (length root) path) else None))

-- The same by the texts of links. Nothing is told by what has more than 4,095 bytes: readlink(2) may have cut it off.
abbrev pub place_told : List ℕ → List ℕ → Option (List ℕ)
place_told root path = if nat_lt TEXT_MAX (length path) then None else place_below root path

-- the text ends as the kernel writes of what was removed (proc(5)); a name may end so, too
abbrev pub ends_as_gone : List ℕ → Bool
ends_as_gone text = ends_with nat_eq text (codes " (deleted)")

-- what stands behind a text's last slash
abbrev pub last_part : List ℕ → List ℕ
last_part [] = []
last_part (byte ∷ bytes) = if list_any (λ b. b == SLASH) (byte ∷ bytes) then last_part bytes else byte ∷ bytes

-- What is read again of an object says that it has a name still, if it was found at the place that was told: it
-- doesn't end as of what was removed, or its last name is that of the place.
abbrev pub is_named : List ℕ → List ℕ → Bool
is_named again place = not (ends_as_gone again) || same_bytes (last_part again) (last_part place)
