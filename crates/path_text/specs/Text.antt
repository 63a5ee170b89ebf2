-- The parts of a path text (POSIX.1, Pathname Resolution; path_resolution(7)).
use Rattle.std.specs.Prelude.{ℕ, List, [], ◌∷◌, ◌++◌, Bool, true, false, not, ◌&&◌, ◌==◌, if◌then◌else◌, nat_lt, length, map, Option, Some, None, codes}
use Rattle.std.specs.List.{filter, list_any, position_or_len, slice_split}
use Rattle.path_text.specs.declared.errno.Errno.{Errno}
use Rattle.path_text.specs.declared.errno.Errno.TheVariants.{NotFound, Invalid, TooLong}
use Rattle.path_text.specs.declared.name.TheConstants.{SLASH}
use Rattle.path_text.specs.declared.part.Part.{Part}
use Rattle.path_text.specs.declared.part.Part.TheVariants.{Cur, Up, Named}
use Rattle.path_text.specs.declared.path.TheConstants.{TEXT_MAX}
use Rattle.path_text.specs.Name.{NUL, same_bytes}
use Rattle.path_text.specs.Reading.{Reading}

abbrev pub is_empty : List ℕ → Bool
is_empty [] = true
is_empty (b ∷ bs) = false

-- why a text is no path, where it is none: an empty one (ENOENT), one with a NUL (EINVAL), one that is too long
-- (ENAMETOOLONG)
abbrev pub text_fault : List ℕ → Option Errno
text_fault text =
    if is_empty text then Some NotFound
    else (if list_any (λ b. b == NUL) text then Some Invalid
    else (if nat_lt TEXT_MAX (length text) then Some TooLong else None))

-- what stands before, between and after the slashes of a text, the empty pieces too
abbrev pub between_slashes : List ℕ → List (List ℕ)
between_slashes text = slice_split (λ b. b == SLASH) text

-- the pieces of a text that aren't empty
abbrev pub pieces : List ℕ → List (List ℕ)
pieces text = filter (λ p. not (is_empty p)) (between_slashes text)

-- what can stand between two slashes of a text without NUL
abbrev pub is_piece : List ℕ → Bool
is_piece piece = not (is_empty piece) && not (list_any (λ b. b == SLASH) piece) && not (list_any (λ b. b == NUL) piece)

-- `.`, `..`, or else a name
abbrev pub part_of : List ℕ → Part
part_of piece =
    if same_bytes piece (codes ".") then Cur
    else (if same_bytes piece (codes "..") then Up else Named piece)

-- how many bytes the first name of a text has: those before its first slash (path_resolution(7))
abbrev pub name_size : List ℕ → ℕ
name_size text = position_or_len (λ b. b == SLASH) text

abbrev pub begins_with_slash : List ℕ → Bool
begins_with_slash [] = false
begins_with_slash (b ∷ bs) = b == SLASH

abbrev pub ends_with_slash : List ℕ → Bool
ends_with_slash [] = false
ends_with_slash (b ∷ []) = b == SLASH
ends_with_slash (b ∷ c ∷ bs) = ends_with_slash (c ∷ bs)

-- whether the text has a piece, and a slash at its end
abbrev pub has_final_slash : List ℕ → Bool
has_final_slash text = list_any (λ p. not (is_empty p)) (between_slashes text) && ends_with_slash text

-- the parts of a text: its pieces in order, and one more Cur for a slash at its end
abbrev pub parts_of : List ℕ → List Part
parts_of text = map part_of (pieces text) ++ (if has_final_slash text then Cur ∷ [] else [])

-- what a text without fault is read as
abbrev pub reading_of : List ℕ → Reading
reading_of text = record { absolute = begins_with_slash text; parts = parts_of text; slash = has_final_slash text }
