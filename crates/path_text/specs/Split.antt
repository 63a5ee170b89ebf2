-- A path taken apart into a directory and the name of an entry in it, as the calls on one entry take
-- it (POSIX.1, Path Prefix; mkdir(2), rename(2) and unlink(2) on a last part that is no name).
use Rattle.std.specs.Prelude.{List, Bool, true, false, ◌&&◌, if◌then◌else◌, nat_lt, ◌-◌, length, take, slice_get, Option, Some, Result, Ok, Err}
use Rattle.path_text.specs.declared.errno.Errno.{Errno}
use Rattle.path_text.specs.declared.errno.Errno.TheVariants.{Invalid, NotDir, TooLong}
use Rattle.path_text.specs.declared.name.TheConstants.{NAME_MAX}
use Rattle.path_text.specs.declared.part.Part.{Part}
use Rattle.path_text.specs.declared.part.Part.TheVariants.{Named}
use Rattle.path_text.specs.declared.path.Rule.{Rule}
use Rattle.path_text.specs.declared.path.Rule.TheVariants.{Drop, Refuse}
use Rattle.path_text.specs.declared.path.Split.{Split}
use Rattle.path_text.specs.Reading.{Reading}

-- all parts but the last
abbrev pub before_last : List Part → List Part
before_last ps = take (length ps - 1) ps

abbrev pub last_part : List Part → Option Part
last_part ps = slice_get ps (length ps - 1)

-- the parts of a path without the Cur that a slash at its end gave
abbrev pub parts_without_slash : Reading → List Part
parts_without_slash path = if path.slash then before_last path.parts else path.parts

abbrev pub refuses_slash : Rule → Bool
refuses_slash Drop = false
refuses_slash Refuse = true

-- the directory of the parts before a path's name
abbrev pub dir_of : Reading → Reading
dir_of path = record { absolute = path.absolute; parts = before_last (parts_without_slash path); slash = false }

-- a path with this last part, taken apart
abbrev pub split_at : Reading → Rule → Option Part → Result Split Errno
split_at path rule (Some (Named bytes)) =
    if path.slash && refuses_slash rule then Err NotDir
    else (if nat_lt NAME_MAX (length bytes) then Err TooLong
    else Ok (record { dir = dir_of path; name = bytes; slash = path.slash }))
split_at path rule other = Err Invalid

-- the directory and the name of a path, or why it has none: no name at its end (EINVAL), a slash at its end that is
-- refused (ENOTDIR), a name that is too long (ENAMETOOLONG)
abbrev pub split_of : Reading → Rule → Result Split Errno
split_of path rule = split_at path rule (last_part (parts_without_slash path))
