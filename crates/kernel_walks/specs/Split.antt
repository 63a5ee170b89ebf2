-- Where a path's last name stands in it: what comes before it in the path is the path of its
-- directory. Calls on one entry take the same two (root_ops, `split_of` of path_text).
use Rattle.std.specs.Prelude.{◌≡◌, ℕ, List, Bool, false, if◌then◌else◌, nat_lt, length, take, drop, Option, Some, None, MatchOption, MatchResult, ◌++◌, ◌==◌}
use Rattle.std.specs.List.{list_any}
use Rattle.path_text.specs.Parts.{IsSeparated}
use Rattle.path_text.specs.Errno.{number_of}
use Rattle.path_text.specs.Reading.{Reading}
use Rattle.path_text.specs.Split.{parts_without_slash, split_of}
use Rattle.path_text.specs.Text.{is_empty, reading_of, text_fault}
use Rattle.path_text.specs.declared.errno.Errno.{Errno}
use Rattle.path_text.specs.declared.errno.Errno.TheVariants.{Invalid, NotDir, TooLong}
use Rattle.path_text.specs.declared.name.TheConstants.{NAME_MAX, SLASH}
use Rattle.path_text.specs.declared.part.Part.{Part}
use Rattle.path_text.specs.declared.part.Part.TheVariants.{Named}
use Rattle.path_text.specs.declared.path.Rule.{Rule}
use Rattle.path_text.specs.declared.path.Rule.TheVariants.{Drop, Refuse}
use Rattle.path_text.specs.declared.path.Split.{Split}
use Rattle.kernel_walks.specs.declared.last_name.Parted.{Parted}

-- the text's last piece begins after so many bytes
pub record IsCutAt (text : List ℕ) (at : ℕ) : Type 0 where
  pub first : List ℕ
  pub piece : List ℕ
  pub cut : text ≡ first ++ piece
  pub place : at ≡ length first
  pub apart : IsSeparated first
  pub some : is_empty piece ≡ false
  pub plain : list_any (λ b. b == SLASH) piece ≡ false

-- what is done with a slash at the end of the path
abbrev pub rule_of : Bool → Rule
rule_of takes_slash = if takes_slash then Drop else Refuse

-- why bytes between slashes are no last name of a path, where they are none
abbrev pub piece_fault : Part → Bool → Option Errno
piece_fault (Named bytes) refuses =
    if refuses then Some NotDir else (if nat_lt NAME_MAX (length bytes) then Some TooLong else None)
piece_fault other refuses = Some Invalid

-- the path as that of a directory, whether a slash stands at its end or not
abbrev pub without_slash : Reading → Reading
without_slash path = record { absolute = path.absolute; parts = parts_without_slash path; slash = false }

-- what stands before the name is the directory's path, and what begins there is the name
pub record IsPartedAt (path : List ℕ) (split : Split) (parted : Parted) : Type 0 where
  pub dir : without_slash (reading_of (take parted.name path)) ≡ split.dir
  pub name : take parted.length (drop parted.name path) ≡ split.name
  pub slash : parted.slash ≡ split.slash
  pub error : parted.error ≡ 0

-- no name is told, and why
abbrev pub refused : Errno → Parted
refused error = record { name = 0; length = 0; slash = false; error = number_of error }

-- the path's directory and its last name, or why there are none
abbrev pub IsParted : List ℕ → Bool → Parted → Type 0
IsParted path takes_slash parted =
    MatchOption (text_fault path)
    (MatchResult (split_of (reading_of path) (rule_of takes_slash))
    (λ split. IsPartedAt path split parted) (λ error. parted ≡ refused error))
    (λ fault. parted ≡ refused fault)
