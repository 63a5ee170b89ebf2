-- What holds of listings.
use Rattle.std.specs.Prelude.{◌≡◌, ◌≢◌, ◌≤◌, ◌⊎◌, ℕ, ◌+◌, ◌*◌, [], length, Option, Some, None}
use Rattle.dialogue.specs.Holds.{EachHolds}
use Rattle.list_directory.specs.Reading.{at_first, parts}
use Rattle.list_directory.specs.Seen.{AreAll, HaveFailed, IsOpen, IsUnopened, Seen, nothing, used_by, watch}
use Rattle.list_directory.specs.declared.reading.Came.{Came}
use Rattle.list_directory.specs.declared.reading.Came.TheVariants.{Listed, Failed, Again}
use Rattle.list_directory.specs.declared.reading.Listing.{Listing}

-- one question for each signal, one for each read; it is opened, closed and sorted
abbrev pub AreFew : Seen → Type 0
AreFew s = s.asked ≤ s.signals + length s.reads + 3

-- All was read, as far as there was room. The names were sorted, after the directory was closed.
pub record IsListed (s : Seen) (size : ℕ) : Type 0 where
  pub held : s.held ≡ []
  pub all : AreAll s.reads
  pub used : size ≡ used_by s.reads
  pub sorted : s.sorted ≡ Some 0
  pub few : AreFew s

-- It could not be opened by this error, or a read or the sort failed by it.
pub record IsWhy (s : Seen) (error : ℕ) : Type 0 where
  pub held : s.held ≡ []
  pub some : error ≢ 0
  pub why : ((s.opened ≡ Some error) × (s.reads ≡ []))
      ⊎ (HaveFailed s.reads error ⊎ (AreAll s.reads × (s.sorted ≡ Some error)))
  pub few : AreFew s

abbrev pub Stands : Seen → Option ℕ → Type 0
Stands s None = IsUnopened s
Stands s (Some directory) = IsOpen s directory

-- between two parts
pub record IsBetween (s : Seen) (l : Listing) : Type 0 where
  pub stands : Stands s l.directory
  pub used : l.used ≡ used_by s.reads

abbrev pub Ends : Seen → Came → Type 0
Ends s (Listed used) = IsListed s used
Ends s (Failed error) = IsWhy s error
Ends s (Again l) = IsBetween s l

-- four questions at most for each part
abbrev pub ListingsHold : Type 0
ListingsHold = (n : ℕ) → EachHolds watch (4 * n) nothing (parts n at_first) Ends
