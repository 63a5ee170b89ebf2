-- The first pieces of a path (path_resolution(7)): what stands between slashes is a piece.
use Rattle.std.specs.Prelude.{◌≡◌, ◌≢◌, ◌<◌, ◌≤◌, ℕ, List, ◌⊎◌, length, take}
use Rattle.std.specs.List.{slice_index}
use Rattle.path_text.specs.Parts.{IsSeparated}
use Rattle.path_text.specs.Text.{pieces}
use Rattle.path_text.specs.declared.name.TheConstants.{SLASH}

-- all bytes, of a path that has no more pieces
pub record IsWhole (text : List ℕ) (count at : ℕ) : Type 0 where
  pub all : at ≡ length text
  pub few : length (pieces text) ≤ count

-- so many bytes, which have so many pieces; another one begins behind them
pub record IsPart (text : List ℕ) (count at : ℕ) : Type 0 where
  pub within : at < length text
  pub exact : length (pieces (take at text)) ≡ count
  pub apart : IsSeparated (take at text)
  pub behind : slice_index text at ≢ SLASH

abbrev pub IsBeginning : List ℕ → ℕ → ℕ → Type 0
IsBeginning text count at = IsWhole text count at ⊎ IsPart text count at
