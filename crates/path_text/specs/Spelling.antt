-- A path text as slashes and pieces. POSIX.1, Pathname: slashes at the beginning, if any, then filenames
-- separated by slashes, and slashes at the end, if any; several slashes in a row count as one.
use Rattle.std.specs.Prelude.{◌≡◌, ◌<◌, ◌==◌, ℕ, List, [], ◌∷◌, ◌++◌, Bool, false, if◌then◌else◌, nat_lt, replicate}
use Rattle.std.specs.List.{list_any}
use Rattle.path_text.specs.declared.name.TheConstants.{SLASH}
use Rattle.path_text.specs.declared.part.Part.{Part}
use Rattle.path_text.specs.declared.part.Part.TheVariants.{Cur}
use Rattle.path_text.specs.Reading.{Reading}
use Rattle.path_text.specs.Text.{is_empty, part_of}

-- a piece, and how many slashes follow it
pub record Run : Type 0 where
  pub piece : List ℕ
  pub slashes : ℕ

-- each piece and its slashes
abbrev pub runs_text : List Run → List ℕ
runs_text [] = []
runs_text (run ∷ runs) = run.piece ++ (replicate run.slashes SLASH ++ runs_text runs)

-- a piece has a byte, and no slash
pub record IsNonSlash (piece : List ℕ) : Type 0 where
  pub some_byte : is_empty piece ≡ false
  pub no_slash : list_any (λ b. b == SLASH) piece ≡ false

-- all pieces are pieces, and between two of them stands a slash
abbrev pub AreSeparated : List Run → Type 0
AreSeparated [] = Unit {0}
AreSeparated (run ∷ []) = IsNonSlash run.piece
AreSeparated (run ∷ next ∷ runs) = IsNonSlash run.piece × (0 < run.slashes) × AreSeparated (next ∷ runs)

-- the text is so many slashes, and then these pieces with their slashes
pub record IsSpelling (text : List ℕ) (before : ℕ) (runs : List Run) : Type 0 where
  pub text_is : text ≡ replicate before SLASH ++ runs_text runs
  pub separated : AreSeparated runs

-- whether slashes follow the last piece
abbrev pub ends_in_slashes : List Run → Bool
ends_in_slashes [] = false
ends_in_slashes (run ∷ []) = nat_lt 0 run.slashes
ends_in_slashes (run ∷ next ∷ runs) = ends_in_slashes (next ∷ runs)

-- the pieces read as Cur, Up or Named, and one more Cur where slashes follow the last
abbrev pub parts_spelled : List Run → List Part
parts_spelled [] = []
parts_spelled (run ∷ []) = part_of run.piece ∷ (if nat_lt 0 run.slashes then Cur ∷ [] else [])
parts_spelled (run ∷ next ∷ runs) = part_of run.piece ∷ parts_spelled (next ∷ runs)

-- what is spelled so is absolute where slashes stand before the pieces
abbrev pub reading_spelled : ℕ → List Run → Reading
reading_spelled before runs =
    record { absolute = nat_lt 0 before; parts = parts_spelled runs; slash = ends_in_slashes runs }
