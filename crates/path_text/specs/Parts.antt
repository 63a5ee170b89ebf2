-- Parts whose bytes lie in one buffer. Each has its place there, and the first part's place comes last.
use Rattle.std.specs.Prelude.{◌≡◌, ◌≤◌, ◌-◌, ℕ, List, ◌++◌, Bool, true, ◌||◌, if◌then◌else◌, length, take, drop, map, reverse, All, false, ◌==◌, ◌∷◌, []}
use Rattle.std.specs.List.{list_any}
use Rattle.path_text.specs.declared.part.Part.{Part}
use Rattle.path_text.specs.declared.part.Part.TheVariants.{Cur}
use Rattle.path_text.specs.declared.places.Span.{Span}
use Rattle.path_text.specs.Text.{is_empty, is_piece, part_of, ends_with_slash, pieces}
use Rattle.path_text.specs.declared.name.TheConstants.{SLASH}

-- the bytes at a place
abbrev pub bytes_at : List ℕ → Span → List ℕ
bytes_at buffer span = take (span.end - span.start) (drop span.start buffer)

-- what a part's bytes can be: a piece of a text, or none
abbrev pub is_said : List ℕ → Bool
is_said bytes = is_empty bytes || is_piece bytes

-- no bytes stand for the Cur that a slash at the end of a text gives
abbrev pub part_said : List ℕ → Part
part_said bytes = if is_empty bytes then Cur else part_of bytes

-- the parts at these places
abbrev pub parts_at : List ℕ → List Span → List Part
parts_at buffer spans = reverse (map (λ span. part_said (bytes_at buffer span)) spans)

-- the place lies in the buffer, and a part is there
pub record IsPlace (buffer : List ℕ) (span : Span) : Type 0 where
  pub ordered : span.start ≤ span.end
  pub within : span.end ≤ length buffer
  pub said : is_said (bytes_at buffer span) ≡ true

-- each of them is such a place
abbrev pub ArePlaces : List ℕ → List Span → Type 0
ArePlaces buffer spans = All (λ span. IsPlace buffer span) spans

-- the text is these bytes, and others after them
abbrev pub BeginsWith : List ℕ → List ℕ → Type 0
BeginsWith text first = (more : List ℕ) × (text ≡ first ++ more)

-- a piece that comes after this text stands alone
abbrev pub IsSeparated : List ℕ → Type 0
IsSeparated text = (is_empty text || ends_with_slash text) ≡ true

-- the text is this beginning, and then its last piece
pub record IsBeforePiece (text first : List ℕ) : Type 0 where
  pub piece : List ℕ
  pub cut : text ≡ first ++ piece
  pub apart : IsSeparated first
  pub some : is_empty piece ≡ false
  pub plain : list_any (λ b. b == SLASH) piece ≡ false
  pub pieces : pieces text ≡ pieces first ++ piece ∷ []
