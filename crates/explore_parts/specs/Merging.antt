-- Lines of parts that are read, and what is written of them: what `inroot explore --merge` does.
use Rattle.std.specs.Prelude.{⊤, ◌≡◌, ◌≢◌, ◌==◌, ℕ, List, [], ◌∷◌, ◌++◌, Bool, not, length, filter, Option, Result, MatchResult, IsSomeAnd, IfSome, string_bytes}
use Rattle.std.specs.Io.KnownBytes.{Keeps, Appends}
use Rattle.std.specs.List.{AllZip, slice_split}
use Rattle.serde_json.specs.Data.{Data}
use Rattle.serde_json.specs.Read.{read}
use Rattle.outcome_text.specs.declared.merging.MergeFault.{MergeFault}
use Rattle.outcome_text.specs.declared.merging.MergeFault.TheVariants.{WriteFailed}
use Rattle.outcome_text.specs.declared.part.Part.{Part}
use Rattle.outcome_text.specs.declared.property.Property.{Property}
use Rattle.outcome_text.specs.Merge.{IsWhole}
use Rattle.explore_parts.specs.declared.merge.Parts.{Parts}
use Rattle.explore_parts.specs.PartRead.{SaysProperties, SaysQuestion, LineSays}

-- the first line says the properties of its question
abbrev pub FirstAsks : List (List ℕ) → List Property → Type 0
FirstAsks [] properties = ⊤
FirstAsks (line ∷ lines) properties = IsSomeAnd (read line) (λ value. SaysProperties value properties)

-- each line says the part at its place, and all are of one question
abbrev pub LinesSay : List ℕ → List Property → List (List ℕ) → List Part → Type 0
LinesSay question properties lines parts = AllZip (LineSays question) lines parts × FirstAsks lines properties

abbrev pub is_line : List ℕ → Bool
is_line line = not (length line == 0)

-- the lines of a text but for the empty ones
abbrev pub lines_in : List ℕ → List (List ℕ)
lines_in text = filter is_line (slice_split (λ b. b == 10) text)

-- ---- for private clauses

-- the question is that of the value and, unless no part was there, the one before
pub record Asks (old new : Parts) (value : Data) : Type 0 where
  pub same : new.parts.items ≡ old.parts.items
  pub asks : SaysQuestion value (string_bytes new.question)
  pub first : old.parts.items ≡ [] → SaysProperties value new.properties.items
  pub question : old.parts.items ≢ [] → string_bytes new.question ≡ string_bytes old.question
  pub properties : old.parts.items ≢ [] → new.properties.items ≡ old.properties.items

-- there is a part more, of the same question unless it is the first
pub record Adds (old new : Parts) (line : List ℕ) : Type 0 where
  pub part : Part
  pub added : new.parts.items ≡ old.parts.items ++ part ∷ []
  pub says : LineSays (string_bytes new.question) line part
  pub first : old.parts.items ≡ [] → FirstAsks (line ∷ []) new.properties.items
  pub question : old.parts.items ≢ [] → string_bytes new.question ≡ string_bytes old.question
  pub properties : old.parts.items ≢ [] → new.properties.items ≡ old.properties.items

-- ---- the whole

-- what all the parts make that the lines say
pub record IsMerged (input : List ℕ) (holds : Bool) (text : List ℕ) : Type 0 where
  pub question : List ℕ
  pub properties : List Property
  pub parts : List Part
  pub say : LinesSay question properties (lines_in input) parts
  pub whole : IsWhole parts properties holds text

-- The text of all that the lines say was written, and nothing else, and the answer is whether no property fails; or,
-- but for a writer that failed, nothing was written. `known` is what the reader had left.
abbrev pub IsMerge : Option (List ℕ) → Option (List ℕ) → Option (List ℕ) → Result Bool MergeFault → Type 0
IsMerge known old new result = MatchResult result
    (λ holds. IfSome known (λ input. (text : List ℕ) × (IsMerged input holds text × Appends old new text)))
    (λ fault. fault ≢ WriteFailed → Keeps old new)
