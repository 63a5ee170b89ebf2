-- What a value of JSON says: of a part, and of the properties of the question that it answers.
use Rattle.std.specs.Prelude.{⊤, ◌≡◌, ◌<◌, ◌≤◌, ◌^◌, ℕ, List, [], ◌∷◌, ◌++◌, length, true, false, codes, Some, Result, MatchResult, IsSomeAnd}
use Rattle.std.specs.Global.{Vec}
use Rattle.std.specs.List.{All}
use Rattle.std.specs.Str.{chars}
use Rattle.serde_json.specs.Data.{Data, null, boolean, number, string, array, object, unsigned, Items, no_items, item}
use Rattle.serde_json.specs.Find.{get, as_str}
use Rattle.serde_json.specs.Read.{read}
use Rattle.serde_json.specs.Written.{has_float, compact_text}
use Rattle.outcome_text.specs.declared.part.Part.{Part}
use Rattle.outcome_text.specs.declared.property.Property.{Property}
use Rattle.outcome_text.specs.declared.survey.Told.{Told}
use Rattle.outcome_text.specs.Property.{is_property, rule_word}
use Rattle.outcome_text.specs.Schedule.{schedule_words}
use Rattle.outcome_text.specs.Survey.{block_of}
use Rattle.explore_parts.specs.declared.part_read.PartFault.{PartFault}
use Rattle.explore_parts.specs.declared.part_read.PartFault.TheVariants.{Shape}
use Rattle.explore_parts.specs.Options.{IsUnsaid}
use Rattle.explore_parts.specs.Seal.{IsSealed}

-- ---- values

abbrev pub SaysNumber : Data → ℕ → Type 0
SaysNumber d n = d ≡ number (unsigned n)

abbrev pub SaysActor : Data → ℕ → Type 0
SaysActor d actor = SaysNumber d actor × (actor < 2 ^ 32)

-- each character has the number of a byte
abbrev pub SaysText : Data → List ℕ → Type 0
SaysText d text = IsSomeAnd (as_str d) (λ said. chars said ≡ text) × All (λ byte. byte < 2 ^ 8) text

-- each item says the element at its place, and there are as many
abbrev pub ItemsSay : {A : Type 0} → (Data → A → Type 0) → Items → List A → Type 0
ItemsSay Says no_items [] = ⊤
ItemsSay Says no_items (x ∷ xs) = ⊥
ItemsSay Says (item d ds) [] = ⊥
ItemsSay Says (item d ds) (x ∷ xs) = Says d x × ItemsSay Says ds xs

abbrev pub SaysList : {A : Type 0} → (Data → A → Type 0) → Data → List A → Type 0
SaysList Says (array ds) xs = ItemsSay Says ds xs
SaysList Says null xs = ⊥
SaysList Says (boolean b) xs = ⊥
SaysList Says (number n) xs = ⊥
SaysList Says (string s) xs = ⊥
SaysList Says (object ms) xs = ⊥

abbrev pub SaysActors : Data → Vec ℕ → Type 0
SaysActors d actors = SaysList SaysActor d actors.items

-- what stands under a key says it
abbrev pub Under : {A : Type 0} → List ℕ → (Data → A → Type 0) → Data → A → Type 0
Under key Says d x = IsSomeAnd (get key d) (λ e. Says e x)

-- ---- an outcome: its schedule is that of its least list

pub record SaysTold (d : Data) (told : Told) : Type 0 where
  pub lists : Under (codes "schedules") SaysNumber d told.lists
  pub cuts : Under (codes "cuts") SaysNumber d told.cuts
  pub changes : Under (codes "changes") SaysNumber d told.changes
  pub least : Under (codes "least") SaysActors d told.turns
  pub scheduled : told.schedule ≡ schedule_words told.turns.items
  pub block : Under (codes "block") SaysText d (block_of told)
  pub look : Under (codes "look") SaysText d told.look
  pub lines : Under (codes "lines") SaysText d told.lines

-- ---- a part: of no more turns than it begins with is it said who might have had them

pub record SaysPart (d : Data) (part : Part) : Type 0 where
  pub begin : Under (codes "begin") SaysActors d part.begin
  pub might : Under (codes "might") (SaysList SaysActors) d part.might.items
  pub within : length part.might.items ≤ length part.begin.items
  pub lists : Under (codes "schedules") SaysNumber d part.lists
  pub turns : Under (codes "turns") SaysNumber d part.turns
  pub all : Under (codes "outcomes") (SaysList SaysTold) d part.all.items

-- ---- the properties of its question

abbrev pub SaysProperty : Data → Property → Type 0
SaysProperty d property = (as_str d ≡ Some (rule_word property.rule ++ property.text))
    × (is_property true property.text ≡ true)

abbrev pub SaysProperties : Data → List Property → Type 0
SaysProperties d properties = Under (codes "part of") (Under (codes "properties") (SaysList SaysProperty)) d properties

-- the question's text, which is known where it has no float
abbrev pub SaysQuestion : Data → List ℕ → Type 0
SaysQuestion d text = IsSomeAnd (get (codes "part of") d) (λ asked. has_float asked ≡ false → text ≡ compact_text asked)

-- ---- a line ends with its digest, and says a part of the question with that text
pub record LineSays (question line : List ℕ) (part : Part) : Type 0 where
  pub sealed : IsSealed line
  pub value : Data
  pub is : read line ≡ Some value
  pub asks : SaysQuestion value question
  pub says : SaysPart value part

-- ---- a reading: what the value says; where it has another shape it says nothing of the kind

abbrev pub IsReading : {A : Type 0} → (Data → A → Type 0) → Data → Result A PartFault → Type 0
IsReading Says d result = MatchResult result (Says d) (λ fault. fault ≡ Shape → IsUnsaid (Says d))
