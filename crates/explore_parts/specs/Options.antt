-- What is asked, by the texts of a command line's options.
use Rattle.std.specs.Prelude.{⊤, ◌≡◌, ◌<◌, ◌≤◌, ◌^◌, ◌⊎◌, ℕ, List, [], ◌∷◌, ◌++◌, Bool, true, false, length, map, decimal, Option, Some, None}
use Rattle.std.specs.Borrow.{Bor}
use Rattle.std.specs.List.{list_all}
use Rattle.outcome_text.specs.declared.asked.OptionFault.{OptionFault}
use Rattle.outcome_text.specs.declared.asked.OptionFault.TheVariants.{Actor, Cuts, Begin, States, Memory, Text, NoMemory}
use Rattle.outcome_text.specs.declared.asked.Options.{Options}
use Rattle.explore_parts.specs.declared.asked.TheConstants.{MEMORY_MAX}
use Rattle.explore_parts.specs.declared.options.TheConstants.{CUTS_MAX, STATES_MAX, STATES}
use Rattle.outcome_text.specs.declared.property.Property.{Property}
use Rattle.outcome_text.specs.declared.property.Rule.{Rule}
use Rattle.outcome_text.specs.declared.property.Rule.TheVariants.{When, Never, Always}
use Rattle.explore_parts.specs.declared.asked.Asked.{Asked}
use Rattle.explore_parts.specs.declared.asked.TheConstants.{TURNS_MAX}
use Rattle.scripts.specs.declared.turns.Turns.{Turns}
use Rattle.scripts.specs.Turns.{SaysTurns, turns_of}
use Rattle.outcome_text.specs.Asked.{texts_in}
use Rattle.outcome_text.specs.Property.{is_property}

-- ---- what texts say

-- the text is the number's decimal digits
abbrev pub Says : List ℕ → ℕ → Type 0
Says text n = (n < 2 ^ 32) × (text ≡ decimal n)

-- each text is that of its number
abbrev pub AllSay : List (List ℕ) → List ℕ → Type 0
AllSay [] [] = ⊤
AllSay [] (n ∷ ns) = ⊥
AllSay (text ∷ texts) [] = ⊥
AllSay (text ∷ texts) (n ∷ ns) = Says text n × AllSay texts ns

-- no bound, or the one that the text says
abbrev pub SaysCuts : Option (Bor (List ℕ)) → Option ℕ → Type 0
SaysCuts None None = ⊤
SaysCuts None (Some n) = ⊥
SaysCuts (Some text) None = ⊥
SaysCuts (Some text) (Some n) = (text.now ≡ decimal n) × (n ≤ CUTS_MAX)

-- no turns where there is no text, or those that it says, at most 100,000
abbrev pub SaysBegin : Option (Bor (List ℕ)) → List ℕ → Type 0
SaysBegin None begin = begin ≡ []
SaysBegin (Some text) begin =
    (turns : List Turns) × (SaysTurns text.now turns × (begin ≡ turns_of turns) × (length begin ≤ TURNS_MAX))

-- the text says no turns, or more than that
abbrev pub IsNoBegin : Option (Bor (List ℕ)) → Type 0
IsNoBegin None = ⊥
IsNoBegin (Some text) = ((turns : List Turns) → SaysTurns text.now turns → ⊥)
    ⊎ ((turns : List Turns) × (SaysTurns text.now turns × (TURNS_MAX < length (turns_of turns))))

-- no limit of megabytes, or the one that the text says
abbrev pub SaysMemory : Option (Bor (List ℕ)) → Option ℕ → Type 0
SaysMemory None None = ⊤
SaysMemory None (Some n) = ⊥
SaysMemory (Some text) None = ⊥
SaysMemory (Some text) (Some n) = (text.now ≡ decimal n) × (1 ≤ n) × (n ≤ MEMORY_MAX)

-- the usual number, or the one that the text says
abbrev pub SaysMost : Option (Bor (List ℕ)) → ℕ → Type 0
SaysMost None n = n ≡ STATES
SaysMost (Some text) n = (text.now ≡ decimal n) × (1 ≤ n) × (n ≤ STATES_MAX)

abbrev pub are_properties : Bool → List (List ℕ) → Bool
are_properties outside texts = list_all (is_property outside) texts

abbrev pub properties_by : Rule → List (List ℕ) → List Property
properties_by rule texts = map (λ text. record { rule = rule; text = text }) texts

-- ---- what the options say

abbrev pub SaysActors : Options → List ℕ → Type 0
SaysActors options numbers = AllSay (texts_in options.actors.now) numbers

abbrev pub property_texts : Options → List (List ℕ)
property_texts options = texts_in options.when.now ++ (texts_in options.never.now ++ texts_in options.always.now)

-- the properties by `when`, then those by `never`, then those by `always`
abbrev pub properties_asked : Options → List Property
properties_asked options =
    properties_by When (texts_in options.when.now)
    ++ (properties_by Never (texts_in options.never.now) ++ properties_by Always (texts_in options.always.now))

-- what is asked is what the options say
pub record AreAsked (options : Options) (asked : Asked) : Type 0 where
  pub named : SaysActors options asked.named.items
  pub cuts : SaysCuts options.cuts asked.limits.scope.cuts
  pub begin : SaysBegin options.begin asked.limits.scope.begin.items
  pub states : SaysMost options.states asked.limits.states
  pub turns : asked.limits.turns ≡ TURNS_MAX
  pub memory : SaysMemory options.memory asked.memory
  pub outside : asked.outside ≡ options.outside
  pub properties : asked.properties.items ≡ properties_asked options
  pub texts : are_properties options.outside (property_texts options) ≡ true

-- ---- which option is refused: the first in this order

abbrev pub IsSaid : {A : Type 0} → (A → Type 0) → Type 0
IsSaid {A} SaysIt = (x : A) × SaysIt x

abbrev pub IsUnsaid : {A : Type 0} → (A → Type 0) → Type 0
IsUnsaid {A} SaysIt = (x : A) → SaysIt x → ⊥

abbrev pub IsOptionFault : Options → OptionFault → Type 0
IsOptionFault options Actor = IsUnsaid (SaysActors options)
IsOptionFault options Cuts = IsSaid (SaysActors options) × IsUnsaid (SaysCuts options.cuts)
IsOptionFault options Begin =
    IsSaid (SaysActors options) × IsSaid (SaysCuts options.cuts) × IsNoBegin options.begin
IsOptionFault options States =
    IsSaid (SaysActors options) × IsSaid (SaysCuts options.cuts) × IsSaid (SaysBegin options.begin)
    × IsUnsaid (SaysMost options.states)
IsOptionFault options Memory =
    IsSaid (SaysActors options) × IsSaid (SaysCuts options.cuts) × IsSaid (SaysBegin options.begin)
    × IsSaid (SaysMost options.states) × IsUnsaid (SaysMemory options.memory)
IsOptionFault options Text =
    IsSaid (SaysActors options) × IsSaid (SaysCuts options.cuts) × IsSaid (SaysBegin options.begin)
    × IsSaid (SaysMost options.states) × IsSaid (SaysMemory options.memory)
    × (are_properties options.outside (property_texts options) ≡ false)
IsOptionFault options NoMemory = ⊤
