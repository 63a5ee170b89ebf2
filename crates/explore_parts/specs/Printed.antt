-- What the machine's numbers hold: parts of which each number is one of its type.
use Rattle.std.specs.Prelude.{⊤, ◌≡◌, ◌<◌, ◌≤◌, ◌^◌, ℕ, List, length, true, Option, Some, None}
use Rattle.std.specs.List.{All}
use Rattle.outcome_text.specs.declared.part.Part.{Part}
use Rattle.outcome_text.specs.declared.survey.Told.{Told}
use Rattle.outcome_text.specs.Property.{is_property}
use Rattle.outcome_text.specs.Survey.{block_of}
use Rattle.explore_parts.specs.declared.asked.Asked.{Asked}

abbrev pub AreActors : List ℕ → Type 0
AreActors actors = All (λ actor. actor < 2 ^ 32) actors

abbrev pub AreBytes : List ℕ → Type 0
AreBytes bytes = All (λ byte. byte < 2 ^ 8) bytes

pub record ToldFits (told : Told) : Type 0 where
  pub lists : told.lists < 2 ^ 64
  pub cuts : told.cuts < 2 ^ 64
  pub changes : told.changes < 2 ^ 64
  pub turns : AreActors told.turns.items
  pub block : AreBytes (block_of told)
  pub look : AreBytes told.look
  pub lines : AreBytes told.lines

-- and of no more turns than it begins with is it said who might have had them
pub record PartFits (part : Part) : Type 0 where
  pub begin : AreActors part.begin.items
  pub might : All (λ actors. AreActors actors.items) part.might.items
  pub within : length part.might.items ≤ length part.begin.items
  pub lists : part.lists < 2 ^ 64
  pub turns : part.turns < 2 ^ 64
  pub all : All ToldFits part.all.items

abbrev pub FewCuts : Option ℕ → Type 0
FewCuts None = ⊤
FewCuts (Some cuts) = cuts < 2 ^ 64

-- each property's text is one
pub record AskedFits (asked : Asked) : Type 0 where
  pub named : AreActors asked.named.items
  pub cuts : FewCuts asked.limits.scope.cuts
  pub properties : All (λ property. is_property true property.text ≡ true) asked.properties.items
