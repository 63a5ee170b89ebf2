-- A part's line, read again, says that part and no other: statements of laws.
use Rattle.std.specs.Prelude.{◌≡◌, ℕ, List}
use Rattle.std.specs.List.{All, AllZip}
use Rattle.std.specs.Global.{Vec}
use Rattle.serde_json.specs.Data.{Data}
use Rattle.outcome_text.specs.declared.part.Part.{Part}
use Rattle.outcome_text.specs.declared.survey.Told.{Told}
use Rattle.outcome_text.specs.Schedule.{schedule_words}
use Rattle.outcome_text.specs.Survey.{block_of}
use Rattle.explore_parts.specs.declared.asked.Asked.{Asked}
use Rattle.explore_parts.specs.PartRead.{SaysPart, LineSays}
use Rattle.explore_parts.specs.PartText.{part_words}
use Rattle.explore_parts.specs.Printed.{AskedFits, PartFits}
use Rattle.explore_parts.specs.Seal.{sealed}

-- ---- parts that are the same, whatever room their lists have

pub record AreSameTold (told other : Told) : Type 0 where
  pub lists : told.lists ≡ other.lists
  pub cuts : told.cuts ≡ other.cuts
  pub changes : told.changes ≡ other.changes
  pub turns : told.turns.items ≡ other.turns.items
  pub schedule : told.schedule ≡ other.schedule
  pub block : block_of told ≡ block_of other
  pub look : told.look ≡ other.look
  pub lines : told.lines ≡ other.lines

pub record AreSame (part other : Part) : Type 0 where
  pub begin : part.begin.items ≡ other.begin.items
  pub might : AllZip (λ (actors others : Vec ℕ). actors.items ≡ others.items) part.might.items other.might.items
  pub lists : part.lists ≡ other.lists
  pub turns : part.turns ≡ other.turns
  pub all : AllZip AreSameTold part.all.items other.all.items

-- ---- the laws

-- each outcome's schedule is that of its least list
abbrev pub AreScheduled : List Told → Type 0
AreScheduled all = All (λ told. told.schedule ≡ schedule_words told.turns.items) all

-- The line of a part is read as a value that says this part.
abbrev pub LinesSayTheirParts : Type 0
LinesSayTheirParts = (script : List ℕ) (asked : Asked) (part : Part) → AskedFits asked → PartFits part
    → AreScheduled part.all.items
    → (question : List ℕ) × LineSays question (sealed (part_words script asked part)) part

-- A value says one part.
abbrev pub ValuesSayOnePart : Type 0
ValuesSayOnePart = (d : Data) (part other : Part) → SaysPart d part → SaysPart d other → AreSame part other
