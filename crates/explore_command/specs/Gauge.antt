-- How much memory a search may take, and who says how much was taken.
use Rattle.std.specs.Prelude.{⊤, ◌≡◌, ◌<◌, ◌≤◌, ◌*◌, ◌⊎◌, ℕ, List, ◌++◌, Option, Some, None, codes, drop}
use Rattle.std.specs.Str.{trim_start}
use Rattle.std.specs.Str.Parse.{digits_value, without_leading_plus}
use Rattle.explore_parts.specs.declared.asked.TheConstants.{MEGABYTE}
use Rattle.outcome_text.specs.declared.fault.ExploreFault.{ExploreFault}
use Rattle.outcome_text.specs.declared.fault.ExploreFault.TheVariants.{TooMuchMemory, NoGauge}
use Rattle.outcome_text.specs.Unfound.{unfound_by}
use Rattle.schedule_graph.specs.declared.fault.SearchFault.{SearchFault}

-- where there is a limit, the gauge may say so many bytes or fewer
abbrev pub SaysNoMore : (Option ℕ → Type 0) → Option ℕ → Type 0
SaysNoMore may_say None = ⊤
SaysNoMore may_say (Some most) = (bytes : ℕ) × (may_say (Some bytes) × (bytes ≤ most * MEGABYTE))

-- it may say more
abbrev pub SaysMore : (Option ℕ → Type 0) → ℕ → Type 0
SaysMore may_say most = (bytes : ℕ) × (may_say (Some bytes) × (most * MEGABYTE < bytes))

-- the fault by which a search ends for its gauge: there is a limit, and the gauge says more, or nothing
abbrev pub IsOver : (Option ℕ → Type 0) → Option ℕ → ExploreFault → Type 0
IsOver may_say memory (TooMuchMemory most) = (memory ≡ Some most) × SaysMore may_say most
IsOver may_say memory NoGauge = ((most : ℕ) × (memory ≡ Some most)) × may_say None
IsOver may_say memory other = ⊥

-- it is told of no gauge
abbrev pub IsOfNoGauge : ExploreFault → Type 0
IsOfNoGauge (TooMuchMemory most) = ⊥
IsOfNoGauge NoGauge = ⊥
IsOfNoGauge other = ⊤

-- what the gauge may say where a search ends so
abbrev pub WhyTooMuch : (Option ℕ → Type 0) → ExploreFault → Type 0
WhyTooMuch may_say (TooMuchMemory most) = SaysMore may_say most
WhyTooMuch may_say NoGauge = may_say None
WhyTooMuch may_say other = ⊤

-- how it is told that a search finds nothing: as ever, or that the gauge says more
abbrev pub IsToldOver : (Option ℕ → Type 0) → Option ℕ → SearchFault → ExploreFault → Type 0
IsToldOver may_say memory fault told = (told ≡ unfound_by fault) ⊎ IsOver may_say memory told

-- The text has a line that says so many units of 1,024 bytes: a number between `VmHWM:` and `kB`.
pub record SaysPeak (status : List ℕ) (bytes : ℕ) : Type 0 where
  pub at : ℕ
  pub number : List ℕ
  pub after : List ℕ
  pub line : drop at status ≡ codes "\nVmHWM:" ++ (number ++ (codes " kB\n" ++ after))
  pub units : bytes ≡ digits_value 10 (without_leading_plus (trim_start number)) * 1024
