-- What `inroot explore --part` writes: the line of the part of what a script says.
use Rattle.std.specs.Prelude.{◌≡◌, ◌≢◌, ℕ, List, Option, Result, MatchResult}
use Rattle.std.specs.Io.KnownBytes.{Keeps}
use Rattle.scripts.specs.declared.fault.RunFault.TheVariants.{WriteFailed}
use Rattle.scripts.specs.declared.turns.TurnOrder.TheVariants.{OfScript}
use Rattle.scripts.specs.Scenario.{Said, said_for}
use Rattle.scripts.specs.Writing.{tree_of, Wrote}
use Rattle.outcome_text.specs.declared.fault.ExploreFault.{ExploreFault}
use Rattle.outcome_text.specs.declared.fault.ExploreFault.TheVariants.{Run}
use Rattle.outcome_text.specs.declared.part.Part.{Part}
use Rattle.explore_parts.specs.declared.asked.Asked.{Asked}
use Rattle.explore_command.specs.Part.{IsPart}
use Rattle.explore_parts.specs.PartText.{part_line}
use Rattle.explore_parts.specs.Seal.{sum_of}

-- the line of the part that is asked for of what the script with these bytes says
abbrev pub IsLineOf : Asked → List ℕ → Said → List ℕ → Type 0
IsLineOf asked script said text =
    (part : Part) × (IsPart asked (tree_of said) said.plans said.lines part
    × (text ≡ part_line (sum_of script) asked part))

-- That line was written, and nothing else; or, but for a writer that failed, nothing was written.
abbrev pub IsExplorePart : {A : Type 0} → Asked → List ℕ → Option (List ℕ) → Option (List ℕ) → Result A ExploreFault
    → Type 0
IsExplorePart asked script old new result = MatchResult result
    (λ _. Wrote (IsLineOf asked script) (said_for OfScript script) old new)
    (λ fault. fault ≢ Run WriteFailed → Keeps old new)
