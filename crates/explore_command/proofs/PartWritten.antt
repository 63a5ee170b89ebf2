-- The line of the part of what a script says was written.
use Rattle.std.proofs.Common.{◌≡◌, ℕ, List, Option, sym, ap, ◌∙◌, subst}
use Rattle.std.specs.Prelude.{IsOkAnd, Result, Ok}
use Rattle.std.specs.Io.KnownBytes.{Appends}
use Rattle.outcome_text.specs.declared.part.Part.{Part}
use Rattle.scripts.specs.declared.fault.ScriptFault.{ScriptFault}
use Rattle.scripts.specs.declared.turns.TurnOrder.TheVariants.{OfScript}
use Rattle.scripts.specs.Scenario.{Said, said_for}
use Rattle.scripts.specs.Writing.{tree_of, Wrote}
use Rattle.tree_model.specs.State.{State}
use Rattle.explore_parts.specs.declared.asked.Asked.{Asked}
use Rattle.explore_command.specs.ExplorePart.{IsLineOf}
use Rattle.explore_command.specs.Part.{IsPart}
use Rattle.explore_parts.specs.PartText.{part_line}
use Rattle.explore_parts.specs.Seal.{sum_of}

module _ (old new : Option (List ℕ)) (script sum text : List ℕ) (asked : Asked) (said : Said) (tree : State) (part : Part) where
  pub part_written : said_for OfScript script ≡ Ok said → tree ≡ tree_of said → IsPart asked tree said.plans said.lines part → sum ≡ sum_of script
      → text ≡ part_line sum asked part → Appends old new text → Wrote (IsLineOf asked script) (said_for OfScript script) old new
  part_written says whole is digest line appends =
      subst (λ (r : Result Said ScriptFault). IsOkAnd r (λ s. (t : List ℕ) × IsLineOf asked script s t × Appends old new t)) (sym says)
      (text, (part, (subst (λ (t : State). IsPart asked t said.plans said.lines part) whole is, line ∙ ap (λ (d : List ℕ). part_line d asked part) digest)), appends)
