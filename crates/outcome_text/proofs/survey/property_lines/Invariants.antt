use Rattle.std.proofs.Common.{◌≡◌, ◌++◌, drop}
use Rattle.outcome_text.specs.Survey.{properties_text}
use Rattle.outcome_text.proofs.survey.property_lines.Given as goal

-- what is written and what is left to write make the whole
abbrev pub invariant-loop-property : goal.invariant-loop-property
invariant-loop-property l = l.out ++ properties_text l.all (drop l.property-index l.properties) ≡ l.fn.out ++ properties_text l.all l.properties
