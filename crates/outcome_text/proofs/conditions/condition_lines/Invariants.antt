use Rattle.std.proofs.Common.{◌≡◌, ◌++◌, drop}
use Rattle.outcome_text.specs.Conditions.{conditions_text}
use Rattle.outcome_text.proofs.conditions.condition_lines.Given as goal

-- what is written and what is left to write make the whole
abbrev pub invariant-loop-property : goal.invariant-loop-property
invariant-loop-property l = l.out ++ conditions_text l.lists l.all (drop l.property-index l.properties) ≡ l.fn.out ++ conditions_text l.lists l.all l.properties
