use Rattle.std.proofs.Common.{◌≡◌, drop}
use Rattle.outcome_text.specs.Survey.{all_hold}
use Rattle.outcome_text.proofs.survey.all_hold.Given as goal

-- what is left decides
abbrev pub invariant-loop-property : goal.invariant-loop-property
invariant-loop-property l = all_hold l.all (drop l.property-index l.properties) ≡ all_hold l.all l.properties
