use Rattle.std.proofs.Common.{◌≡◌, drop}
use Rattle.std.specs.Prelude.{find}
use Rattle.outcome_text.specs.Survey.{breaks}
use Rattle.outcome_text.proofs.survey.first_breaking.Given as goal

-- it is the first of what is left
abbrev pub invariant-loop-told : goal.invariant-loop-told
invariant-loop-told l = find (breaks l.property) (drop l.told-index l.all) ≡ find (breaks l.property) l.all
