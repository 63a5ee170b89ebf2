use Rattle.std.proofs.Common.{◌≡◌, drop}
use Rattle.std.specs.Prelude.{not}
use Rattle.std.specs.List.{position_from}
use Rattle.outcome_text.specs.Tellable.{can_be_told, first_untold}
use Rattle.outcome_text.proofs.tellable.first_untold.Given as goal

-- it is the first of what is left
abbrev pub invariant-loop-place : goal.invariant-loop-place
invariant-loop-place l = position_from (λ property. not (can_be_told l.fn.outside l.plans property.text)) l.place (drop l.place l.properties) ≡ first_untold l.fn.outside l.plans l.properties
