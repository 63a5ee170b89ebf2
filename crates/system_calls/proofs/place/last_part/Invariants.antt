use Rattle.std.proofs.Common.{◌≡◌, ◌≤◌, false, length, drop}
use Rattle.std.specs.Prelude.{◌==◌}
use Rattle.std.specs.List.{list_any}
use Rattle.path_text.specs.declared.name.TheConstants.{SLASH}
use Rattle.system_calls.proofs.place.last_part.Given as goal

-- no slash stands from there on
abbrev pub invariant-loop-at : goal.invariant-loop-at
invariant-loop-at l = (l.at ≤ length l.text) × (list_any (λ b. b == SLASH) (drop l.at l.text) ≡ false)

abbrev pub decreases-loop-at : goal.decreases-loop-at
decreases-loop-at l = l.at
