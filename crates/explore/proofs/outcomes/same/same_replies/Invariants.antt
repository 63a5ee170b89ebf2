use Rattle.std.proofs.Common.{◌≡◌, take}
use Rattle.std.specs.Prelude.{map}
use Rattle.race_core.specs.Renamed.{outcomes_by}
use Rattle.explore.proofs.outcomes.same.same_replies.Given as goal

abbrev pub invariant-loop-actor : goal.invariant-loop-actor
invariant-loop-actor l = map (outcomes_by (λ h. 0)) (take l.actor l.replies) ≡ map (outcomes_by (λ h. 0)) (take l.actor l.others)
