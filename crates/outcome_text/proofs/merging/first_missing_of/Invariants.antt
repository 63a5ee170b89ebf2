use Rattle.std.proofs.Common.{◌≡◌, drop}
use Rattle.std.specs.List.{list_any}
use Rattle.outcome_text.specs.Merge.{lacks_turn}
use Rattle.outcome_text.proofs.merging.first_missing_of.Given as goal

-- what is left decides
abbrev pub invariant-loop-actor : goal.invariant-loop-actor
invariant-loop-actor l = list_any (lacks_turn l.parts l.turns) (drop l.actor-index l.might) ≡ list_any (lacks_turn l.parts l.turns) l.might
