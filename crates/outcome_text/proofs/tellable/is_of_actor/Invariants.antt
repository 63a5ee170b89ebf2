use Rattle.std.proofs.Common.{◌≡◌, ◌++◌, drop}
use Rattle.std.specs.Prelude.{decimal}
use Rattle.outcome_text.specs.Tellable.{meets, any_numbered, is_of_actor}
use Rattle.outcome_text.proofs.tellable.is_of_actor.Given as goal

-- what is left decides
abbrev pub invariant-loop-actor : goal.invariant-loop-actor
invariant-loop-actor l = any_numbered (λ actor plan. meets l.text (l.word ++ decimal actor)) l.actor (drop l.actor l.plans) ≡ is_of_actor l.text l.word l.plans
