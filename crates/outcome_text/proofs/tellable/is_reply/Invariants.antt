use Rattle.std.proofs.Common.{◌≡◌, drop}
use Rattle.outcome_text.specs.Tellable.{any_numbered, is_reply_of, is_reply}
use Rattle.outcome_text.proofs.tellable.is_reply.Given as goal

-- what is left decides
abbrev pub invariant-loop-actor : goal.invariant-loop-actor
invariant-loop-actor l = any_numbered (λ actor plan. is_reply_of l.text actor plan.calls) l.actor (drop l.actor l.plans) ≡ is_reply l.text l.plans
