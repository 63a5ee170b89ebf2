use Rattle.std.proofs.Common.{◌≡◌, drop}
use Rattle.outcome_text.specs.Tellable.{meets_reply, any_numbered, is_reply_of}
use Rattle.outcome_text.proofs.tellable.is_reply_of.Given as goal

-- what is left decides
abbrev pub invariant-loop-call : goal.invariant-loop-call
invariant-loop-call l = any_numbered (λ call planned. meets_reply l.text l.fn.actor call) l.call (drop l.call l.calls) ≡ is_reply_of l.text l.fn.actor l.calls
