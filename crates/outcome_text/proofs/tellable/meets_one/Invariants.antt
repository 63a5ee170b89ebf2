use Rattle.std.proofs.Common.{◌≡◌, drop}
use Rattle.std.specs.List.{list_any}
use Rattle.outcome_text.specs.Tellable.{meets, reply_start}
use Rattle.outcome_text.proofs.tellable.meets_one.Given as goal

-- what is left decides
abbrev pub invariant-loop-head : goal.invariant-loop-head
invariant-loop-head l =
    list_any (λ head. meets l.text (reply_start l.fn.actor l.fn.call head.now)) (drop l.head-index l.heads)
    ≡ list_any (λ head. meets l.text (reply_start l.fn.actor l.fn.call head.now)) l.heads
