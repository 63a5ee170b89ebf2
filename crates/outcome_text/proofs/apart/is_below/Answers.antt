use Rattle.std.proofs.Common.{sym, ◌∙◌, arith}
use Rattle.outcome_text.proofs.Below.{past_end}
use Rattle.outcome_text.proofs.apart.is_below.Goals as goal

pub returns-then-at-others : goal.returns-then-at-others
returns-then-at-others c = sym (c.loop-at.invariant ∙ past_end c.args.turns.now c.args.others.now c.loop-at.at (omega arith))
