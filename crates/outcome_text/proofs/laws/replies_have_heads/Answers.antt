use Rattle.outcome_text.proofs.Beginnings.{replies_pass}
use Rattle.outcome_text.proofs.Heads.{replies_have_heads}
use Rattle.outcome_text.proofs.laws.replies_have_heads.Goals as goal

pub returns-clause-heads : goal.returns-clause-heads
returns-clause-heads c = replies_have_heads

pub returns-clause-pass : goal.returns-clause-pass
returns-clause-pass c = replies_pass
