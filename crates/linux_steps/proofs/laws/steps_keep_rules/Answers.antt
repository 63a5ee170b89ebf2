use Rattle.linux_steps.proofs.RuleLemmas.{steps-keep-rules}
use Rattle.linux_steps.proofs.laws.steps_keep_rules.Goals as goal

pub returns : goal.returns
returns c = steps-keep-rules
