use Rattle.root_ops.proofs.Acts.EachOperation.{calls_act}
use Rattle.root_ops.proofs.acts_laws.calls_act.Goals as goal

pub returns : goal.returns
returns laws = calls_act
