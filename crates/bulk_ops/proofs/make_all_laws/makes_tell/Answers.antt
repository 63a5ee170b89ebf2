use Rattle.bulk_ops.proofs.MakeAllEnds.{makes_tell}
use Rattle.bulk_ops.proofs.make_all_laws.makes_tell.Goals as goal

pub returns : goal.returns
returns c = makes_tell
