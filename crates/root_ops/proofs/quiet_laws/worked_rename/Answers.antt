use Rattle.root_ops.proofs.Quiet.WorkedRename.{rename_is_worked}
use Rattle.root_ops.proofs.quiet_laws.worked_rename.Goals as goal

pub returns : goal.returns
returns c = rename_is_worked
