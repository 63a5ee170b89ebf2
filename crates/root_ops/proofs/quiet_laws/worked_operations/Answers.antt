use Rattle.root_ops.proofs.Quiet.WorkedOperations.{renames_are_worked, moves_are_worked, made_are_worked, told_are_worked, removed_are_worked}
use Rattle.root_ops.proofs.quiet_laws.worked_operations.Goals as goal

pub returns : goal.returns
returns c = record {
  renames = renames_are_worked;
  moves = moves_are_worked;
  made = made_are_worked;
  told = told_are_worked;
  removed = removed_are_worked;
}
