-- The worked operations, computed.
use Rattle.std.specs.Prelude.{refl}
use Rattle.root_ops.specs.MeaningWorked.{RenamesAreWorked, MovesAreWorked, MadeAreWorked, ToldAreWorked, RemovedAreWorked}

pub renames_are_worked : RenamesAreWorked
renames_are_worked = record {
  into_itself = refl;
  exchanged_with_inner = refl;
  over_link = refl;
  over_directory = refl;
  over_full = refl;
  itself = refl;
  no_replace = refl;
  file_with_slash = refl;
  to_slash = refl;
  missing_with_slash = refl;
  old_fault_first = refl;
}

pub moves_are_worked : MovesAreWorked
moves_are_worked = record { exchanged = refl; link_there = refl; file_there = refl; moved = refl }

pub made_are_worked : MadeAreWorked
made_are_worked =
    record { file = refl; again = refl; over_link = refl; slash = refl; below_file = refl; directory = refl; empty_text = refl; all = refl }

pub told_are_worked : ToldAreWorked
told_are_worked = record { followed = refl; not_followed = refl; text = refl; no_link = refl; after_slash = refl; duplicate = refl }

pub removed_are_worked : RemovedAreWorked
removed_are_worked = record {
  directory = refl;
  link = refl;
  full = refl;
  itself = refl;
  root = refl;
  through_link = refl;
  link_itself = refl;
  emptied = refl;
}
