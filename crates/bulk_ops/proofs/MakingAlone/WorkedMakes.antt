-- The worked paths, computed.
use Rattle.std.specs.Prelude.{refl}
use Rattle.bulk_ops.specs.MakeAllWorked.{MakesAreWorked}

pub makes_are_worked : MakesAreWorked
makes_are_worked = record {
  there = refl;
  last_missing = refl;
  both_missing = refl;
  slashes_and_dots = refl;
  through_link = refl;
  over_file = refl;
  below_file = refl;
  up_in_rest = refl;
  missing_in_link = refl;
  root_is_gone = refl;
}
