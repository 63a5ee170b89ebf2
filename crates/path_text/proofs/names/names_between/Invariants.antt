use Rattle.std.proofs.Common.{◌≡◌, true, length, take}
use Rattle.std.specs.List.{list_all}
use Rattle.path_text.specs.Name.{is_name}
use Rattle.path_text.specs.Text.{between_slashes}
use Rattle.path_text.proofs.names.names_between.Given as goal

-- the pieces so far are names
abbrev pub invariant-loop-piece : goal.invariant-loop-piece
invariant-loop-piece l = record {
  pieces : l.names ≡ take (length l.yielded) (between_slashes l.text);
  valid : list_all is_name l.names ≡ true;
}
