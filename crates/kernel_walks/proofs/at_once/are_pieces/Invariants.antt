use Rattle.std.proofs.Common.{◌≡◌, true, length, take}
use Rattle.std.specs.List.{list_all}
use Rattle.path_text.specs.Text.{between_slashes}
use Rattle.kernel_walks.specs.AtOnce.{fits_piece}
use Rattle.kernel_walks.proofs.at_once.are_pieces.Given as goal

-- the pieces so far fit
abbrev pub invariant-loop-piece : goal.invariant-loop-piece
invariant-loop-piece l = list_all fits_piece (take (length l.yielded) (between_slashes l.text)) ≡ true
