use Rattle.std.proofs.Common.{◌≡◌, true, length, take}
use Rattle.std.specs.List.{list_all}
use Rattle.path_text.specs.Text.{between_slashes}
use Rattle.kernel_walks.specs.Followed.{is_short}
use Rattle.kernel_walks.proofs.followed.are_short.Given as goal

-- the pieces so far are short
abbrev pub invariant-loop-piece : goal.invariant-loop-piece
invariant-loop-piece l = list_all is_short (take (length l.yielded) (between_slashes l.text)) ≡ true
