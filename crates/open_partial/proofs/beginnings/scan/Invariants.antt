use Rattle.std.proofs.Common.{◌≡◌, ◌≤◌, ◌-◌, length, take}
use Rattle.path_text.specs.Text.{pieces}
use Rattle.open_partial.proofs.BeginningLemmas.{Stands}
use Rattle.open_partial.proofs.beginnings.scan.Given as goal

-- the pieces before this byte are counted, and it is known whether one is under way
abbrev pub invariant-loop-at : goal.invariant-loop-at
invariant-loop-at l =
    (l.at ≤ length l.text) × (l.pieces ≡ length (pieces (take l.at l.text))) × (l.pieces ≤ l.most) × (l.pieces ≤ l.at)
    × Stands l.is_free (take l.at l.text)

abbrev pub decreases-loop-at : goal.decreases-loop-at
decreases-loop-at l = length l.text - l.at
