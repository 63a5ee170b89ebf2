use Rattle.std.proofs.Common.{◌≡◌, take, drop}
use Rattle.path_text.proofs.parts.Parts.same_after.Given as goal

abbrev pub invariant-loop-at : goal.invariant-loop-at
invariant-loop-at l = take l.at (drop l.passed l.self) ≡ take l.at (drop l.others_passed l.other)
