use Rattle.std.proofs.Common.{◌≡◌, map, take}
use Rattle.explore_page_command.specs.Played.{chosen}
use Rattle.explore_page_command.proofs.chosen.chosen.Given as goal

-- they are chosen of those so far
abbrev pub invariant-loop-at : goal.invariant-loop-at
invariant-loop-at l = map (λ told. told.now) l.some.items ≡ chosen (take l.at l.outcomes)
