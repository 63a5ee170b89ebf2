use Rattle.std.proofs.Common.{map, take}
use Rattle.explore_page_command.specs.Played.{ArePlayed, scene_said}
use Rattle.explore_page_command.proofs.runs.all_played.Given as goal

-- those so far are played
abbrev pub invariant-loop-told : goal.invariant-loop-told
invariant-loop-told l = ArePlayed (scene_said l.scene) (map (λ told. told.now) (take l.told-index l.some)) l.runs.items
