use Rattle.std.proofs.Common.{◌≡◌, ◌++◌}
use Rattle.drawings.specs.Cells.{actor_name}
use Rattle.drawings.specs.declared.look.Colours.TheVariants.{Off}
use Rattle.drawings.specs.Text.{cells, no_tone}
use Rattle.drawings.proofs.text.names.Given as goal

-- the cells of the actors so far are written
abbrev pub invariant-loop-actor : goal.invariant-loop-actor
invariant-loop-actor l = l.out ≡ l.fn.out ++ cells l.actor l.fn.width Off no_tone actor_name
