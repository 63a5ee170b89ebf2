use Rattle.scripts.proofs.Roots.{opened_root}
use Rattle.scripts.proofs.actors.open_root.Goals as goal

pub returns-in-Ok-clause-ok : goal.returns-in-Ok-clause-ok
returns-in-Ok-clause-ok g c = opened_root c.steps_keep_trees.ensures.grants _ _ _ _ c.args.names.now c.requires.tree
    (record { none = c.requires.none; actor = c.new.ensures; gave = c.in-Ok.ensures })
