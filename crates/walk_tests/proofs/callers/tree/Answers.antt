use Rattle.example_callers.proofs.Rooted.{second_root}
use Rattle.walk_tests.proofs.callers.tree.Goals as goal

pub returns : goal.returns
returns c =
    second_root c.steps_keep_trees.ensures.grants c.in-Ok.tree c.grant.new.self c.grant-2.new.self c.new.result c.new-2.result c.in_ok-grant.field-0 c.in_ok-handle.handle
    _ _ c.in-Ok.ensures.built.1 c.new.ensures c.new-2.ensures c.in-Ok.ensures.tree c.in_ok-grant.ensures c.in_ok-handle.ensures
