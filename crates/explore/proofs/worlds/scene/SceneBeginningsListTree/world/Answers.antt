use Rattle.explore.proofs.Opened.{opened_numbered}
use Rattle.explore.proofs.worlds.scene.SceneBeginningsListTree.world.Goals as goal

pub returns-in-Ok-clause-numbered : goal.returns-in-Ok-clause-numbered
returns-in-Ok-clause-numbered c = opened_numbered c.args.self.now.tree c.args.self.now.plans.items c.args.self.now.lines
