use Rattle.std.proofs.Common.{IfErr, subst}
use Rattle.race_core.specs.Worlds.{WorldView}
use Rattle.layered_search.specs.Asked.{WhyNot}
use Rattle.local_states.specs.Worlds.{worlds}
use Rattle.explore.proofs.system.WorldsTransitionSystem.begin.Goals as goal

pub returns-clause-err : goal.returns-clause-err
returns-clause-err g c = λ limits.
    subst (λ (w : WorldView). IfErr c.known_of-known.result (WhyNot (worlds c.args.self.now.told w) limits)) c.in_ok-world.ensures.world
    (c.known_of-known.ensures.err limits)
