use Rattle.std.proofs.Common.{◌∙◌, subst}
use Rattle.race_core.specs.Worlds.{WorldView, Runs}
use Rattle.explore.proofs.Lists.Replayed.{ok_both, run_ends}
use Rattle.explore.proofs.system.WorldsTransitionSystem.outcome.Goals as goal

pub returns-in-Ok : goal.returns-in-Ok
returns-in-Ok g c =
    let w : WorldView = g.B.Beginnings.opening c.args.self.now.beginnings.now in
    let told = c.args.self.now.told in
    let turns = c.args.turns.now in
    let run : Runs w turns c.in-Ok.replayed.world =
    subst (λ is. Runs w is c.in-Ok.replayed.world) (c.as_slice.ensures.value ∙ c.in_ok-turns.ensures) c.in-Ok.ensures.ran in
    ok_both c.ended.result (λ end well report over. run_ends w c.in-Ok.replayed.world turns c.in-Ok.replayed.told told end run well c.in-Ok.ensures.told report over)
    c.ended.ensures.well c.ended.ensures.report
