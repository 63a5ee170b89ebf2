use Rattle.std.proofs.Common.{◌≡◌, ℕ, List, Ok, Err, subst, sym}
use Rattle.race_core.specs.Worlds.{RefusesRun}
use Rattle.run_command.specs.Replay.{CanCome}
use Rattle.scripts.specs.Scenario.{said_on}
use Rattle.run_command.proofs.Replays.{in_said, can_come, told, stops_for_memory}
use Rattle.run_command.proofs.play.report_on.Goals as goal

pub told_of-requires : goal.told_of-requires
told_of-requires g c =
    let s = c.args in
    let tree = g.T.Tree.state s.tree in
    can_come (said_on tree s.plans.items s.schedule.items s.lines) c.in-Err.fault c.requires.playable
    (in_said tree s.plans.items s.lines (Err c.in-Err.fault) c.requires.none c.in-Err.ensures)

pub returns-in-Err : goal.returns-in-Err
returns-in-Err g c =
    let s = c.args in
    let tree = g.T.Tree.state s.tree in
    told (said_on tree s.plans.items s.schedule.items s.lines) c.in-Err.fault c.told_of.result c.requires.playable
    (in_said tree s.plans.items s.lines (Err c.in-Err.fault) c.requires.none c.in-Err.ensures) c.told_of.ensures

pub told_of-requires-in-Err-run : goal.told_of-requires-in-Err-run
told_of-requires-in-Err-run g c =
    let s = c.args in
    let tree = g.T.Tree.state s.tree in
    let stopped : c.in-Err-run.fault ≡ _ =
    stops_for_memory (said_on tree s.plans.items s.schedule.items s.lines) c.in-Ok.world c.in-Err-run.fault c.requires.playable
    (in_said tree s.plans.items s.lines (Ok c.in-Ok.world) c.requires.none c.in-Ok.ensures)
    (subst (λ (is : List ℕ). RefusesRun c.in-Ok.world is c.in-Err-run.fault) c.deref.ensures.value c.in-Err-run.ensures.refused) in
    subst CanCome (sym stopped) tt
