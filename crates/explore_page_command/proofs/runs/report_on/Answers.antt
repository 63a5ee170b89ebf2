use Rattle.std.proofs.Common.{◌≡◌, List, ℕ, take, ap, subst, ◌∙◌}
use Rattle.explore.specs.Opened.{opened_world}
use Rattle.outcome_text.specs.Schedule.{without_tail}
use Rattle.race_core.specs.Worlds.{WorldView, RunsTo, RefusesRun}
use Rattle.scripts.specs.Writing.{tree_of}
use Rattle.explore_page_command.specs.Played.{scene_said, by_schedule_of}
use Rattle.explore_page_command.proofs.Opened.{opened, run_of}
use Rattle.run_command.proofs.Replays.{stops_for_memory}
use Rattle.explore_page_command.proofs.runs.report_on.Goals as goal

pub wanting-requires : goal.wanting-requires
wanting-requires c =
    let scene = c.args.scene.now in
    let said = by_schedule_of (scene_said scene) c.args.told.now in
    let w = c.in_ok-world.world in
    let v = opened_world (tree_of said) said.plans said.lines in
    let same : w ≡ v =
    c.in_ok-world.ensures.world ∙ (λ i. opened_world (record { nodes = scene.tree.nodes; handles = c.requires.none i }) said.plans said.lines) in
    let schedule : take c.before_tail.result c.as_slice-turns.result.now ≡ said.schedule =
    c.before_tail.ensures.before ∙ ap without_tail c.as_slice-turns.ensures.value in
    stops_for_memory said v c.in-Err.fault c.requires.playable (opened said c.requires.playable c.requires.enough)
    (subst (λ (u : WorldView). RefusesRun u said.schedule c.in-Err.fault) same
    (subst (λ (is : List ℕ). RefusesRun w is c.in-Err.fault) schedule c.in-Err.ensures.refused))

pub returns-in-Ok : goal.returns-in-Ok
returns-in-Ok c =
    let scene = c.args.scene.now in
    let said = by_schedule_of (scene_said scene) c.args.told.now in
    let w = c.in_ok-world.world in
    let report = c.in-Ok.report in
    let same : w ≡ opened_world (tree_of said) said.plans said.lines =
    c.in_ok-world.ensures.world ∙ (λ i. opened_world (record { nodes = scene.tree.nodes; handles = c.requires.none i }) said.plans said.lines) in
    let schedule : take c.before_tail.result c.as_slice-turns.result.now ≡ said.schedule =
    c.before_tail.ensures.before ∙ ap without_tail c.as_slice-turns.ensures.value in
    run_of said w report.tree report.events.events report.replies.items report.kept.items c.requires.playable c.requires.enough same
    (subst (λ (is : List ℕ). RunsTo w is report.tree report.events.events report.replies.items report.kept.items) schedule c.in-Ok.ensures.ran)
