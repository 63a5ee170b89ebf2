use Rattle.std.proofs.Common.{◌≡◌}
use Rattle.std.specs.Prelude.{Some}
use Rattle.race_core.specs.Opening.{granted}
use Rattle.run_command.specs.Drawing.{opened_by}
use Rattle.scripts.specs.Writing.{tree_of}
use Rattle.scripts.specs.Scenario.{said_by}
use Rattle.run_command.proofs.Drawings.{granted_so, opening}
use Rattle.run_command.proofs.drawing.run_of.Goals as goal

pub returns : goal.returns
returns c =
    let said = said_by c.args.scenario in
    let t = c.grant_roots.new.tree in
    let run = c.in_ok-report.report in
    let opened : opened_by (granted (tree_of said) 0 said.plans) ≡ Some t =
    granted_so c.args.scenario.tree c.args.tree.now t said.plans c.deref.result.now c.requires.same c.requires.none
    c.deref.ensures.value c.in_ok-grant_roots.ensures in
    (c.in_ok-report.ensures, opening said t run.tree run.events.events run.replies.items c.in_ok-report.ensures opened)
