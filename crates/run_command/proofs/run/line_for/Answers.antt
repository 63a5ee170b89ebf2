use Rattle.serde_json.specs.View.{view}
use Rattle.scripts.specs.declared.actors.TheConstants.{ACTOR}
use Rattle.run_command.proofs.Lines.{lines_by}
use Rattle.run_command.proofs.run.line_for.Goals as goal

pub returns-clause-ok : goal.returns-clause-ok
returns-clause-ok c =
    lines_by (view c.args.script.now) c.args.text.now c.args.flags c.in_ok-opened.opened.tree ACTOR c.in_ok-opened.opened.root c.line_of.result
    c.in_ok-opened.ensures.ok c.line_of.ensures.ok
