use Rattle.std.proofs.Common.{◌≡◌, ℕ, List, true, subst}
use Rattle.std.specs.Prelude.{IfOk, Ok}
use Rattle.step_resolver.specs.Meaning.{resolved}
use Rattle.step_resolver.specs.Driver.{node_of, Resolves}
use Rattle.step_resolver.specs.declared.driver.Resolved.{Resolved}
use Rattle.scripts.specs.declared.actors.TheConstants.{ACTOR}
use Rattle.run_command.proofs.Lines.{opened_means, refused_line}
use Rattle.run_command.proofs.run.line_of.Goals as goal

pub returns-in-Ok-Found-clause-ok : goal.returns-in-Ok-Found-clause-ok
returns-in-Ok-Found-clause-ok g c =
    let nodes = (g.T.Tree.state c.args.tree.now).nodes in
    let r = node_of (g.T.Tree.state c.args.tree.now) ACTOR c.args.root in
    subst (λ (x : List ℕ). IfOk c.opened_line.result (λ line. line ≡ x))
    (opened_means c.name_below_is_standing.ensures.names nodes c.requires.tree.tree r (resolved nodes r c.args.text.now true c.args.flags) c.in-Ok-Found.standing
    (subst (λ (x : Resolved). Resolves nodes r (resolved nodes r c.args.text.now true c.args.flags) (Ok x)) c.in-Ok-Found.field-0-is c.in-Ok-Found.ensures))
    c.opened_line.ensures.ok

pub returns-in-Err-clause-ok : goal.returns-in-Err-clause-ok
returns-in-Err-clause-ok g c =
    let nodes = (g.T.Tree.state c.args.tree.now).nodes in
    let r = node_of (g.T.Tree.state c.args.tree.now) ACTOR c.args.root in
    refused_line nodes r (resolved nodes r c.args.text.now true c.args.flags) c.in-Err.error c.in-Err.ensures c.fault_line.result c.fault_line.ensures.ok
