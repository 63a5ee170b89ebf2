use Rattle.std.proofs.Common.{ℕ, subst}
use Rattle.walk_plan.specs.declared.goal.Goal.TheVariants.{Follow}
use Rattle.step_resolver.specs.Driver.{node_of, ResolvesBelow}
use Rattle.scripts.specs.declared.actors.TheConstants.{ACTOR}
use Rattle.run_command.proofs.Lines.{read_by}
use Rattle.run_command.proofs.run.look_up.Goals as goal

pub returns : goal.returns
returns g c =
    read_by (g.T.Tree.state c.args.tree.now).nodes (node_of (g.T.Tree.state c.args.tree.now) ACTOR c.args.root) c.args.text.now c.args.flags c.in_ok-path.path c.resolve.result c.in_ok-path.ensures
    (subst (λ (a : ℕ). ResolvesBelow (g.T.Tree.state c.args.tree.now) a c.args.root c.in_ok-path.path Follow c.args.flags c.resolve.result) c.new.ensures c.resolve.ensures.means)
