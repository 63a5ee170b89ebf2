use Rattle.std.proofs.Common.{rules, ◌≡◌, ◌∙◌, ◌-◌, ◌<◌, length, slice_get, None, Some, sym}
use Rattle.tree_model.specs.State.{child}
use Rattle.tree_list.specs.Build.{way}
use Rattle.tree_list.proofs.Ways.{slice_get-take, node_at_missing, node_at_enters}
use Rattle.tree_list.proofs.build.parent_of.Goals as goal

pub returns-in_default : goal.returns-in_default
returns-in_default g c =
    let nodes = g.N.GrowingNodes.inodes c.args.nodes.now in
    let none : child nodes c.loop-step.parent c.lend.result ≡ None = search rules in
    let before : c.loop-step.step < length c.args.names.now - 1 = search rules in
    let there : slice_get (way c.args.names.now) c.loop-step.step ≡ Some c.lend.result = slice_get-take (length c.args.names.now - 1) c.args.names.now c.loop-step.step before ∙ c.lend.ensures in
    sym (node_at_missing nodes c.loop-step.parent (way c.args.names.now) c.loop-step.step c.lend.result there none) ∙ c.loop-step.invariant

pub loop-step-preserved : goal.loop-step-preserved
loop-step-preserved g c =
    let nodes = g.N.GrowingNodes.inodes c.args.nodes.now in
    let next : child nodes c.loop-step.parent c.lend.result ≡ Some c.in-Some.next = search rules in
    let before : c.loop-step.step < length c.args.names.now - 1 = search rules in
    let there : slice_get (way c.args.names.now) c.loop-step.step ≡ Some c.lend.result = slice_get-take (length c.args.names.now - 1) c.args.names.now c.loop-step.step before ∙ c.lend.ensures in
    sym (node_at_enters nodes c.loop-step.parent c.in-Some.next (way c.args.names.now) c.loop-step.step c.lend.result there next) ∙ c.loop-step.invariant
