use Rattle.std.proofs.Common.{◌∙◌, Ok, ap, sym}
use Rattle.tree_list.proofs.Built.{built_state}
use Rattle.tree_list.proofs.Stood.{built_stands}
use Rattle.tree_list.proofs.tree.ListTree.from_entries.Goals as goal

pub returns-clause-tree : goal.returns-clause-tree
returns-clause-tree c =
    built_state c.args.entries.now c.from_nodes.result
    (c.in_ok-nodes.ensures ∙ ap (λ tree. Ok tree.nodes) (sym c.from_nodes.ensures), ap (λ tree. tree.handles) c.from_nodes.ensures)

pub returns-clause-entries : goal.returns-clause-entries
returns-clause-entries c =
    built_stands c.args.entries.now c.from_nodes.result
    (c.in_ok-nodes.ensures ∙ ap (λ tree. Ok tree.nodes) (sym c.from_nodes.ensures), ap (λ tree. tree.handles) c.from_nodes.ensures)
