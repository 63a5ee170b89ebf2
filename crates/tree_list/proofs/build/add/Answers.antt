use Rattle.std.proofs.Common.{rules, ◌≡◌, ◌∙◌, ◌+◌, length, slice_get, Ok, Err, None, Some}
use Rattle.path_text.specs.declared.errno.Errno.TheVariants.{NotFound}
use Rattle.tree_model.specs.State.{TOP}
use Rattle.tree_model.specs.Entries.{makes}
use Rattle.tree_list.specs.Build.{new_fault, object_of, node_at, way, adds}
use Rattle.tree_list.proofs.Building.{adds_found, adds_not_found}
use Rattle.tree_list.proofs.Lasting.{stands_in-lasts}
use Rattle.tree_list.proofs.build.add.Goals as goal

pub returns-in_default-parent_near-clause-added : goal.returns-in_default-parent_near-clause-added
returns-in_default-parent_near-clause-added g c =
    let nodes = g.N.GrowingNodes.inodes c.args.nodes.now in
    let entry = c.args.entry.now in
    let fits : new_fault entry.what ≡ None = search rules in
    let count : length entry.at ≡ c.in-Some-checked_sub.last + 1 = search rules in
    let none : node_at nodes TOP (way entry.at) ≡ None = search rules in
    let refused : adds nodes entry ≡ Err NotFound = adds_not_found nodes entry c.in-Some-checked_sub.last fits count none in
    search rules

pub returns-in_err-branch-clause-added : goal.returns-in_err-branch-clause-added
returns-in_err-branch-clause-added g c =
    let nodes = g.N.GrowingNodes.inodes c.args.nodes.now in
    let entry = c.args.entry.now in
    let fits : new_fault entry.what ≡ None = search rules in
    let count : length entry.at ≡ c.in-Some-checked_sub.last + 1 = search rules in
    let there : slice_get entry.at c.in-Some-checked_sub.last ≡ Some c.in_ok-to_name.field-0 = search rules in
    let found : node_at nodes TOP (way entry.at) ≡ Some c.in-Some-parent_near.parent = search rules in
    let here : adds nodes entry ≡ makes nodes c.in-Some-parent_near.parent c.in_ok-to_name.field-0 (object_of entry.what) =
    adds_found nodes entry c.in-Some-checked_sub.last c.in_ok-to_name.field-0 fits count there c.in-Some-parent_near.parent found in
    search rules

pub returns-clause-added : goal.returns-clause-added
returns-clause-added g c =
    let nodes = g.N.GrowingNodes.inodes c.args.nodes.now in
    let new = g.N.GrowingNodes.inodes c.grow.new.self in
    let entry = c.args.entry.now in
    let fits : new_fault entry.what ≡ None = search rules in
    let count : length entry.at ≡ c.in-Some-checked_sub.last + 1 = search rules in
    let there : slice_get entry.at c.in-Some-checked_sub.last ≡ Some c.in_ok-to_name.field-0 = search rules in
    let found : node_at nodes TOP (way entry.at) ≡ Some c.in-Some-parent_near.parent = search rules in
    let here : adds nodes entry ≡ makes nodes c.in-Some-parent_near.parent c.in_ok-to_name.field-0 (object_of entry.what) =
    adds_found nodes entry c.in-Some-checked_sub.last c.in_ok-to_name.field-0 fits count there c.in-Some-parent_near.parent found in
    let made : makes nodes c.in-Some-parent_near.parent c.in_ok-to_name.field-0 (object_of entry.what) ≡ Ok new = search rules in
    here ∙ made

pub returns-clause-parent : goal.returns-clause-parent
returns-clause-parent g c =
    let nodes = g.N.GrowingNodes.inodes c.args.nodes.now in
    let new = g.N.GrowingNodes.inodes c.grow.new.self in
    let entry = c.args.entry.now in
    let found : node_at nodes TOP (way entry.at) ≡ Some c.in-Some-parent_near.parent = search rules in
    let made : makes nodes c.in-Some-parent_near.parent c.in_ok-to_name.field-0 c.in_ok-object.object ≡ Ok new = search rules in
    stands_in-lasts nodes new entry.at c.in-Some-parent_near.parent c.in-Some-parent_near.parent c.in_ok-to_name.field-0 c.in_ok-object.object found made
