use Rattle.std.proofs.Common.{◌≡◌, ◌∙◌, ◌++◌, ◌∷◌, [], drop, length, Some, None, ap, rules, arith}
use Rattle.std.proofs.Math.Seq.{take-append_seam}
use Rattle.tree_model.specs.State.{child}
use Rattle.tree_list.specs.Index.{PutsNode}
use Rattle.tree_list.proofs.Index.{index-one_more}
use Rattle.tree_list.proofs.indexed.IndexedNodesGrowingNodes.grow.Goals as goal

pub invariant_of-self-2 : goal.invariant_of-self-2
invariant_of-self-2 c =
    let nodes = c.self.inside.nodes.items in
    let free : child nodes c.args.at.parent c.args.at.name ≡ None = search rules in
    let more : c.push_reserved-2.new.self.items ≡ nodes ++ record { object = c.args.object; place = Some c.args.at } ∷ [] =
    c.push_reserved-2.ensures.items ∙ ap (λ items. items ++ record { object = c.args.object; place = Some c.args.at } ∷ []) c.reserve.ensures.items in
    let changed : PutsNode c.self.inside.index.items c.put.new.index c.args.at (length nodes) = search rules in
    let count : c.reserve-2.new.self.len ≡ length c.put.new.index = omega (arith, changed.count, ap length c.reserve-2.ensures.items, c.deref_mut.ensures.len) in
    let wider : c.push_reserved.new.self.items ≡ c.put.new.index ++ c.new.result ∷ [] =
    c.push_reserved.ensures.items ∙ ap (λ items. items ++ c.new.result ∷ []) (rw count (take-append_seam c.put.new.index (drop (length c.put.new.index) c.reserve-2.new.self.items))) in
    rw (more, wider) (index-one_more nodes c.self.inside.index.items c.put.new.index c.new.result c.args.object c.args.at c.self.invariant free changed c.new.ensures.empty)
