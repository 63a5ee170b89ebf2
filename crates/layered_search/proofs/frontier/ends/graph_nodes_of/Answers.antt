use Rattle.std.proofs.Common.{◌≡◌, ◌∙◌, ◌⊎◌, ◌++◌, ◌∷◌, [], ap, sym, length, inl, inr, ⊎_elim}
use Rattle.std.specs.Iterator.Adapters.{zip_first, zip_second}
use Rattle.std.specs.Slice.Iter.{iter_rest}
use Rattle.std.specs.Vec.Iter.{into_iter_items}
use Rattle.schedule_graph.specs.declared.graph.Node.{Node}
use Rattle.layered_search.proofs.Layers.Endings.{spotted_none, spotted_more, spotted_all, spotted_each}
use Rattle.layered_search.proofs.frontier.ends.graph_nodes_of.Goals as goal

pub loop-configuration-init : goal.loop-configuration-init
loop-configuration-init c =
    let from = c.into_iter-configuration-iterator.ensures.into_iter_gives in
    spotted_none c.args.configurations.now c.args.end_classes.now c.args.all.items
    (iter_rest (zip_first c.into_iter-configuration-iterator.result))
    (into_iter_items (zip_second c.into_iter-configuration-iterator.result)) c.in_ok-graph_nodes.graph_nodes.items
    c.in_ok-graph_nodes.ensures.items
    (ap (λ it. iter_rest (zip_first it)) from
    ∙ (ap iter_rest c.zip-configuration-items.ensures.first ∙ c.iter.ensures.rest))
    (ap (λ it. into_iter_items (zip_second it)) from ∙ c.zip-configuration-items.ensures.second.0)

pub loop-configuration-preserved : goal.loop-configuration-preserved
loop-configuration-preserved c =
    spotted_more c.args.configurations.now c.args.end_classes.now c.args.all.items
    (iter_rest (zip_first c.loop-configuration.configuration-iterator))
    (into_iter_items (zip_second c.loop-configuration.configuration-iterator)) c.loop-configuration.graph_nodes.items
    c.requires.on c.requires.apart c.loop-configuration.invariant c.in-Some.configuration.now
    (iter_rest (zip_first c.next.new.self)) c.in-Some.edges (into_iter_items (zip_second c.next.new.self))
    c.push.new.self.items c.in-Some.ensures.steps.0 c.in-Some.ensures.steps.1.0
    (c.in_ok-push.ensures.items
    ∙ ap (λ (x : Node). c.loop-configuration.graph_nodes.items ++ x ∷ []) c.graph_node_by.ensures)

pub returns : goal.returns
returns c =
    let left = iter_rest (zip_first c.loop-configuration.configuration-iterator) in
    let others = into_iter_items (zip_second c.loop-configuration.configuration-iterator) in
    let none : (length left ≡ 0) ⊎ (length others ≡ 0) =
    ⊎_elim (λ h. inl h.1.0)
    (λ h. inr (sym (zip_second c.loop-configuration.configuration-iterator).rest.ok.0 ∙ h.1.0))
    c.in-None.ensures.steps in
    let so = c.loop-configuration.invariant in
    record {
      many =
          spotted_all c.args.configurations.now c.args.end_classes.now c.args.all.items left others
          c.loop-configuration.graph_nodes.items c.requires.many so none;
      each =
          spotted_each c.args.configurations.now c.args.end_classes.now c.args.all.items left others
          c.loop-configuration.graph_nodes.items c.requires.many so none;
      apart = so.apart;
    }
