use Rattle.std.proofs.Common.{◌∙◌, ap, get_or, Some, arith}
use Rattle.schedule_graph.specs.declared.graph.Edge.{Edge}
use Rattle.schedule_graph.specs.Adding.{went, added}
use Rattle.schedule_graph.proofs.Spreading.{spread_ends, spread_unreached, spread_begun, spread_ended, spread_not, spread_on, cuts_fit}
use Rattle.schedule_graph.proofs.counting.spread.Goals as goal
use Rattle.schedule_graph.proofs.counting.spread.Goals.{then-to-next+in_ok-add_by, else-to-next}

pub returns-in_default : goal.returns-in_default
returns-in_default c =
    spread_ends c.args.layers.now c.args.k c.args.s c.args.next.now c.in_default.field-0 (c.node_at.ensures ∙ ap (λ x. Some x) c.in_default.is) c.requires.next

pub returns-in_default-least : goal.returns-in_default-least
returns-in_default-least c =
    spread_unreached c.args.layers.now c.args.k c.args.s c.args.next.now c.args.count.now c.requires.count c.in_default-least.is c.requires.next

pub loop-edge-init : goal.loop-edge-init
loop-edge-init c =
    spread_begun c.args.layers.now c.args.k c.args.s c.in-Goes.edges c.requires.layers (c.node_at.ensures ∙ ap (λ x. Some x) c.in-Goes.is)
    c.as_slice-edge-items.result.now c.as_slice-edge-items.ensures c.args.next.now c.requires.next

pub add_by-requires-clause-cuts : goal.add_by-requires-clause-cuts
add_by-requires-clause-cuts c =
    let few = cuts_fit c.args.layers.now c.args.k c.args.s c.args.count.now c.in-Some.least c.requires.count c.in-Some.is in omega (arith, few.0, c.requires.depth)

pub add_by-requires-clause-changes : goal.add_by-requires-clause-changes
add_by-requires-clause-changes c =
    let few = cuts_fit c.args.layers.now c.args.k c.args.s c.args.count.now c.in-Some.least c.requires.count c.in-Some.is in omega (arith, few.1.0, c.requires.depth)

pub add_by-requires-clause-labels : goal.add_by-requires-clause-labels
add_by-requires-clause-labels c =
    let few = cuts_fit c.args.layers.now c.args.k c.args.s c.args.count.now c.in-Some.least c.requires.count c.in-Some.is in omega (arith, few.1.1, c.requires.depth)

pub loop-edge-preserved : goal.loop-edge-preserved
loop-edge-preserved c =
    elim c.if-to-next.branch [
      | then-to-next+in_ok-add_by w ↦
          spread_on c.args.layers.now c.args.k c.args.s c.in-Goes.edges c.requires.layers (c.node_at.ensures ∙ ap (λ x. Some x) c.in-Goes.is)
          c.as_slice-edge-items.result.now c.as_slice-edge-items.ensures
          c.loop-edge.next c.loop-edge.edge-index c.loop-edge-test.true _ c.loop-edge.invariant c.number-to.result (c.number-to.ensures ∙ ap (λ (e : Edge). e.to) c.edge-item.is) c.args.count.now c.in-Some.least c.requires.count c.in-Some.is
          c.if-to-next.next w.index-next-to.result w.add_by.new.self w.next-is
          (w.in_ok-add_by.ensures ∙ ap (λ (e : Edge). added (get_or c.loop-edge.next c.number-to.result w.index-next-to.result) c.args.count.now.words (went c.in-Some.least e)) c.edge-item.is)
          w.if-to-next.true
      | else-to-next w ↦
          spread_not c.args.layers.now c.args.k c.args.s c.in-Goes.edges c.requires.layers (c.node_at.ensures ∙ ap (λ x. Some x) c.in-Goes.is)
          c.as_slice-edge-items.result.now c.as_slice-edge-items.ensures
          c.loop-edge.next c.loop-edge.edge-index c.loop-edge-test.true _ c.loop-edge.invariant c.number-to.result (c.number-to.ensures ∙ ap (λ (e : Edge). e.to) c.edge-item.is) c.if-to-next.next w.next-is w.if-to-next.false
    ]

pub returns : goal.returns
returns c =
    spread_ended c.args.layers.now c.args.k c.args.s c.in-Goes.edges c.requires.layers (c.node_at.ensures ∙ ap (λ x. Some x) c.in-Goes.is)
    c.as_slice-edge-items.result.now c.as_slice-edge-items.ensures
    c.loop-edge.next c.loop-edge.edge-index c.loop-edge.auto.edge-index-end c.loop-edge-test.false c.loop-edge.invariant
