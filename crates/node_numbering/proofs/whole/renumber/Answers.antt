use Rattle.std.proofs.Common.{◌∙◌, List, length, ap, sym, subst, inl}
use Rattle.node_numbering.specs.declared.exchange.Exchange.{Exchange}
use Rattle.node_numbering.specs.Exchanges.{AreWithin, after_all, before_all}
use Rattle.node_numbering.specs.Renumbered.{replies_on, AreNodesOn}
use Rattle.node_numbering.proofs.Exchanging.{back_again, there_again, stays_outside, from_zero}
use Rattle.node_numbering.proofs.whole.renumber.Goals as goal

pub nodes_on-requires : goal.nodes_on-requires
nodes_on-requires c =
    subst (λ (es : List Exchange). AreWithin 0 (length c.args.nodes.now) es) (sym c.deref.ensures.value)
    (from_zero c.args.known (length c.args.nodes.now) c.in_ok-exchanges.exchanges.items c.in_ok-exchanges.ensures.within)

pub returns : goal.returns
returns c =
    let es = c.in_ok-exchanges.exchanges.items in
    let nodes : AreNodesOn (after_all es) c.args.nodes.now c.in_ok-nodes.nodes.items =
    subst (λ (ds : List Exchange). AreNodesOn (after_all ds) c.args.nodes.now c.in_ok-nodes.nodes.items) c.deref.ensures.value c.in_ok-nodes.ensures in
    let replies = c.in_ok-replies.ensures ∙ ap (λ (ds : List Exchange). replies_on (after_all ds) c.args.replies.now) c.deref-2.ensures.value in
    record {
      alike = record {
        f = after_all es;
        renumbering = record {
          back = before_all es;
          back_again = back_again es;
          there_again = there_again es;
          fixed = λ x lt. stays_outside c.args.known (length c.args.nodes.now) es x c.in_ok-exchanges.ensures.within (inl lt);
        };
        nodes_on = nodes;
        replies_on = replies;
      };
      met = record {
        nodes_on = subst (λ (ds : List Exchange). AreNodesOn (after_all ds) c.args.nodes.now c.in_ok-nodes.nodes.items) c.in_ok-exchanges.ensures.met nodes;
        replies_on = replies ∙ ap (λ (ds : List Exchange). replies_on (after_all ds) c.args.replies.now) c.in_ok-exchanges.ensures.met;
      };
    }
