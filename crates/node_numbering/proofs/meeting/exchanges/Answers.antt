use Rattle.std.proofs.Common.{◌≡◌, ◌++◌, ◌-◌, ◌∙◌, List, length, arith, ap, sym, subst}
use Rattle.node_numbering.specs.declared.exchange.Exchange.{Exchange}
use Rattle.std.specs.Prelude.{Some, None}
use Rattle.std.proofs.lemmas.List.{append-nil}
use Rattle.node_numbering.specs.Exchanges.{AreWithin}
use Rattle.node_numbering.specs.Meeting.{found}
use Rattle.node_numbering.proofs.Exchanging.{within_more}
use Rattle.node_numbering.proofs.MeetingLaws.{goes, stops, ends, found_there, gives, keeps}
use Rattle.node_numbering.proofs.meeting.exchanges.Goals as goal
use Rattle.node_numbering.proofs.meeting.exchanges.Goals.{then-ne+in_ok-push, else-ne, else-loop-number-test, then-loop-number-test+in_default}

pub loop-number-preserved : goal.loop-number-preserved
loop-number-preserved c =
    let named = c.args.named.now in
    let nodes = c.args.nodes.now in
    let replies = c.args.replies.now in
    let known = c.args.known in
    let most = length nodes in
    let so_far = c.loop-number.exchanges.items in
    let number = c.new-one.ensures in
    let from = c.loop-number.auto.number in
    let below = c.loop-number-test.true in
    let other = c.in-Some.ensures in
    let at = c.loop-number.number in
    let met = c.in-Some.other in
    let here : found named nodes replies so_far at ≡ Some met =
    found_there named nodes replies so_far c.as_slice.result.now at c.new-one.result (Some met) c.as_slice.ensures.value number other.is in
    elim c.if-ne.branch [
      | then-ne+in_ok-push w ↦ record {
        within =
            subst (λ (es : List Exchange). AreWithin known most es) (sym (ap (λ v. v.items) w.exchanges-is ∙ w.in_ok-push.ensures.items))
            (within_more known most so_far (record { one = c.new-one.result; other = c.in-Some.other }) c.loop-number.invariant.within
            (omega (arith, number, from), omega (arith, number, below))
            (omega (arith, number, from, other.within.0), omega (arith, other.within.1)));
        met = sym (goes named nodes replies most at met so_far c.if-ne.exchanges.items below here
            (ap (λ v. v.items) w.exchanges-is ∙ w.in_ok-push.ensures.items ∙ ap (λ (es : List Exchange). so_far ++ es) (gives at c.new-one.result met number w.if-ne.ensures)))
            ∙ c.loop-number.invariant.met;
      }
      | else-ne w ↦ record {
        within = subst (λ (es : List Exchange). AreWithin known most es) (sym (ap (λ v. v.items) w.exchanges-is)) c.loop-number.invariant.within;
        met = sym (goes named nodes replies most at met so_far c.if-ne.exchanges.items below here
            (ap (λ v. v.items) w.exchanges-is ∙ sym (append-nil so_far) ∙ ap (λ (es : List Exchange). so_far ++ es) (keeps at c.new-one.result met number w.if-ne.ensures)))
            ∙ c.loop-number.invariant.met;
      }
    ]

pub returns-clause-met : goal.returns-clause-met
returns-clause-met c =
    elim c.loop-number-test.branch [
      | else-loop-number-test w ↦
          sym (ends c.args.named.now c.args.nodes.now c.args.replies.now (length c.args.nodes.now) c.loop-number.number c.loop-number.exchanges.items w.loop-number-test.false)
          ∙ c.loop-number.invariant.met
      | then-loop-number-test+in_default w ↦
          sym (stops c.args.named.now c.args.nodes.now c.args.replies.now (length c.args.nodes.now - c.loop-number.number) c.loop-number.number c.loop-number.exchanges.items
          (found_there c.args.named.now c.args.nodes.now c.args.replies.now c.loop-number.exchanges.items w.as_slice.result.now c.loop-number.number w.new-one.result None
          w.as_slice.ensures.value w.new-one.ensures (sym w.in_default.is ∙ w.found.ensures.is)))
          ∙ c.loop-number.invariant.met
    ]
