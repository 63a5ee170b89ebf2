use Rattle.std.proofs.Common.{◌<◌, subst}
use Rattle.sessions.proofs.Closes.{not_own, is_own, lacks}
use Rattle.sessions.proofs.close.is_own.Goals as goal

pub loop-at-preserved-then-not-is_by : goal.loop-at-preserved-then-not-is_by
loop-at-preserved-then-not-is_by c = record {
  within = c.loop-at.invariant.within;
  same = not_own c.args.actor c.loop-at.at c.loop-at.next c.args.events.now.events c.args.log.now.events (subst (λ n. c.loop-at.at < n) c.len-at-end.ensures c.loop-at-test.true) c.loop-at.invariant.within c.loop-at.invariant.same
      c.is_by.result c.is_by.ensures c.if-not-is_by.true;
}

pub returns-in-None : goal.returns-in-None
returns-in-None c = (
  (λ t. absurd (cc)),
  (λ all. absurd (lacks c.args.actor c.loop-at.at c.loop-at.next c.args.events.now.events c.args.log.now.events (subst (λ n. c.loop-at.at < n) c.len-at-end.ensures c.loop-at-test.true) c.loop-at.invariant.within c.loop-at.invariant.same
      c.is_by.result c.is_by.ensures c.if-not-is_by.false c.in-None.ensures all)),
)

pub loop-at-preserved : goal.loop-at-preserved
loop-at-preserved c =
    let more = is_own c.args.actor c.loop-at.at c.loop-at.next c.args.events.now.events c.args.log.now.events (subst (λ n. c.loop-at.at < n) c.len-at-end.ensures c.loop-at-test.true) c.loop-at.invariant.within c.loop-at.invariant.same
    c.is_by.result c.is_by.ensures c.if-not-is_by.false c.in-Some.ensures.0 in
    record {
      within = rw c.in-Some.ensures.1 more.0;
      same = rw c.in-Some.ensures.1 more.1;
    }
