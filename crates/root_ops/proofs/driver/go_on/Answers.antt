use Rattle.root_ops.proofs.DrivenCalls.{drives_on}
use Rattle.root_ops.proofs.driver.go_on.Goals as goal

pub loop-next-preserved-in-Walks : goal.loop-next-preserved-in-Walks
loop-next-preserved-in-Walks g c =
    let below = c.args.below.now in
    record {
      ours = c.walk_on-next.ensures.kept;
      driven = drives_on c.legal_histories_join.ensures.joined below below.root.owner.actor _ _ _ _ _ _ (rw c.in-Walks.is at c.loop-next.invariant.driven) c.walk_on-next.ensures.driven;
    }

pub loop-next-preserved : goal.loop-next-preserved
loop-next-preserved g c =
    let below = c.args.below.now in
    record {
      ours = c.act-next.ensures.kept;
      driven = drives_on c.legal_histories_join.ensures.joined below below.root.owner.actor _ _ _ _ _ _ (rw c.in-Due.is at c.loop-next.invariant.driven) c.act-next.ensures.driven;
    }

pub returns-in-Due-Acting-clause-driven : goal.returns-in-Due-Acting-clause-driven
returns-in-Due-Acting-clause-driven g c =
    let below = c.args.below.now in
    drives_on c.legal_histories_join.ensures.joined below below.root.owner.actor _ _ _ _ _ _
    (rw (c.in-Due-Acting.is, c.in-Due-Acting.field-0-is) at c.loop-next.invariant.driven) c.finish.ensures.driven
