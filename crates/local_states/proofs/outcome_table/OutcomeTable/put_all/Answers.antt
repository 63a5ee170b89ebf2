use Rattle.local_states.proofs.Parted.Parts.{named_next}
use Rattle.local_states.proofs.outcome_table.OutcomeTable.put_all.Goals as goal

pub loop-outcome-preserved : goal.loop-outcome-preserved
loop-outcome-preserved c = record {
  keeps = λ k x e. c.put.ensures.keeps k x (c.loop-outcome.invariant.keeps k x e);
  are = named_next c.loop-outcome.self c.put.new.self c.loop-outcome.places.items c.push.new.self.items c.in_ok-put.field-0
      c.args.outcomes.now c.loop-outcome.outcome-index c.outcome-item.result c.loop-outcome-test.true c.outcome-item.is
      c.put.ensures.keeps c.loop-outcome.invariant.are c.in_ok-put.ensures.there c.in_ok-push.ensures.items;
}
