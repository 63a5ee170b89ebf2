use Rattle.std.proofs.Common.{◌∙◌, ◌<◌, ap, arith, subst}
use Rattle.step_resolver.specs.Order.{more as walks_on, steps_left as walk_left}
use Rattle.step_resolver.specs.TurnView.{TakesTo as WalkTakesTo}
use Rattle.step_resolver.specs.View.{WalkView}
use Rattle.root_ops.specs.Order.{walking}
use Rattle.root_ops.specs.TurnView.{TakesTo}
use Rattle.root_ops.specs.View.{next_view}
use Rattle.root_ops.proofs.DrivenCalls.{walk_driven_on, walk_driven_out, taken_fewer}
use Rattle.root_ops.proofs.Rooms.{taken_by}
use Rattle.root_ops.proofs.driver.walk_on.Goals as goal

pub loop-answer-preserved-in-None : goal.loop-answer-preserved-in-None
loop-answer-preserved-in-None g c =
    let here = c.loop-answer.invariant in
    let passed = c.pass_due.ensures.passed c.in-None.is in
    let fewer = c.pass_due.ensures.fewer c.in-None.is in
    record {
      ours = (c.pass_due.ensures.kept.0 ∙ here.ours.0, c.pass_due.ensures.kept.1 ∙ here.ours.1);
      driven = walk_driven_on c.legal_histories_join.ensures.joined c.args.below.now c.args.aim _ _ _ _ c.loop-answer.walk c.pass_due.new.walk passed.0 here.ours.1
          (rw c.owner-actor.ensures at passed.1) passed.2 here.driven;
      few = omega (arith, fewer, here.few);
    }

pub loop-answer-preserved : goal.loop-answer-preserved
loop-answer-preserved g c =
    let here = c.loop-answer.invariant in
    let left = c.in-Some.ensures.left in
    let next = c.in-More.next in
    let taken = subst (λ (w : WalkView). WalkTakesTo w.way w.walking c.in-Some.answer (walks_on next.walking)) left.0 c.in-More.ensures.turn in
    let fewer = subst (λ (w : WalkView). walk_left next.walking < walk_left w.walking) left.0 c.in-More.ensures.fewer in
    record {
      ours = (
        c.in-More.ensures.kept.0 ∙ ap (λ (w : WalkView). w.owner) left.0 ∙ here.ours.0,
        c.in-More.ensures.kept.1 ∙ ap (λ (w : WalkView). w.way) left.0 ∙ here.ours.1,
      );
      driven = walk_driven_on c.legal_histories_join.ensures.joined c.args.below.now c.args.aim _ _ _ _ c.loop-answer.walk next c.in-Some.answer here.ours.1
          (rw c.owner-actor.ensures at left.1) taken here.driven;
      few = omega (arith, fewer, here.few);
    }

pub returns-in_default : goal.returns-in_default
returns-in_default g c =
    let below = c.args.below.now in
    let aim = c.args.aim in
    let here = c.loop-answer.invariant in
    let left = c.in-Some.ensures.left in
    let w = c.pass_due.new.walk in
    let to = next_view c.walked.result in
    let came : TakesTo below (walking w.walking aim) c.in-Some.answer to =
    taken_by below aim w c.in-Some.answer c.take.result to (ap (λ (v : WalkView). v.way) left.0 ∙ here.ours.1) c.take.ensures.turn c.walked.ensures.turn in
    let taken : TakesTo below (walking c.loop-answer.walk.walking aim) c.in-Some.answer to =
    subst (λ (v : WalkView). TakesTo below (walking v.walking aim) c.in-Some.answer to) left.0 came in
    let fewer = taken_fewer below (walking c.loop-answer.walk.walking aim) c.in-Some.answer to taken in
    record {
      driven = walk_driven_out c.legal_histories_join.ensures.joined below aim _ _ _ _ to c.loop-answer.walk c.in-Some.answer here.ours.1
          (rw c.owner-actor.ensures at left.1) taken here.driven;
      kept = c.walked.ensures.kept;
      fewer = omega (arith, fewer, here.few);
    }
