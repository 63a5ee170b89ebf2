use Rattle.std.proofs.Common.{sym, ◌∙◌, refl, arith}
use Rattle.std.proofs.lemmas.Bool.{true≢false, false≢true}
use Rattle.local_states.specs.Paired.{AreAt}
use Rattle.local_states.proofs.Parted.Paired.{at_places, paired_more, paired_all}
use Rattle.local_states.proofs.handle_tables.are_given_pairs.Goals as goal

pub returns-then-not-are_given_as : goal.returns-then-not-are_given_as
returns-then-not-are_given_as c =
    let at : AreAt c.args.handles.now c.args.others.now c.loop-at.at c.index-handles-at.result c.index-others-at.result =
    at_places _ _ _ _ _ c.loop-at-test.true (omega arith) c.index-handles-at.is c.index-others-at.is in (
      (λ t. absurd (false≢true t)),
      (λ p. absurd (true≢false (sym (c.are_given_as.ensures.1 (p.given _ _ _ at)) ∙ c.if-not-are_given_as.true))),
    )

pub returns-then-not-is_apart_before : goal.returns-then-not-is_apart_before
returns-then-not-is_apart_before c =
    let at : AreAt c.args.handles.now c.args.others.now c.loop-at.at c.index-handles-at.result c.index-others-at.result =
    at_places _ _ _ _ _ c.loop-at-test.true (omega arith) c.index-handles-at.is c.index-others-at.is in (
      (λ t. absurd (false≢true t)),
      (λ p. absurd (true≢false (sym (c.is_apart_before.ensures.1 (p.apart _ _ _ at)) ∙ c.if-not-is_apart_before.true))),
    )

pub loop-at-preserved : goal.loop-at-preserved
loop-at-preserved c =
    paired_more c.args.given c.args.others_given c.args.handles.now c.args.others.now c.loop-at.at c.index-handles-at.result c.index-others-at.result
    c.loop-at.invariant
    (at_places _ _ _ _ _ c.loop-at-test.true (omega arith) c.index-handles-at.is c.index-others-at.is)
    (c.are_given_as.ensures.0 c.if-not-are_given_as.false)
    (c.is_apart_before.ensures.0 c.if-not-is_apart_before.false)

pub returns : goal.returns
returns c =
    ((λ t. paired_all c.args.given c.args.others_given c.args.handles.now c.args.others.now c.loop-at.at c.loop-at-test.false c.loop-at.invariant), (λ p. refl))
