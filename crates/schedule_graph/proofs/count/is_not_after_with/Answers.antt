use Rattle.std.proofs.Common.{sym, ◌∙◌, ◌++◌, ◌∷◌, [], arith}
use Rattle.std.proofs.lemmas.Option.{slice_get-get_or}
use Rattle.schedule_graph.proofs.Ranks.{past_end, not_after_differ, not_after_next}
use Rattle.schedule_graph.proofs.count.is_not_after_with.Goals as goal

pub returns-in_default : goal.returns-in_default
returns-in_default c =
    sym (c.loop-at.invariant ∙ past_end c.args.labels.now (c.args.others.now ++ c.args.last ∷ []) c.loop-at.at (omega (arith, c.loop-at-test.true))
    (sym c.label_at.ensures ∙ c.in_default.is))

pub returns-then-label-other : goal.returns-then-label-other
returns-then-label-other c =
    sym (c.loop-at.invariant ∙ not_after_differ c.args.labels.now (c.args.others.now ++ c.args.last ∷ []) c.loop-at.at _ c.in-Some.other
    (slice_get-get_or c.args.labels.now c.loop-at.at 0 (omega (arith, c.loop-at-test.true))) (sym c.label_at.ensures ∙ c.in-Some.is) c.if-label-other.true)

pub loop-at-preserved : goal.loop-at-preserved
loop-at-preserved c =
    c.loop-at.invariant ∙ not_after_next c.args.labels.now (c.args.others.now ++ c.args.last ∷ []) c.loop-at.at _ c.in-Some.other
    (slice_get-get_or c.args.labels.now c.loop-at.at 0 (omega (arith, c.loop-at-test.true))) (sym c.label_at.ensures ∙ c.in-Some.is) c.if-label-other.false
