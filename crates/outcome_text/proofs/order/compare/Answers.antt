use Rattle.std.proofs.Common.{ap, ◌∙◌}
use Rattle.std.specs.Cmp.Lexicographic.{slice_cmp}
use Rattle.std.specs.Ordering.{is_lt, nat_cmp, ordering_then}
use Rattle.schedule_graph.specs.Words.{is_less_or, is_not_after}
use Rattle.schedule_graph.proofs.Ranks.{then_less, lists_less}
use Rattle.outcome_text.proofs.order.compare.Goals as goal

pub returns : goal.returns
returns c =
    let told = c.args.told.now in
    let other = c.args.other.now in
    let turns =
    ap is_lt c.cmp-turns.ensures ∙ (λ i. is_lt (slice_cmp nat_cmp (c.as_slice.ensures.value i) (c.as_slice-2.ensures.value i)))
    ∙ lists_less told.turns.items other.turns.items in
    let after = is_not_after other.turns.items told.turns.items in
    let changes =
    ap is_lt c.then.ensures ∙ (λ i. is_lt (ordering_then (c.cmp-changes.ensures i) c.cmp-turns.result))
    ∙ then_less told.changes other.changes c.cmp-turns.result after turns in
    ap is_lt c.then-2.ensures ∙ (λ i. is_lt (ordering_then (c.cmp.ensures i) c.then.result))
    ∙ then_less told.cuts other.cuts c.then.result (is_less_or other.changes told.changes after) changes
