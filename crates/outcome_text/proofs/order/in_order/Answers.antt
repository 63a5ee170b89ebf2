use Rattle.std.proofs.lemmas.List.Sorted.{answers_always}
use Rattle.outcome_text.proofs.Sorting.{sorts, sorted_in_order}
use Rattle.outcome_text.proofs.order.in_order.Goals as goal

pub returns : goal.returns
returns c =
    let clause = c.in_ok-sort_by.ensures in
    sorted_in_order c.args.all.items c.sort_by.new.self.items
    (clause.sorted _ sorts (answers_always _ _ _ (λ f a r g called. called.met)))
    (clause.stable _ sorts (answers_always _ _ _ (λ f a r g called. called.met)))
