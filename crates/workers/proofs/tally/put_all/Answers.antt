use Rattle.std.proofs.Common.{◌≡◌, ◌∷◌, length, ◌<◌, slice_get, ◌∙◌, arith, rules}
use Rattle.std.specs.Vec.Iter.{into_iter_items}
use Rattle.workers.proofs.Tallies.{last_of_more}
use Rattle.workers.proofs.tally.put_all.Goals as goal

pub loop-told-preserved : goal.loop-told-preserved
loop-told-preserved c = λ job within.
    let inside : job < length c.loop-told.replies = omega (arith, within, c.put_replies.auto.replies) in
    let items : into_iter_items c.loop-told.told-iterator ≡ c.in-Some.told ∷ into_iter_items c.next.new.self = search rules in
    last_of_more job (slice_get c.loop-told.replies job) (slice_get c.put_replies.new.replies job) c.in-Some.told _ _ items (c.put_replies.ensures job inside) ∙ c.loop-told.invariant job inside
