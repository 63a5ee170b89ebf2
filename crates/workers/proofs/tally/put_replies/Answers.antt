use Rattle.std.proofs.Common.{◌≡◌, ◌∷◌, length, ◌<◌, slice_get, ◌∙◌, arith, rules}
use Rattle.std.specs.Vec.Iter.{into_iter_items}
use Rattle.workers.proofs.Tallies.{last_of_next}
use Rattle.workers.proofs.tally.put_replies.Goals as goal

pub loop-numbered-preserved : goal.loop-numbered-preserved
loop-numbered-preserved c = λ job within.
    let inside : job < length c.loop-numbered.replies = omega (arith, within, c.put_reply.auto.replies) in
    let items : into_iter_items c.loop-numbered.numbered-iterator ≡ c.in-Some.numbered ∷ into_iter_items c.next.new.self = search rules in
    last_of_next job (slice_get c.loop-numbered.replies job) (slice_get c.put_reply.new.replies job) c.in-Some.numbered _ _ items (c.put_reply.ensures job inside) ∙ c.loop-numbered.invariant job inside
