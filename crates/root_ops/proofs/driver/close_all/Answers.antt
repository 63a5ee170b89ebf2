use Rattle.std.proofs.Common.{[], ◌∷◌}
use Rattle.root_ops.specs.Order.{gives}
use Rattle.root_ops.proofs.DrivenCalls.{closed_one, closed_two, drives_on}
use Rattle.root_ops.proofs.driver.close_all.Goals as goal

pub returns-in-One : goal.returns-in-One
returns-in-One g c = λ reply.
    rw c.in-One.is (closed_one c.args.below.now _ _ c.in-One.first [] (gives reply) c.close.ensures.0 (rw c.owner-actor.ensures at c.close.ensures.1))

pub returns-in-Two : goal.returns-in-Two
returns-in-Two g c = λ reply.
    rw c.in-Two.is (
    closed_two c.legal_histories_join.ensures.joined c.args.below.now _ _ _ c.in-Two.first c.in-Two.second [] (gives reply) c.close-in-Two.ensures.0 c.close-in-Two-2.ensures.0
    (rw c.owner-actor.ensures at c.close-in-Two.ensures.1) (rw c.owner-actor.ensures at c.close-in-Two-2.ensures.1)
    )

pub returns-in-Three : goal.returns-in-Three
returns-in-Three g c = λ reply.
    let below = c.args.below.now in
    let join = c.legal_histories_join.ensures.joined in
    let third = c.in-Three.third in
    rw c.in-Three.is (
    drives_on join below below.root.owner.actor _ _ _ _ _ _
    (closed_two join below _ _ _ c.in-Three.first c.in-Three.second (third ∷ []) (gives reply) c.close-in-Three.ensures.0 c.close-in-Three-2.ensures.0
    (rw c.owner-actor.ensures at c.close-in-Three.ensures.1) (rw c.owner-actor.ensures at c.close-in-Three-2.ensures.1))
    (closed_one below _ _ third [] (gives reply) c.close-in-Three-3.ensures.0 (rw c.owner-actor.ensures at c.close-in-Three-3.ensures.1))
    )
