use Rattle.std.proofs.Common.{refl}
use Rattle.system_calls.proofs.ListingLemmas.{taken_more}
use Rattle.system_calls.proofs.records.take_names.Goals as goal

pub loop-rest-preserved : goal.loop-rest-preserved
loop-rest-preserved c =
    let before = c.loop-rest.invariant in
    let it = c.in-Some.ensures in
    taken_more c.args.records.now before.0 c.loop-rest.rest.now c.in-Some.name.now _ c.in-Some.size c.loop-rest.used c.in-Used.now
    c.args.room.now c.loop-rest.room c.take_name.new.room before.1 before.2 before.4 it.0 it.3 refl c.take_name.auto.room c.in-Used.ensures
