use Rattle.std.proofs.Common.{◌≡◌, ◌∷◌, rules}
use Rattle.std.specs.Vec.Iter.{into_iter_items}
use Rattle.run_command.proofs.Releases.{released_next, next_there, rest_there, stays_in_place}
use Rattle.run_command.proofs.jobs.release_all.Goals as goal

pub release-requires : goal.release-requires
release-requires g c =
    let now = c.loop-standing in
    let others = into_iter_items c.next.new.self in
    let items : into_iter_items now.standing-iterator ≡ c.in-Some.standing ∷ others = search rules in
    record { in_place = now.invariant.in_place; ours = next_there c.args.service.now c.in-Some.standing others (into_iter_items now.standing-iterator) items now.invariant.ours }

pub loop-standing-preserved : goal.loop-standing-preserved
loop-standing-preserved g c =
    let now = c.loop-standing in
    let others = into_iter_items c.next.new.self in
    let items : into_iter_items now.standing-iterator ≡ c.in-Some.standing ∷ others = search rules in
    record {
      released =
          released_next c.args.service.now c.in-Some.standing others (into_iter_items now.standing-iterator) c.args.opened.items c.args.sessions.now now.sessions c.release.new.sessions
          items c.release.ensures now.invariant.released;
      in_place = stays_in_place c.args.service.now c.in-Some.standing now.sessions c.release.new.sessions now.invariant.in_place c.release.ensures;
      ours = rest_there c.args.service.now c.in-Some.standing others (into_iter_items now.standing-iterator) items now.invariant.ours;
    }
