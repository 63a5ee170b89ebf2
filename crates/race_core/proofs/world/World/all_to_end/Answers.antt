use Rattle.std.proofs.Common.{◌≡◌, ◌∙◌, ap, length, vec_len, arith}
use Rattle.race_core.specs.Worlds.{WorldView}
use Rattle.race_core.proofs.Running.{below_more, over_more, all_over}
use Rattle.race_core.proofs.world.World.all_to_end.Goals as goal

pub loop-at-preserved : goal.loop-at-preserved
loop-at-preserved g c = record {
  rest = below_more c.args.self.now c.loop-at.self c.to_end.new.self c.loop-at.at c.loop-at.invariant.rest c.in_ok-to_end.ensures.end;
  actors = c.to_end.ensures.actors ∙ c.loop-at.invariant.actors;
  over = over_more c.loop-at.self.seats c.to_end.new.self.seats c.loop-at.at c.loop-at.invariant.over c.in_ok-to_end.ensures.end.over c.to_end.ensures.others;
}

pub returns-clause-over : goal.returns-clause-over
returns-clause-over g c =
    let seen : length c.self.inside.seats.items ≡ length c.args.self.now.seats = ap (λ (w : WorldView). length w.seats) c.self.view_is in
    let counted : vec_len c.self.inside.seats ≡ length c.self.inside.seats.items = c.self.inside.seats.ok.0 in
    let same : length c.loop-at.self.seats ≡ length c.args.self.now.seats = c.loop-at.invariant.actors in
    all_over c.loop-at.self.seats (λ i h. c.loop-at.invariant.over i (omega (arith, h, seen, counted, same)))
