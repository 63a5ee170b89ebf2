use Rattle.std.proofs.Common.{◌<◌, length, take, get_or, sym, subst, ◌∙◌}
use Rattle.std.proofs.lemmas.List.{take_more}
use Rattle.race_core.specs.Worlds.{Runs}
use Rattle.race_core.proofs.Running.{runs_more, is_within}
use Rattle.race_core.proofs.world.World.play.Goals as goal

pub turn_at-requires : goal.turn_at-requires
turn_at-requires g c =
    subst (λ n. get_or c.args.schedule.now c.loop-actor.actor-index 0 < n) (sym c.loop-actor.invariant.actors)
    (is_within (length c.args.self.now.seats) c.args.schedule.now c.loop-actor.actor-index c.requires c.loop-actor-test.true)

pub loop-actor-preserved : goal.loop-actor-preserved
loop-actor-preserved g c = record {
  runs = subst (λ is. Runs c.args.self.now is c.turn_at.new.self) (sym (take_more c.args.schedule.now c.loop-actor.actor-index 0 c.loop-actor-test.true))
      (runs_more c.args.self.now (take c.loop-actor.actor-index c.args.schedule.now) c.loop-actor.self c.turn_at.new.self _ c.loop-actor.invariant.runs c.in_ok-turn_at.ensures.turned);
  actors = c.turn_at.ensures.actors ∙ c.loop-actor.invariant.actors;
}
