use Rattle.std.proofs.Common.{◌∙◌, get_or}
use Rattle.explore.proofs.Lists.Replayed.{runs_turn_at, turn_actors}
use Rattle.explore.proofs.worlds.replayed.take_turns.Goals as goal

pub loop-actor-preserved : goal.loop-actor-preserved
loop-actor-preserved g c =
    let i = get_or c.args.turns.now c.loop-actor.actor-index 0 in
    let turned = c.in_ok-take_turn.ensures.turned in record {
      ran = runs_turn_at c.args.world.now c.loop-actor.world c.take_turn.new.world c.args.turns.now c.loop-actor.actor-index c.loop-actor-test.true c.loop-actor.invariant.ran turned;
      actors = turn_actors c.loop-actor.world c.take_turn.new.world i turned ∙ c.loop-actor.invariant.actors;
      tally = c.in_ok-take_turn.ensures.tally;
      told = c.take_turn.ensures.told ∙ c.loop-actor.invariant.told;
    }
