use Rattle.std.proofs.Common.{suc, ◌∙◌}
use Rattle.race_core.proofs.Running.{runs_again}
use Rattle.race_core.proofs.world.World.to_end.Goals as goal

pub turns-preserved : goal.turns-preserved
turns-preserved g c = record {
  turns = suc c.turns.invariant.turns;
  runs = runs_again c.args.self.now c.args.at c.turns.invariant.turns c.turns.self c.turn_at.new.self c.turns.invariant.runs c.in_ok-turn_at.ensures.turned;
  actors = c.turn_at.ensures.actors ∙ c.turns.invariant.actors;
  others = λ i ne. c.turn_at.ensures.others i ne ∙ c.turns.invariant.others i ne;
}
