use Rattle.std.proofs.Common.{◌≡◌, drop}
use Rattle.race_core.specs.Worlds.{first_beyond}
use Rattle.race_core.proofs.world.first_beyond.Given as goal

abbrev pub invariant-loop-actor : goal.invariant-loop-actor
invariant-loop-actor l = first_beyond l.actors l.schedule ≡ first_beyond l.actors (drop l.actor-index l.schedule)
