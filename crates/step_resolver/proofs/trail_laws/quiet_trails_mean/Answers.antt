use Rattle.step_resolver.proofs.Trail.TrailOfObject.{quiet_meanings_are_reached}
use Rattle.step_resolver.proofs.Trail.MeaningOfTrail.{quiet_trails_mean}
use Rattle.step_resolver.proofs.trail_laws.quiet_trails_mean.Goals as goal

pub returns : goal.returns
returns c = record { means = quiet_trails_mean; reached = quiet_meanings_are_reached }
