use Rattle.std.proofs.Common.{◌≡◌, take}
use Rattle.layered_search.specs.System.{state_after}
use Rattle.example_systems.specs.Plain.{system_of}
use Rattle.example_systems.proofs.plain.after.Given as goal

abbrev pub invariant-loop-actor : goal.invariant-loop-actor
invariant-loop-actor g l = (l.state ≡ state_after (system_of (g.P.PlainSystem.plain l.plain)) (take l.actor-index l.turns))
