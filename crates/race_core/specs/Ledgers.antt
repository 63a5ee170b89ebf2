-- What an actor of a world has to do, and what came of it, as contracts see it.
use Rattle.std.specs.Prelude.{List, Option}
use Rattle.handles.specs.Objects.{StandingObject}
use Rattle.step_resolver.specs.declared.walk.Root.{Root}
use Rattle.race_core.specs.declared.plan.Planned.{Planned}
use Rattle.race_core.specs.declared.report.Outcome.{Outcome}

-- The root; the calls to come; the outcomes of those that ended, and of each what it opened and still keeps; and
-- what was another owner's to release.
pub record LedgerView : Type 0 where
  pub root : Root
  pub to_come : List Planned
  pub outcomes : List Outcome
  pub standings : List (Option StandingObject)
  pub kept : List StandingObject
