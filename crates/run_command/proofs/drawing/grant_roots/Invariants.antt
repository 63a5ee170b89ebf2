use Rattle.std.proofs.Common.{◌≡◌, drop}
use Rattle.race_core.specs.Opening.{granted}
use Rattle.run_command.specs.Drawing.{opened_by}
use Rattle.run_command.proofs.drawing.grant_roots.Given as goal

-- the roots that are left lead on to where all lead
abbrev pub invariant-loop-actor : goal.invariant-loop-actor
invariant-loop-actor l = opened_by (granted l.tree l.actor (drop l.actor l.plans)) ≡ opened_by (granted l.fn.tree 0 l.plans)
