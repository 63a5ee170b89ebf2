use Rattle.std.proofs.Common.{◌<◌, ℕ}
use Rattle.local_states.specs.Keys.{IsPartIn}
use Rattle.local_states.proofs.Parted.Parts.{row_of}
use Rattle.local_states.proofs.parts.Parts.place_of.Given as goal

abbrev pub invariant-loop-at : goal.invariant-loop-at
invariant-loop-at g l = (k : ℕ) → k < l.at → IsPartIn (row_of l.self-inside.actor l.self-inside.outcomes l.self-inside.parts.items) l.world k → ⊥
