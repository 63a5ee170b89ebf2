use Rattle.std.proofs.Common.{take}
use Rattle.outcome_text.specs.Nearby.{AreSome}
use Rattle.outcome_text.proofs.nearby.with_lists.Given as goal

-- those so far are of the parts so far
abbrev pub invariant-loop-part : goal.invariant-loop-part
invariant-loop-part l = AreSome (take l.part-index l.parts) l.some.items
