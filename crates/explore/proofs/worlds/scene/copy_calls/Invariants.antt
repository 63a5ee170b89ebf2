use Rattle.std.proofs.Common.{◌≡◌, take}
use Rattle.explore.proofs.worlds.scene.copy_calls.Given as goal

abbrev pub invariant-loop-call : goal.invariant-loop-call
invariant-loop-call l = l.copies ≡ take l.call-index l.calls
