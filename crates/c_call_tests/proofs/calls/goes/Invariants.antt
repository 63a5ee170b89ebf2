use Rattle.std.specs.Prelude.{◌≡◌, true, IsSome}
use Rattle.c_call_tests.proofs.calls.goes.Given as goal

abbrev pub invariant-loop-part : goal.invariant-loop-part
invariant-loop-part g l = record {
  kept : l.state.by_steps ≡ true → IsSome l.state.steps.held;
}
