-- When two lists lead to the same outcome.
use Rattle.std.specs.Prelude.{ℕ, List}
use Rattle.race_core.specs.Worlds.{WorldView}
use Rattle.local_states.specs.Worlds.{after_turns}
use Rattle.local_states.proofs.Worlds.Ends.{tell_same, tell_turned, tell_on}
use Rattle.explore.specs.Explored.{Scope, AgreeIn}

pub agree_same : (w : WorldView) (scope : Scope) (is : List ℕ) → AgreeIn w scope is is
agree_same w scope is = tell_same scope.outside (after_turns w is)

pub agree_turned : (w : WorldView) (scope : Scope) (is js : List ℕ) → AgreeIn w scope is js → AgreeIn w scope js is
agree_turned w scope is js h = tell_turned scope.outside (after_turns w is) (after_turns w js) h

pub agree_on : (w : WorldView) (scope : Scope) (is js ks : List ℕ) → AgreeIn w scope is js → AgreeIn w scope js ks → AgreeIn w scope is ks
agree_on w scope is js ks h k = tell_on scope.outside (after_turns w is) (after_turns w js) (after_turns w ks) h k
