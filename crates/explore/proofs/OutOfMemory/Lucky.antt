-- A run to an end that tells of no want had memory for each turn: so did what was gone through on the way.
use Rattle.std.specs.Prelude.{◌≡◌, ℕ, List, [], ◌∷◌, ◌++◌}
use Rattle.race_core.specs.Turns.{Luck}
use Rattle.race_core.specs.Worlds.{WorldView, turn, Runs}
use Rattle.local_states.specs.Worlds.{full, after_turns}
use Rattle.local_states.specs.OutOfMemory.{EndsWell}
use Rattle.layered_search.proofs.Places.{ap_at, join}
use Rattle.local_states.proofs.OutOfMemory.Lucky.{full_turn}
use Rattle.local_states.proofs.OutOfMemory.JustOne.{well_before}

pub runs_full : (w v : WorldView) (is : List ℕ) → Runs w is v → EndsWell v → v ≡ after_turns w is
runs_full w v [] run well = run
runs_full w v (i ∷ is) run well =
    let rest : v ≡ after_turns (turn run.0 w i) is = runs_full (turn run.0 w i) v is run.1 well in
    let here : turn run.0 w i ≡ turn full w i = full_turn run.0 w i (well_before (turn run.0 w i) v is run.1 well) in
    join v (after_turns (turn run.0 w i) is) (after_turns (turn full w i) is) rest
    (ap_at (λ (u : WorldView). after_turns u is) (turn run.0 w i) (turn full w i) here)

pub runs_push : (w v u : WorldView) (is : List ℕ) (i : ℕ) (luck : Luck) → Runs w is v → u ≡ turn luck v i
    → Runs w (is ++ i ∷ []) u
runs_push w v u [] i luck run e =
    (luck, join u (turn luck v i) (turn luck w i) e (ap_at (λ (x : WorldView). turn luck x i) v w run))
runs_push w v u (j ∷ js) i luck run e = (run.0, runs_push (turn run.0 w j) v u js i luck run.1 e)
