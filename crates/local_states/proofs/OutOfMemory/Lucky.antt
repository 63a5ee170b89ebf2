-- A turn that leads to such an end had memory.
use Rattle.std.specs.Prelude.{◌≡◌, ℕ, ◌∷◌, true}
use Rattle.std.proofs.Common.{sym, ◌∙◌, ⊎_elim}
use Rattle.std.proofs.lemmas.Bool.{true≢false}
use Rattle.race_core.specs.Turns.{Luck}
use Rattle.race_core.specs.Worlds.{WorldView, turn}
use Rattle.local_states.specs.Worlds.{full}
use Rattle.local_states.specs.OutOfMemory.{EndsWell, seats_out_of_memory}
use Rattle.local_states.proofs.OutOfMemory.OutOfMemoryWorlds.{turn_tells, run_stays, told_at_end}

no_out_of_memory : (u : WorldView) → EndsWell u → seats_out_of_memory u.seats ≡ true → ⊥
no_out_of_memory u well wants = true≢false (sym (told_at_end well.end.seats well.over (run_stays u well.end well.turns well.run wants)) ∙ well.none)

pub full_turn : (luck : Luck) (w : WorldView) (i : ℕ) → EndsWell (turn luck w i) → turn luck w i ≡ turn full w i
full_turn luck w i well = ⊎_elim (λ same. same) (λ wants. absurd (no_out_of_memory (turn luck w i) well wants)) (turn_tells luck w i)

-- what was before such a turn comes to the same end
pub well_turned : (luck : Luck) (w : WorldView) (i : ℕ) → EndsWell (turn luck w i) → EndsWell w
well_turned luck w i well = record { turns = i ∷ well.turns; end = well.end; run = (luck, well.run); over = well.over; none = well.none }
