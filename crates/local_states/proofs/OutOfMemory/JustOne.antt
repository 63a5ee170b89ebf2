-- Runs without want on one schedule come to one end, which is that of a run where memory never ran short.
use Rattle.std.specs.Prelude.{◌≡◌, ℕ, List, [], ◌∷◌, ◌++◌, false, length, refl}
use Rattle.std.proofs.Common.{sym, ap, ◌∙◌}
use Rattle.tree_model.specs.declared.answer.Event.{Event}
use Rattle.tree_model.specs.State.{State}
use Rattle.handles.specs.Objects.{StandingObject}
use Rattle.race_core.specs.declared.report.Outcome.{Outcome}
use Rattle.race_core.specs.Worlds.{WorldView, turn, ledgers_in, replies_in, Runs, again, AllGoToEnd, numbers_below, RunsTo}
use Rattle.race_core.proofs.OneEnd.{plays, AllPlayed, OutPlayed, out_played, reports_of_one}
use Rattle.local_states.specs.JustOne.{ReportsWithoutOutOfMemoryAreOne, ReportsWithoutOutOfMemoryHadMemory}
use Rattle.local_states.specs.Worlds.{full}
use Rattle.local_states.specs.OutOfMemory.{EndsWell, replies_out_of_memory}
use Rattle.local_states.proofs.OutOfMemory.Lucky.{full_turn}
use Rattle.local_states.proofs.Lists.Runs.{runs_append, ends_run}
use Rattle.layered_search.proofs.Places.{ap_at, join}

-- what is on the way to such an end leads on to it
pub well_before : (w u : WorldView) (is : List ℕ) → Runs w is u → EndsWell u → EndsWell w
well_before w u is run well = record {
  turns = is ++ well.turns;
  end = well.end;
  run = runs_append w u well.end is well.turns run well.run;
  over = well.over;
  none = well.none;
}

-- so it was played with memory for all
well_played : (w u : WorldView) (is : List ℕ) → Runs w is u → EndsWell u → u ≡ plays w is
well_played w u [] run well = run
well_played w u (i ∷ is) run well =
    let next : WorldView = turn run.0 w i in
    let here : next ≡ turn full w i = full_turn run.0 w i (well_before next u is run.1 well) in
    join u (plays next is) (plays (turn full w i) is) (well_played next u is run.1 well)
    (ap_at (λ (x : WorldView). plays x is) next (turn full w i) here)

all_well : (is : List ℕ) (w v : WorldView) (gone : AllGoToEnd w is v) → EndsWell v → AllPlayed is w v gone
all_well [] w v gone well = tt
all_well (i ∷ is) w v gone well =
    let rest = ends_run gone.0 v is gone.2 in (
      well_played w gone.0 (again i gone.1.turns) gone.1.run (well_before gone.0 v rest.0 rest.1 well),
      all_well is gone.0 v gone.2 well,
    )

out_well : (w : WorldView) (schedule : List ℕ) (tree : State) (events : List Event) (replies : List (List Outcome))
    (kept : List StandingObject)
    (ran : RunsTo w schedule tree events replies kept) → replies_out_of_memory replies ≡ false
    → OutPlayed w schedule ran.end ran.runs
out_well w schedule tree events replies kept ran none =
    let quiet : replies_out_of_memory (replies_in (ledgers_in ran.end.seats)) ≡ false =
    sym (ap replies_out_of_memory ran.reports.are_replies) ∙ none in
    let well : EndsWell ran.end = record { turns = []; end = ran.end; run = refl; over = ran.over; none = quiet } in
    let rest = ends_run ran.runs.middle ran.end (numbers_below (length w.seats)) ran.runs.rest in
    record {
      scheduled = well_played w ran.runs.middle schedule ran.runs.scheduled
          (well_before ran.runs.middle ran.end rest.0 rest.1 well);
      rest = all_well (numbers_below (length w.seats)) ran.runs.middle ran.end ran.runs.rest well;
    }

pub without_out_of_memory_are_one : ReportsWithoutOutOfMemoryAreOne
without_out_of_memory_are_one w schedule tree events replies kept tree' events' replies' kept' one two none none' =
    reports_of_one w schedule tree events replies kept tree' events' replies' kept' one two
    (out_well w schedule tree events replies kept one none) (out_well w schedule tree' events' replies' kept' two none')

pub without_out_of_memory_had_memory : ReportsWithoutOutOfMemoryHadMemory
without_out_of_memory_had_memory w schedule tree events replies kept tree' events' replies' kept' one two had none' =
    reports_of_one w schedule tree events replies kept tree' events' replies' kept' one two
    (out_played w schedule one.end one.runs had) (out_well w schedule tree' events' replies' kept' two none')
