-- A report that tells of no want.
use Rattle.std.specs.Prelude.{◌≡◌, List, [], ◌++◌, false, length}
use Rattle.std.proofs.Common.{sym, ap, ◌∙◌}
use Rattle.tree_model.specs.declared.answer.Event.{Event}
use Rattle.tree_model.specs.State.{State}
use Rattle.handles.specs.Objects.{StandingObject}
use Rattle.race_core.specs.declared.report.Outcome.{Outcome}
use Rattle.race_core.specs.Worlds.{WorldView, RunsTo, numbers_below}
use Rattle.local_states.specs.OutOfMemory.{EndsWell, replies_out_of_memory}
use Rattle.local_states.proofs.Lists.Runs.{runs_append, ends_run}

pub ends_well : (u : WorldView) (tree : State) (events : List Event) (replies : List (List Outcome)) (kept : List StandingObject)
    → RunsTo u [] tree events replies kept → replies_out_of_memory replies ≡ false → EndsWell u
ends_well u tree events replies kept ran none =
    let rest = ends_run ran.runs.middle ran.end (numbers_below (length u.seats)) ran.runs.rest in record {
      turns = [] ++ rest.0;
      end = ran.end;
      run = runs_append u ran.runs.middle ran.end [] rest.0 ran.runs.scheduled rest.1;
      over = ran.over;
      none = sym (ap replies_out_of_memory ran.reports.are_replies) ∙ none;
    }
