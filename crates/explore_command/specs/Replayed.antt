-- What the schedule that is written with an outcome is worth.
use Rattle.std.specs.Prelude.{◌≡◌, false}
use Rattle.race_core.specs.Worlds.{WorldView, RunsTo, ledgers_in, kept_in}
use Rattle.local_states.specs.Worlds.{after_turns}
use Rattle.explore.specs.Explored.{Scope, EndingView, IsEnding}
use Rattle.outcome_text.specs.Schedule.{without_tail}

-- A run of the world by the schedule that is written with an outcome has the report of the outcome's list of turns,
-- with the outcome's tree and replies. The schedule is that list without the tail that each run adds.
abbrev pub WrittenSchedulesLeadThere : Type 0
WrittenSchedulesLeadThere = (w : WorldView) (scope : Scope) (ending : EndingView)
    → w.spent ≡ false → IsEnding w scope ending
    → let end = after_turns w ending.turns in
    RunsTo w (without_tail ending.turns) ending.tree end.book.events ending.replies (kept_in (ledgers_in end.seats))
