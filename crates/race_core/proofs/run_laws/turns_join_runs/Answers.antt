use Rattle.race_core.proofs.JoinedRuns.{turns_go_on, turns_join_runs}
use Rattle.race_core.proofs.run_laws.turns_join_runs.Goals as goal

pub returns : goal.returns
returns c = record { turns = turns_go_on; runs = turns_join_runs }
