-- The world of what a script says, and its runs.
use Rattle.std.proofs.Common.{◌≡◌, ◌≤◌, List, length, ap, subst, arith}
use Rattle.std.specs.Prelude.{Ok}
use Rattle.explore.specs.Opened.{world_over, opened_world}
use Rattle.handles.specs.Objects.{StandingObject}
use Rattle.race_core.specs.declared.report.Outcome.{Outcome}
use Rattle.race_core.specs.Opening.{Opens}
use Rattle.race_core.specs.Worlds.{WorldView, RunsTo}
use Rattle.scripts.specs.Scenario.{Said, IsPlayable}
use Rattle.scripts.specs.Writing.{tree_of}
use Rattle.tree_model.specs.declared.answer.Event.{Event}
use Rattle.tree_model.specs.State.{State}
use Rattle.run_command.specs.Replay.{IsRunOf}
use Rattle.run_command.proofs.Replays.{said_roots}

-- the book has a line for each actor, so the world is made
pub opened : (said : Said) → IsPlayable said → length said.plans ≤ said.lines
    → Opens (tree_of said) said.plans said.lines (Ok (opened_world (tree_of said) said.plans said.lines))
opened said playable enough =
    let all = said_roots said playable in
    let counted = all.counted in
    let few = playable.few in
    let bounded = playable.bounded in
    record {
      few = omega (arith, few);
      roots = all.roots;
      are_granted = all.are;
      bounded = omega (arith, bounded);
      enough = omega (arith, counted, enough);
      is = ap (world_over (tree_of said) said.lines) all.are;
    }

-- a run of that world by the schedule that is said
pub run_of : (said : Said) (w : WorldView) (tree : State) (events : List Event) (replies : List (List Outcome)) (kept : List StandingObject)
    → IsPlayable said → length said.plans ≤ said.lines → w ≡ opened_world (tree_of said) said.plans said.lines
    → RunsTo w said.schedule tree events replies kept → IsRunOf said tree events replies
run_of said w tree events replies kept playable enough same ran =
    record {
      world = opened_world (tree_of said) said.plans said.lines;
      opened = opened said playable enough;
      kept = kept;
      ran = subst (λ (v : WorldView). RunsTo v said.schedule tree events replies kept) same ran;
    }
