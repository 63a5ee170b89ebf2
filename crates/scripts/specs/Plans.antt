-- What a script's actors do, over the data that its JSON text is.
use Rattle.std.specs.Prelude.{ℕ, List, Result, Ok, Err, codes}
use Rattle.serde_json.specs.Data.{Data, Items}
use Rattle.path_text.specs.declared.errno.Errno.{Errno}
use Rattle.race_core.specs.declared.plan.ActorPlan.{ActorPlan}
use Rattle.tree_model.specs.declared.inode.Inode.{Inode}
use Rattle.tree_model.specs.Entries.{with_some, refuse_if}
use Rattle.tree_model.specs.State.{TOP}
use Rattle.tree_model.specs.Steps.{directory_at}
use Rattle.scripts.specs.declared.calls.Purpose.{Purpose}
use Rattle.scripts.specs.declared.calls.Version.{Version}
use Rattle.scripts.specs.declared.fault.Cause.TheVariants.{Shape, Refused}
use Rattle.scripts.specs.declared.fault.ScriptFault.{ScriptFault}
use Rattle.scripts.specs.declared.fault.ScriptFault.TheVariants.{Actors, TooManyActors, Actor, TooManyCalls}
use Rattle.scripts.specs.Actors.{root_of}
use Rattle.scripts.specs.Calls.{calls_of}
use Rattle.scripts.specs.Checks.{has_none, are_over, then_with, each}
use Rattle.scripts.specs.Fields.{list_in}
use Rattle.scripts.specs.Limits.{MOST_ACTORS, MOST_CALLS}

-- the directory that is actor k's root
abbrev pub root_at : ℕ → Result ℕ Errno → Result ℕ ScriptFault
root_at k (Err error) = Err (Actor k (Refused error))
root_at k (Ok r) = Ok r

-- actor k: its root by names, which lead to a directory of these nodes, and its calls
abbrev pub actor_at : Purpose → List Inode → Version → ℕ → Data → Result ActorPlan ScriptFault
actor_at purpose nodes version k d =
    with_some (root_of d) (Err (Actor k Shape)) (λ names.
    with_some (list_in (codes "calls") d) (Err (Actor k Shape)) (λ items.
    then_with (root_at k (directory_at nodes TOP names)) (λ root.
    refuse_if (are_over MOST_CALLS items) (Err (TooManyCalls k))
    (then_with (calls_of purpose version k items) (λ calls. Ok (record { root = names; calls = calls }))))))

-- the actors, of which there is one at least
abbrev pub actors_in : Data → Result Items ScriptFault
actors_in d =
    with_some (list_in (codes "actors") d) (Err Actors) (λ items.
    refuse_if (has_none items) (Err Actors)
    (refuse_if (are_over MOST_ACTORS items) (Err TooManyActors) (Ok items)))

-- what each actor does, or the first check that fails
abbrev pub actors_of : Purpose → List Inode → Version → Data → Result (List ActorPlan) ScriptFault
actors_of purpose nodes version d = then_with (actors_in d) (each (actor_at purpose nodes version) 0)
