-- The schedule of a script, over the data that its JSON text is.
use Rattle.std.specs.Prelude.{ℕ, List, [], if◌then◌else◌, nat_lt, Option, Some, None, option_and_then, Result, Ok, Err, codes}
use Rattle.serde_json.specs.Data.{Data}
use Rattle.serde_json.specs.Find.{get, as_number, as_u64, as_array}
use Rattle.tree_model.specs.Entries.{with_some, refuse_if}
use Rattle.scripts.specs.declared.fault.ScriptFault.{ScriptFault}
use Rattle.scripts.specs.declared.fault.ScriptFault.TheVariants.{Schedule, TooManyTurns, Turn}
use Rattle.scripts.specs.Checks.{are_over, each}
use Rattle.scripts.specs.Limits.{MOST_TURNS}

-- turn k: the number of one of so many actors
abbrev pub turn_at : ℕ → ℕ → Data → Result ℕ ScriptFault
turn_at actors k d =
    with_some (option_and_then as_u64 (as_number d)) (Err (Turn k))
    (λ actor. if nat_lt actor actors then Ok actor else Err (Turn k))

abbrev pub schedule_by : ℕ → Option Data → Result (List ℕ) ScriptFault
schedule_by actors None = Ok []
schedule_by actors (Some d) =
    with_some (as_array d) (Err Schedule) (λ items.
    refuse_if (are_over MOST_TURNS items) (Err TooManyTurns) (each (turn_at actors) 0 items))

-- the schedule of so many actors, empty where the key is missing
abbrev pub schedule_of : ℕ → Data → Result (List ℕ) ScriptFault
schedule_of actors d = schedule_by actors (get (codes "schedule") d)
