-- What a whole script says, over the data that its JSON text is (RFC 8259, as serde_json reads it). The checks are
-- made in this order, and the first that fails is told.
use Rattle.std.specs.Prelude.{⊤, ℕ, ◌<◌, ◌≤◌, ◌&&◌, List, [], ◌∷◌, length, if◌then◌else◌, nat_le, Option, Some, None, option_and_then, Result, Ok, Err, All, IsOk, IsTrue, codes}
use Rattle.serde_json.specs.Data.{Data}
use Rattle.serde_json.specs.Find.{get, as_number, as_u64}
use Rattle.race_core.specs.declared.plan.ActorPlan.{ActorPlan}
use Rattle.race_core.specs.declared.plan.Planned.{Planned}
use Rattle.tree_model.specs.declared.inode.Inode.{Inode}
use Rattle.tree_model.specs.Entries.{with_some}
use Rattle.tree_model.specs.State.{State, TOP}
use Rattle.tree_model.specs.Steps.{directory_at}
use Rattle.scripts.specs.declared.calls.Purpose.{Purpose}
use Rattle.scripts.specs.declared.calls.Purpose.TheVariants.{Turns, Jobs}
use Rattle.scripts.specs.declared.fault.ScriptFault.{ScriptFault}
use Rattle.scripts.specs.declared.fault.ScriptFault.TheVariants.{Lines, Tree}
use Rattle.scripts.specs.declared.scenario.Header.{Header}
use Rattle.scripts.specs.declared.scenario.Scenario.{Scenario}
use Rattle.scripts.specs.declared.turns.TurnOrder.{TurnOrder}
use Rattle.scripts.specs.declared.turns.TurnOrder.TheVariants.{OfScript, Asked}
use Rattle.scripts.specs.Calls.{is_job}
use Rattle.scripts.specs.Checks.{then_with}
use Rattle.scripts.specs.Fields.{list_in, perhaps}
use Rattle.scripts.specs.Input.{data_of}
use Rattle.scripts.specs.Limits.{MOST_ACTORS, MOST_LINES}
use Rattle.scripts.specs.Plans.{actors_of}
use Rattle.scripts.specs.Schedule.{schedule_of}
use Rattle.scripts.specs.Tree.{tree_of}
use Rattle.scripts.specs.Turns.{turns_asked}
use Rattle.scripts.specs.Version.{version_of}

-- the tree's nodes, what each actor does, who takes each turn, and how many lines the book has
pub record Said : Type 0 where
  pub nodes : List Inode
  pub plans : List ActorPlan
  pub schedule : List ℕ
  pub lines : ℕ

abbrev pub said_on : State → List ActorPlan → List ℕ → ℕ → Said
said_on tree plans schedule lines = record { nodes = tree.nodes; plans = plans; schedule = schedule; lines = lines }

abbrev pub said_by : Scenario → Said
said_by s = said_on s.tree s.plans.items s.schedule.items s.lines

abbrev pub lines_in : Data → Option ℕ
lines_in d = perhaps (get (codes "lines") d) MOST_LINES (λ lines.
    with_some (option_and_then as_u64 (as_number lines)) None
    (λ n. if nat_le 1 n && nat_le n MOST_LINES then Some n else None))

-- the version and the lines
abbrev pub header_of : Data → Result Header ScriptFault
header_of d =
    then_with (version_of d) (λ version.
    with_some (lines_in d) (Err Lines) (λ lines.
    Ok (record { version = version; lines = lines })))

abbrev pub nodes_in : Data → Result (List Inode) ScriptFault
nodes_in d = with_some (list_in (codes "tree") d) (Err Tree) tree_of

-- the schedule of so many actors: the script's, or what is asked for in its place
abbrev pub schedule_for : TurnOrder → ℕ → Data → Result (List ℕ) ScriptFault
schedule_for OfScript actors d = schedule_of actors d
schedule_for (Asked turns) actors d = turns_asked actors turns.items

-- what a script says, or the first check that fails
abbrev pub scenario_of : Purpose → TurnOrder → Data → Result Said ScriptFault
scenario_of purpose order d =
    then_with (header_of d) (λ header.
    then_with (nodes_in d) (λ nodes.
    then_with (actors_of purpose nodes header.version d) (λ plans.
    then_with (schedule_for order (length plans) d) (λ schedule.
    Ok (record { nodes = nodes; plans = plans; schedule = schedule; lines = header.lines })))))

-- what the script says that these bytes are, read for this purpose and with this order of turns
abbrev pub said_as : Purpose → TurnOrder → List ℕ → Result Said ScriptFault
said_as purpose order input = then_with (data_of input) (scenario_of purpose order)

-- the same for actors that take turns
abbrev pub said_for : TurnOrder → List ℕ → Result Said ScriptFault
said_for order input = said_as Turns order input

-- What is said can be played: there are actors, each one's root is a directory, each turn an actor's, and a book may
-- have the lines.
pub record IsPlayable (said : Said) : Type 0 where
  pub some : 0 < length said.plans
  pub few : length said.plans ≤ MOST_ACTORS
  pub roots : All (λ plan. IsOk (directory_at said.nodes TOP plan.root)) said.plans
  pub turns : All (λ actor. actor < length said.plans) said.schedule
  pub bounded : said.lines ≤ MOST_LINES

-- the root of the first actor, and its calls
abbrev pub first_root : List ActorPlan → List (List ℕ)
first_root [] = []
first_root (plan ∷ plans) = plan.root

abbrev pub first_calls : List ActorPlan → List Planned
first_calls [] = []
first_calls (plan ∷ plans) = plan.calls

-- what is read for jobs has jobs alone for its first actor's calls
abbrev pub IsFitFor : Purpose → Said → Type 0
IsFitFor Turns said = ⊤
IsFitFor Jobs said = All (λ call. IsTrue (is_job call)) (first_calls said.plans)
