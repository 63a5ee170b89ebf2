-- What is told in the line after a fault: the limit that was met, and what helps.
use Rattle.std.specs.Prelude.{ℕ, List, [], ◌++◌, nat_lt, nat_eq, if◌then◌else◌, codes, decimal}
use Rattle.std.specs.List.{starts_with}
use Rattle.command_line.specs.declared.advice.TheConstants.{MEMORY_MAX, STATES_MAX}
use Rattle.command_line.specs.declared.ending.Fault.{Fault}
use Rattle.command_line.specs.declared.ending.Fault.TheVariants.{AskedTurn, AskedTurns, BeginTurn, Run, Explore, DrawActors, DrawLines, ReplayEvents}
use Rattle.outcome_text.specs.declared.fault.ExploreFault.{ExploreFault}
use Rattle.outcome_text.specs.declared.fault.ExploreFault.TheVariants.{NoSuchActor, NoSuchLine, Search, TooMuchMemory, NoGauge}
use Rattle.schedule_graph.specs.declared.fault.SearchFault.{SearchFault}
use Rattle.schedule_graph.specs.declared.fault.SearchFault.TheVariants.{TooManyStates, TooManyTurns, NotBusy, TooManyCuts}
use Rattle.scripts.specs.declared.fault.RunFault.TheVariants.{BookFull}

-- more may be asked for, up to a limit
abbrev pub states_advice : ℕ → List ℕ
states_advice states =
    codes "more than " ++ (decimal states ++ (
    if nat_lt states STATES_MAX then codes " states; --states takes up to 10000000"
    else codes " states; --cuts and --begin leave fewer"))

abbrev pub turn_advice : ℕ → List ℕ → List ℕ
turn_advice at words = codes "turn " ++ (decimal at ++ words)

abbrev pub actor_advice : ℕ → List ℕ
actor_advice actor = codes "--actor " ++ (decimal actor ++ codes " is none of the script's; its first actor is 0")

-- more may be asked for, up to a limit
abbrev pub memory_advice : ℕ → List ℕ
memory_advice most =
    codes "more than " ++ (decimal most ++ (
    if nat_lt most MEMORY_MAX then codes " MB; --memory takes up to 1000000"
    else codes " MB; --cuts and --begin leave fewer states"))

-- what is told of a search, by its bounds
abbrev pub search_advice : SearchFault → ℕ → List ℕ
search_advice TooManyStates states = states_advice states
search_advice TooManyTurns states = codes "a schedule has more than 100000 turns, and no option takes more"
search_advice (NotBusy at) states =
    turn_advice at (codes " of --begin, counted from 0, is of an actor who has nothing left to do")
search_advice (TooManyCuts at) states =
    turn_advice at (codes " of --begin, counted from 0, makes more cuts than --cuts takes")
search_advice other states = []

-- which words a line has, by its first
abbrev pub line_hint : List ℕ → List ℕ
line_hint line =
    if starts_with nat_eq line (codes "reply") then
    codes "after reply ACTOR CALL comes opened, text, done, count, stepped or fault ERROR"
    else (if starts_with nat_eq line (codes "row") then
    codes "after row comes the number or the path of a directory, and then a name that the script has"
    else codes "after held or outside comes the number of an actor")

abbrev pub line_advice : List ℕ → List ℕ
line_advice line =
    codes "no report of the script has a line with '" ++ (line ++ (codes "': " ++ line_hint line))

abbrev pub explore_advice : ExploreFault → ℕ → List ℕ → List ℕ
explore_advice (NoSuchActor actor) states line = actor_advice actor
explore_advice (NoSuchLine place) states line = line_advice line
explore_advice (Search fault) states line = search_advice fault states
explore_advice (TooMuchMemory most) states line = memory_advice most
explore_advice NoGauge states line = codes "--memory reads in /proc/self/status how much is taken, and could not"
explore_advice other states line = []

-- where there is no more to tell it is nothing
abbrev pub advice_of : Fault → ℕ → List ℕ → List ℕ
advice_of (AskedTurn at) states line = codes "a turn is an actor's number, counted from 0"
advice_of (BeginTurn at) states line = codes "a turn is an actor's number, counted from 0"
advice_of AskedTurns states line = codes "a schedule has at most 100000 turns"
advice_of (Explore fault) states line = explore_advice fault states line
advice_of DrawActors states line = codes "a picture has at most 4 actors"
advice_of DrawLines states line = codes "a picture has at most 2000 lines, and its run 2000 events"
advice_of ReplayEvents states line = codes "a report as JSON has at most 2000 events"
advice_of (Run BookFull) states line = codes "\"lines\" is too small: each actor, or each worker of run, has one"
advice_of other states line = []
