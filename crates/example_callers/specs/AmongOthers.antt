-- A walk among others, in one history with their steps.
use Rattle.std.specs.Prelude.{◌≡◌, ◌≢◌, ◌⊎◌, ℕ, List, [], ◌∷◌, ◌++◌, Bool, reverse, Result, Ok, Err}
use Rattle.std.specs.List.{All}
use Rattle.path_text.specs.declared.errno.Errno.{Errno}
use Rattle.path_text.specs.declared.errno.Errno.TheVariants.{NoMemory}
use Rattle.path_text.specs.Reading.{Reading}
use Rattle.tree_model.specs.declared.answer.Event.{Event}
use Rattle.tree_model.specs.StepWith.{StepWith}
use Rattle.tree_model.specs.State.{State}
use Rattle.tree_model.specs.Steps.{outcome}
use Rattle.tree_model.specs.History.{IsLegal, after_events}
use Rattle.walk_plan.specs.declared.goal.Goal.{Goal}
use Rattle.step_resolver.specs.Asked.{asked, follows}
use Rattle.step_resolver.specs.declared.driver.Resolved.{Resolved}
use Rattle.step_resolver.specs.declared.driver.Resolved.TheVariants.{Found, Partial}
use Rattle.step_resolver.specs.Order.{Way, Turn, found, partial, failed, begins, Line, answered, no_room, not_made}
use Rattle.step_resolver.specs.WalkHistory.{WalkInHistory, IsWalkInHistory, begin_of}
use Rattle.step_resolver.specs.WalkHistory.{end_of as tree_after}
use Rattle.step_resolver.specs.Headline.{Headline}
use Rattle.step_resolver.specs.TurnView.{standing_handle}
use Rattle.step_resolver.specs.TurnsTell.{first_lines}

-- legal steps of other actors alone lead from one tree to the other
pub record ByOthers (walker : ℕ) (s t : State) : Type 0 where
  pub events : List Event
  pub others : All (λ event. event.actor ≢ walker) events
  pub legal : IsLegal s events
  pub after : after_events s events ≡ t

-- what was resolved, as the end of a walk
abbrev pub end_of : Goal → Result Resolved Errno → Turn
end_of goal (Ok (Found standing)) = found (standing_handle standing) (reverse standing.names)
end_of goal (Ok (Partial standing rest)) =
    partial (standing_handle standing) (reverse standing.names) (asked (follows goal) rest)
end_of goal (Err error) = failed error

-- what one who isn't the walker may make of a tree by a step: nothing, or what the step table says
abbrev pub MayStep : ℕ → ℕ → StepWith ℕ → State → State → Type 0
MayStep walker a step s t = (t ≡ s) ⊎ ((a ≢ walker) × (t ≡ (outcome s a step).after))

-- ---- who acted before which step

-- one line of a walk on a tree: its step was made, by the step table, or there was no memory for it
abbrev pub IsLineOn : ℕ → State → Line → State → Type 0
IsLineOn a s (answered step answer) t = (answer ≡ (outcome s a step).answer) × (t ≡ (outcome s a step).after)
IsLineOn a s (no_room step answer) t = (answer ≡ (outcome s a step).answer) × (t ≡ (outcome s a step).after)
IsLineOn a s (not_made error) t = (error ≡ NoMemory) × (t ≡ s)

-- Before each of these lines the others acted, once: from those at first, and the tree, to those at last.
abbrev pub ActedBefore : (O : Type 0) → (O → State → O → State → Type 0) → ℕ → O → State → List Line → O → State
    → Type 0
ActedBefore O acts a o s [] p t = (p ≡ o) × (t ≡ s)
ActedBefore O acts a o s (line ∷ lines) p t =
    (q : O) × (u : State) × (v : State) × acts o s q u × IsLineOn a u line v × ActedBefore O acts a q v lines p t

-- So it was before each line after the walk's first turn, which takes no step.
pub record ActedBeforeEach (O : Type 0) (acts : O → State → O → State → Type 0) (way : Way) (path : Reading) (a : ℕ)
    (o : O) (s : State) (p : O) (t : State) (lines : List Line) : Type 0 where
  pub room : Bool
  pub others : List Line
  pub are : lines ≡ first_lines room (begins way path) ++ others
  pub acted : ActedBefore O acts a o s others p t

-- A walk of this actor, on this way and along this path, in a legal history that leads from one tree to the other;
-- that the others acted before each of its steps; and what the headline says of it and of its end.
pub record TellsAmong (O : Type 0) (acts : O → State → O → State → Type 0) (way : Way) (path : Reading) (walker : ℕ)
    (o : O) (s : State) (p : O) (t : State) (end : Turn) : Type 0 where
  pub walked : WalkInHistory
  pub is_walked : IsWalkInHistory walked
  pub actor : walked.actor ≡ walker
  pub same_way : walked.way ≡ way
  pub same_path : walked.path ≡ path
  pub from : begin_of walked ≡ s
  pub to : tree_after walked ≡ t
  pub acted : ActedBeforeEach O acts way path walker o s p t walked.lines
  pub headline : Headline walked end
