-- Histories: the events that actors' single steps make, one after another.
use Rattle.std.specs.Prelude.{◌≡◌, ℕ, List, [], ◌∷◌, take}
use Rattle.tree_model.specs.declared.answer.Event.{Event}
use Rattle.tree_model.specs.State.{State}
use Rattle.tree_model.specs.Steps.{outcome}

-- the tree after an event's step
abbrev pub after_event : State → Event → State
after_event s event = (outcome s event.actor event.step).after

-- the tree after all these events
abbrev pub after_events : State → List Event → State
after_events s [] = s
after_events s (event ∷ events) = after_events (after_event s event) events

-- each event's answer is the one that the step table gives in the tree as the events before it left it
abbrev pub IsLegal : State → List Event → Type 0
IsLegal s [] = Unit {0}
IsLegal s (event ∷ events) =
    (event.answer ≡ (outcome s event.actor event.step).answer) × IsLegal (after_event s event) events

-- the tree at a moment: after the first m events
abbrev pub tree_at : State → List Event → ℕ → State
tree_at s events m = after_events s (take m events)
