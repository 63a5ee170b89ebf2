-- The window of a history: a call's events among what others do meanwhile.
use Rattle.std.specs.Prelude.{◌≡◌, ℕ, ◌+◌, List, [], ◌∷◌, ◌++◌}
use Rattle.tree_model.specs.declared.answer.Event.{Event}
use Rattle.tree_model.specs.History.{after_events}
use Rattle.tree_model.specs.State.{State}
use Rattle.step_resolver.specs.Order.{Line, events_of}
use Rattle.root_ops.specs.Renumbered.{Numbering, lines_by}
use Rattle.calls_by_system_calls.specs.Linux.{Linux, state_at, meanwhile, AreSame}

-- A line's event, if it has one, within what others do while its system calls are made: first what they do up to one of
-- these moments, then the event, then what they do up to the last one. `t` is the tree before. Behind the event the
-- nodes are those of that moment, as the system call leaves them: so a change stands at the moment of its call.
pub record IsPlaced (x : Linux) (m calls : ℕ) (t : State) (own : List Event) : Type 0 where
  pub n : ℕ
  pub rest : ℕ
  pub all : n + rest ≡ calls
  pub first : List Event
  pub second : List Event
  pub before : AreSame (state_at x m) (meanwhile x m n) t first
  pub after : AreSame (state_at x (m + n)) (meanwhile x (m + n) rest) (after_events t (first ++ own)) second

abbrev pub events_here : {x : Linux} {m calls : ℕ} {t : State} {own : List Event} → IsPlaced x m calls t own
    → List Event
events_here {own = own} placed = placed.first ++ (own ++ placed.second)

-- The window of a history: line by line, each one's event among what others did meanwhile. So events follow one another
-- as the system calls did, and each tree of the window is one that Linux had.
abbrev pub IsWindow : Linux → Numbering → ℕ → State → List Line → List ℕ → List Event → Type 0
IsWindow x f m t [] [] window = window ≡ []
IsWindow x f m t (line ∷ lines) (calls ∷ counts) window =
    (placed : IsPlaced x m calls t (events_of 0 (lines_by f (line ∷ []))))
    × ((rest : List Event)
    × ((window ≡ events_here placed ++ rest)
    × IsWindow x f (m + calls) (after_events t (events_here placed)) lines counts rest))
IsWindow x f m t lines counts window = ⊥
