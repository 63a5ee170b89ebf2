-- A tree of Linux while a program makes system calls, and others do what they do between each two of them.
use Rattle.std.specs.Prelude.{◌≡◌, ◌≢◌, ◌<◌, ℕ, zero, suc, ◌+◌, List, [], ◌∷◌, ◌++◌, Option, Some, None}
use Rattle.std.specs.List.{AllByRecursion}
use Rattle.tree_model.specs.declared.answer.Event.{Event}
use Rattle.tree_model.specs.declared.inode.Inode.{Inode}
use Rattle.tree_model.specs.History.{IsLegal, after_event, after_events}
use Rattle.tree_model.specs.State.{State}
use Rattle.tree_model.specs.Steps.{outcome}
use Rattle.tree_model.specs.StepWith.{StepWith}
use Rattle.tree_model.specs.Trees.{IsState}
use Rattle.root_ops.specs.Renumbered.{Numbering, step_by, answer_by}

-- What a system call of the program changes, as a step of the step table: its handle 0 is open on the first of these
-- directories, and the handle 1 on the second, which only a rename has.
pub record Change : Type 0 where
  pub directory : ℕ
  pub second : ℕ
  pub step : StepWith ℕ

-- the two directories are open, and nothing else
abbrev pub both_open : List Inode → ℕ → ℕ → State
both_open nodes d f = record {
  nodes = nodes;
  handles = Some (record { actor = 0; node = d }) ∷ Some (record { actor = 0; node = f }) ∷ [];
}

-- the entries are the step's, made where it finds them so; handles stay
abbrev pub with_change : State → Option Change → State
with_change s None = s
with_change s (Some change) = record {
  nodes = (outcome (both_open s.nodes change.directory change.second) 0 change.step).after.nodes;
  handles = s.handles;
}

-- The tree as the program's call begins, with everybody's open handles; what the program's own system calls change; and
-- what others do between a moment and the next one. The program's n-th system call, counted from 1, is of the moment n;
-- the moment 0 is before the first. A call that changes no entry, or fails, has None, or a step that is refused.
pub record Linux : Type 0 where
  pub opening : State
  pub own : ℕ → Option Change
  pub others : ℕ → List Event

-- the tree at a moment, as the system call leaves it
abbrev pub state_at : Linux → ℕ → State
state_at x zero = x.opening
state_at x (suc n) = with_change (after_events (state_at x n) (x.others n)) (x.own (suc n))

-- the tree as the first system call behind that moment finds it. If this changes nothing, it leaves it so.
abbrev pub found_behind : Linux → ℕ → State
found_behind x n = after_events (state_at x n) (x.others n)

-- none of so many system calls behind a moment changes an entry
abbrev pub ChangeNothing : Linux → ℕ → ℕ → Type 0
ChangeNothing x m calls = (n : ℕ) → n < calls → x.own (suc (m + n)) ≡ None

-- what others do from a moment on, up to so many moments later
abbrev pub meanwhile : Linux → ℕ → ℕ → List Event
meanwhile x m zero = []
meanwhile x m (suc n) = x.others m ++ meanwhile x (suc m) n

-- It begins with a tree, and others do single steps, each answered by the step table. None of them is the program.
pub record IsLinux (x : Linux) (program : ℕ) : Type 0 where
  pub tree : IsState x.opening
  pub legal : (n : ℕ) → IsLegal (state_at x n) (x.others n)
  pub by_others : (n : ℕ) → AllByRecursion (λ event. event.actor ≢ program) (x.others n)

-- ---- numbers of handles

-- each number of a handle is 0; nodes keep theirs
abbrev pub numberless : Numbering
numberless = record { handle = λ h. 0; node = λ x. x }

abbrev pub without_numbers : Event → Event
without_numbers event = record {
  actor = event.actor;
  step = step_by numberless event.step;
  answer = answer_by numberless event.answer;
}

-- The same events with other numbers of handles, on the same nodes before and after each of them.
abbrev pub AreSame : State → List Event → State → List Event → Type 0
AreSame s [] t [] = t.nodes ≡ s.nodes
AreSame s (event ∷ events) t (other ∷ others) =
    (t.nodes ≡ s.nodes)
    × ((without_numbers other ≡ without_numbers event)
    × AreSame (after_event s event) events (after_event t other) others)
AreSame s events t others = ⊥
