-- A legal history, and one actor in it: its root, its own events among those of others, and what closes none of its
-- handles.
use Rattle.std.specs.Prelude.{◌≡◌, ℕ, List, [], ◌∷◌, ◌++◌, true, false, Some}
use Rattle.tree_model.specs.declared.answer.Event.{Event}
use Rattle.tree_model.specs.History.{IsLegal}
use Rattle.tree_model.specs.State.{State, is_dir}
use Rattle.tree_model.specs.StepLaws.{is_close_of}
use Rattle.tree_model.specs.Steps.{held}
use Rattle.tree_model.specs.Trees.{IsState}
use Rattle.step_resolver.specs.declared.walk.Root.{Root}
use Rattle.step_resolver.specs.WalkHistory.{own_events}

-- none of these events closes the handle
abbrev pub NoneCloses : ℕ → List Event → Type 0
NoneCloses h [] = Unit {0}
NoneCloses h (event ∷ events) = (is_close_of h event.step ≡ false) × NoneCloses h events

-- A history, and a root in it: the opening is a tree, the events are legal from it, and the root's handle is open
-- there, the actor's, and on a directory.
pub record IsHistory (opening : State) (events : List Event) (root : Root) (node : ℕ) : Type 0 where
  pub tree : IsState opening
  pub legal : IsLegal opening events
  pub opened : held opening root.owner.actor root.handle ≡ Some node
  pub directory : is_dir opening.nodes node ≡ true

-- the first of these events, where there is one, is the actor's
abbrev pub FirstIsOwn : ℕ → List Event → Type 0
FirstIsOwn a [] = Unit {0}
FirstIsOwn a (event ∷ events) = event.actor ≡ a

-- the history in three: up to some of the actor's own events, these with others' between, and what comes after
pub record Around (a : ℕ) (events earlier own later : List Event) : Type 0 where
  pub before : List Event
  pub window : List Event
  pub after : List Event
  pub whole : events ≡ before ++ (window ++ after)
  pub own_before : own_events a before ≡ earlier
  pub own_window : own_events a window ≡ own
  pub own_after : own_events a after ≡ later
