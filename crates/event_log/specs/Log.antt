-- A log as contracts see it.
use Rattle.std.specs.Prelude.{ℕ, List}
use Rattle.tree_model.specs.declared.answer.Event.{Event}

-- the events, and how many more events, and bytes of names and texts, it has memory for already
pub record Log : Type 0 where
  pub events : List Event
  pub room : ℕ
  pub text_room : ℕ
