-- A service as contracts see it. Of its book they know what its type keeps, and nothing more while it is locked.
use Rattle.std.specs.Prelude.{ℕ}
use Rattle.tree_model.specs.State.{State}

-- its tag, how many sessions it has, how many lines its book is to have, and the tree as it was opened
pub record ServiceView : Type 0 where
  pub tag : ℕ
  pub count : ℕ
  pub lines : ℕ
  pub opening : State
