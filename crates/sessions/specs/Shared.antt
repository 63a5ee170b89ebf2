-- A Close in the book that sessions share.
use Rattle.std.specs.Prelude.{ℕ, Bool, is_some}
use Rattle.tree_model.specs.Steps.{held}
use Rattle.race_core.specs.Book.{BookedHistory, tree_now}

-- the handle is open, and the actor's (close(2))
abbrev pub closes : BookedHistory → ℕ → ℕ → Bool
closes book a h = is_some (held (tree_now book) a h)
