-- The world that is made of a tree and of plans.
use Rattle.std.specs.Prelude.{ℕ, List, [], false, Ok, Err}
use Rattle.tree_model.specs.State.{State}
use Rattle.race_core.specs.declared.plan.ActorPlan.{ActorPlan}
use Rattle.race_core.specs.Book.{opened_book}
use Rattle.race_core.specs.Opening.{Grants, granted, seats_of}
use Rattle.race_core.specs.Worlds.{WorldView}

-- over the tree with the roots granted; where one isn't, no world is made, and this stands for none
abbrev pub world_over : State → ℕ → Grants → WorldView
world_over s lines (Ok granted) =
    record { book = opened_book granted.tree lines; seats = seats_of granted.ledgers; spent = false }
world_over s lines (Err refusal) = record { book = opened_book s lines; seats = []; spent = false }

-- the world that `World::new` makes, where it makes one
abbrev pub opened_world : State → List ActorPlan → ℕ → WorldView
opened_world s plans lines = world_over s lines (granted s 0 plans)
