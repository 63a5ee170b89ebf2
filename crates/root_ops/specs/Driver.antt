-- A call that is driven to its reply on a tree, where nobody else acts meanwhile.
use Rattle.std.specs.Prelude.{◌≡◌, ℕ, List, Bool}
use Rattle.tree_model.specs.State.{State}
use Rattle.tree_model.specs.History.{IsLegal, after_events}
use Rattle.step_resolver.specs.Order.{Line, events_of}
use Rattle.root_ops.specs.declared.below.Below.{Below}
use Rattle.root_ops.specs.declared.op.Op.{Op}
use Rattle.root_ops.specs.Order.{Reply, CallTurn, more, ends, starts, steps_left, LeadsTo}

-- how many steps are left at most; none at an end
abbrev pub steps_in : Below → CallTurn → ℕ
steps_in below (more doing) = steps_left below doing
steps_in below (ends reply) = 0

-- lines lead from one turn to the other, and the actor's steps among them from one tree to the other
pub record Drives (below : Below) (a : ℕ) (s : State) (from : CallTurn) (t : State) (to : CallTurn) : Type 0 where
  pub lines : List Line
  pub leads : LeadsTo below from lines to
  pub legal : IsLegal s (events_of a lines)
  pub after : after_events s (events_of a lines) ≡ t

-- from the first turn of an operation, with memory or without, to its reply
pub record Runs (below : Below) (op : Op) (s t : State) (reply : Reply) : Type 0 where
  pub room : Bool
  pub driven : Drives below below.root.owner.actor s (starts below room op) t (ends reply)
