-- A world after some turns; and as a system of actors who take turns: which worlds are alike, what they come to, and
-- which of these are the same.
use Rattle.std.specs.Prelude.{◌≡◌, ◌<◌, ℕ, List, Bool, length}
use Rattle.tree_model.specs.State.{State}
use Rattle.tree_model.specs.Steps.{held_count}
use Rattle.layered_search.specs.Moves.{Moves, after}
use Rattle.layered_search.specs.System.{System, Outcomes}
pub use Rattle.race_core.specs.OneReport.{full}
use Rattle.race_core.specs.declared.report.Outcome.{Outcome}
use Rattle.race_core.specs.Renamed.{replies_by}
use Rattle.race_core.specs.Worlds.{WorldView, turn, is_busy_at, is_within_at, ledgers_in, kept_in, Reports}
use Rattle.local_states.specs.Local.{SameParts, TellAlike}
use Rattle.local_states.specs.Outside.{outside_of}
use Rattle.local_states.specs.Same.{IsSame}

-- ---- turns

-- a world's actors take turns, with memory for all
abbrev pub world_moves : Moves WorldView
world_moves =
    record { turn = turn full; is_busy = λ w i. is_busy_at w.seats i; is_within = λ w i. is_within_at w.seats i }

-- the world after these actors' turns
abbrev pub after_turns : WorldView → List ℕ → WorldView
after_turns w is = after world_moves w is

-- ---- worlds

-- from one world to another by worlds that are the same, one after another
pub data IsLike (told : Bool) : WorldView → WorldView → Type 0 where
  same : (w : WorldView) → IsLike told w w
  onward : (w u v : WorldView) → IsSame told w u → IsLike told u v → IsLike told w v

-- Of a world that begins so, the actors are its seats. Worlds in which each has the same part count as one state.
abbrev pub worlds : Bool → WorldView → System WorldView
worlds told w = record {
  begin = w;
  actors = length w.seats;
  turn = turn full;
  is_busy = λ v i. is_busy_at v.seats i;
  is_within = λ v i. is_within_at v.seats i;
  Alike = IsLike told;
  Agree = TellAlike told;
  CountAsOne = SameParts;
}

-- ---- what they come to

-- the tree and the replies of the report on a world, and, where that is told, how many changes each actor made outside
-- of its root
pub record EndView : Type 0 where
  pub tree : State
  pub replies : List (List Outcome)
  pub outside : List ℕ

-- the world's report has that tree and those replies
abbrev pub ReportsOn : WorldView → State → List (List Outcome) → Type 0
ReportsOn v tree replies = Reports v.book (ledgers_in v.seats) tree v.book.events replies (kept_in (ledgers_in v.seats))

-- it is that of this world
pub record IsEndOf (told : Bool) (v : WorldView) (end : EndView) : Type 0 where
  pub report : ReportsOn v end.tree end.replies
  pub outside : end.outside ≡ outside_of told v

-- they tell the same outcome
pub record SameOutcome (e d : EndView) : Type 0 where
  pub replies : replies_by (λ h. 0) e.replies ≡ replies_by (λ h. 0) d.replies
  pub held : (a : ℕ) → a < length d.replies → held_count e.tree a ≡ held_count d.tree a
  pub nodes : e.tree.nodes ≡ d.tree.nodes
  pub outside : e.outside ≡ d.outside

abbrev pub world_outcomes : Bool → Outcomes WorldView EndView
world_outcomes told = record { Tells = IsEndOf told; AreSame = SameOutcome }
