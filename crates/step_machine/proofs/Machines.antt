-- What is proved of a machine, and of one that runs within another.
use Rattle.std.specs.Prelude.{◌≡◌, Bool, true, Some}
use Rattle.path_text.specs.declared.errno.Errno.{Errno}
use Rattle.tree_model.specs.declared.answer.Answer.{Answer}
use Rattle.tree_model.specs.declared.answer.Answer.TheVariants.{Refused}
use Rattle.step_machine.specs.Machine.{Machine}

-- The turns that go on are those in which a call is under way, each in its state; and a refusal brings nothing that takes
-- room.
pub record IsMachine {T S : Type 0} (m : Machine T S) : Type 0 where
  pub goes_on : (s : S) → m.under_way (m.more s) ≡ Some s
  pub else_ends : (turn : T) (s : S) → m.under_way turn ≡ Some s → turn ≡ m.more s
  pub refusals_need_no_room : (room : Bool) (s : S) (error : Errno) → m.take true s (Refused error) ≡ m.take room s (Refused error)

-- A machine runs within another: each turn of the inner one stands for a turn of the outer one, by whether there was room
-- for what the last answer brought; and while the inner one goes on, its steps, wants and turns are the outer one's.
pub record IsWithin {T S U V : Type 0} (inner : Machine T S) (outer : Machine U V) (stands : Bool → T → U)
    (within : S → V) : Type 0 where
  pub goes_on : (room : Bool) (s : S) → outer.under_way (stands room (inner.more s)) ≡ Some (within s)
  pub same_step : (s : S) → outer.due (within s) ≡ inner.due s
  pub same_wants : (s : S) (error : Errno) → outer.IsUnmade (within s) error → inner.IsUnmade s error
  pub same_turn : (room : Bool) (s : S) (answer : Answer) → outer.take room (within s) answer ≡ stands room (inner.take room s answer)
