-- What a call has come to, as the order of steps sees it.
use Rattle.std.specs.Prelude.{◌≡◌, ℕ, Bool, if◌then◌else◌}
use Rattle.path_text.specs.declared.flags.Flags.{Flags}
use Rattle.tree_model.specs.declared.answer.Answer.{Answer}
use Rattle.step_resolver.specs.declared.walk.Root.{Root}
use Rattle.bulk_ops.specs.RemoveAllTurnView.{REMOVE_STEPS_MAX}
use Rattle.root_ops.specs.declared.below.Below.{Below}
use Rattle.root_ops.specs.declared.call.CallTurn.{CallTurn as Outcome}
use Rattle.root_ops.specs.declared.call.CallTurn.TheVariants as outcome
use Rattle.root_ops.specs.declared.op.Op.{Op}
use Rattle.root_ops.specs.Order.{Doing, CallTurn, more, ends, starts, take, steps_left}
use Rattle.root_ops.specs.View.{reply_view, IsOwned}

abbrev pub turn_view : Outcome → CallTurn
turn_view (outcome.More call) = more call.doing
turn_view (outcome.Done reply) = ends (reply_view reply)

-- the call goes on below the same root by the same restrictions; what was opened is the root's owner's
abbrev pub Keeps : Below → Outcome → Type 0
Keeps below (outcome.More call) = call.below ≡ below
Keeps below (outcome.Done reply) = IsOwned below.root.owner reply

abbrev pub below_of : Root → Flags → Below
below_of root flags = record { root = root; flags = flags }

-- the turn is this one, or where it found no memory that one
abbrev pub Either : CallTurn → CallTurn → CallTurn → Type 0
Either begun without turn = (room : Bool) × (turn ≡ (if room then begun else without))

-- the turn is the first one, with memory or without
abbrev pub StartsTo : Below → Op → CallTurn → Type 0
StartsTo below op turn = (room : Bool) × (turn ≡ starts below room op)

-- the turn is what the answer makes of the call, with room for what it brings or without
abbrev pub TakesTo : Below → Doing → Answer → CallTurn → Type 0
TakesTo below doing answer turn = (room : Bool) × (turn ≡ take below room doing answer)

-- how many steps are to come at most; none at an end
abbrev pub steps_to_come : Outcome → ℕ
steps_to_come (outcome.More call) = steps_left call.below call.doing
steps_to_come (outcome.Done reply) = 0

-- those of a RemoveAll, which are more than the two walks of a rename and its steps
abbrev pub STEPS_MAX : ℕ
STEPS_MAX = REMOVE_STEPS_MAX
