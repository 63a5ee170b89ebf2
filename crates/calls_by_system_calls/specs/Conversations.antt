-- A call of root_ops turn by turn, as a program makes it that answers each step whatever it likes; its lines, and what
-- they come to, of no history.
use Rattle.std.specs.Prelude.{◌≡◌, ℕ, List, [], ◌∷◌, Bool, true, false, not, if◌then◌else◌}
use Rattle.path_text.specs.declared.errno.Errno.TheVariants.{NoMemory}
use Rattle.tree_model.specs.declared.answer.Answer.{Answer}
use Rattle.tree_model.specs.declared.answer.Answer.TheVariants.{Refused}
use Rattle.tree_model.specs.StepWith.{StepWith}
use Rattle.step_resolver.specs.Order.{Line, answered, no_room, not_made, is_close}
use Rattle.root_ops.specs.declared.below.Below.{Below}
use Rattle.root_ops.specs.declared.call.CallTurn.{CallTurn}
use Rattle.root_ops.specs.declared.call.CallTurn.TheVariants.{More, Done}
use Rattle.root_ops.specs.declared.op.Op.{Op}
use Rattle.root_ops.specs.declared.reply.Reply.{Reply}
use Rattle.root_ops.specs.declared.reply.Reply.TheVariants.{Fault}
use Rattle.root_ops.specs.Order.{due, ends, starts, LeadsTo}
use Rattle.root_ops.specs.TurnView.{turn_view, Keeps, StartsTo, TakesTo}
use Rattle.root_ops.specs.View.{CallView, reply_view}

-- ---- turns

-- The answer to the step that is due, and the turn after it.
pub record Exchange : Type 0 where
  pub answer : Answer
  pub turn : CallTurn

-- what the contract of `Call::start` says of the first turn
abbrev pub Begins : Below → Op → CallTurn → Type 0
Begins below op turn = StartsTo below op (turn_view turn) × Keeps below turn

-- what those of `Call::take` and `Call::pass` say of the next one
abbrev pub Follows : CallView → Exchange → Type 0
Follows call x = TakesTo call.below call.doing x.answer (turn_view x.turn) × Keeps call.below x.turn

-- the exchanges from a turn to the reply
abbrev pub Conversation : CallTurn → List Exchange → Reply → Type 0
Conversation (Done told) [] reply = told ≡ reply
Conversation (More call) (x ∷ xs) reply = Follows call x × Conversation x.turn xs reply
Conversation turn xs reply = ⊥

-- ---- lines

-- A step that is no Close counts as not made where its answer is a want of memory.
abbrev pub is_left_out : StepWith ℕ → Answer → Bool
is_left_out step (Refused NoMemory) = not (is_close step)
is_left_out step answer = false

-- the step with its answer, where what it brings found room, and where it found none
abbrev pub made : Bool → StepWith ℕ → Answer → Line
made true step answer = answered step answer
made false step answer = no_room step answer

abbrev pub line_of : Bool → StepWith ℕ → Answer → Line
line_of room step answer = if is_left_out step answer then not_made NoMemory else made room step answer

-- each exchange's line: the step that was due, with its answer
abbrev pub lines_of : (turn : CallTurn) (xs : List Exchange) (reply : Reply) → Conversation turn xs reply → List Line
lines_of (More call) (x ∷ xs) reply is =
    line_of is.0.0.0 (due call.below call.doing) x.answer ∷ lines_of x.turn xs reply is.1
lines_of turn xs reply is = []

-- ---- what they come to

-- The lines lead from the operation's first turn to the reply, of each program that keeps to the turns. So each law of
-- root_ops on a call's lines speaks of them.
abbrev pub ConversationsAreCalls : Type 0
ConversationsAreCalls = (below : Below) (op : Op) (turn : CallTurn) (exchanges : List Exchange) (reply : Reply)
    → (begins : Begins below op turn) → (is : Conversation turn exchanges reply)
    → LeadsTo below (starts below begins.0.0 op) (lines_of turn exchanges reply is) (ends (reply_view reply))

-- nothing but Closes is due, and at the end the call fails for want of memory
abbrev pub OnlyCloses : CallTurn → List Exchange → Type 0
OnlyCloses (Done reply) [] = reply ≡ Fault NoMemory
OnlyCloses (More call) (x ∷ xs) = (is_close (due call.below call.doing) ≡ true) × OnlyCloses x.turn xs
OnlyCloses turn xs = ⊥

-- So it is after each step that is no Close and is answered by a want of memory: the call makes no change after it and
-- opens nothing.
abbrev pub UnmadeStepsEndCalls : Type 0
UnmadeStepsEndCalls = (call : CallView) (x : Exchange) (after : List Exchange) (reply : Reply)
    → is_close (due call.below call.doing) ≡ false → x.answer ≡ Refused NoMemory
    → Follows call x → Conversation x.turn after reply → OnlyCloses x.turn after
