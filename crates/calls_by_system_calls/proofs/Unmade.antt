-- After a step that wasn't made the call is given up.
use Rattle.std.proofs.Common.{◌≡◌, List, [], ◌∷◌, sym, subst}
use Rattle.path_text.specs.declared.errno.Errno.TheVariants.{NoMemory}
use Rattle.root_ops.specs.declared.call.CallTurn.{CallTurn}
use Rattle.root_ops.specs.declared.call.CallTurn.TheVariants.{More, Done}
use Rattle.root_ops.specs.declared.reply.Reply.{Reply}
use Rattle.root_ops.specs.declared.reply.Reply.TheVariants as replies
use Rattle.root_ops.specs.Order.{fault, take}
use Rattle.root_ops.specs.TurnView.{turn_view}
use Rattle.root_ops.specs.View.{reply_view}
use Rattle.calls_by_system_calls.specs.Conversations.{Exchange, Conversation, OnlyCloses, UnmadeStepsEndCalls}
use Rattle.calls_by_system_calls.proofs.GivingUp.{GivesUp, goes_on, is_due, given_up}

failed_by : (reply : Reply) → reply_view reply ≡ fault NoMemory → reply ≡ replies.Fault NoMemory
failed_by (replies.Fault error) e = cc (e)
failed_by (replies.Opened standing) e = cc (e)
failed_by (replies.Text text) e = cc (e)
failed_by replies.Done e = cc (e)
failed_by (replies.Count n) e = cc (e)
failed_by (replies.Stepped answer) e = cc (e)
failed_by (replies.Kept standing) e = cc (e)

-- from a turn of a call that is given up
from_there : (turn : CallTurn) (xs : List Exchange) (reply : Reply) → GivesUp (turn_view turn) → Conversation turn xs reply
    → OnlyCloses turn xs
from_there (Done told) [] reply up is = failed_by told up
from_there (Done told) (x ∷ xs) reply up is = absurd is
from_there (More now) [] reply up is = absurd is
from_there (More now) (x ∷ xs) reply up is = (
  is_due now.below now.doing up,
  from_there x.turn xs reply (subst GivesUp (sym is.0.0.1) (goes_on now.below is.0.0.0 x.answer now.doing up)) is.1,
)

pub unmade_steps : UnmadeStepsEndCalls
unmade_steps now x after reply stays wants follows is =
    let up : GivesUp (take now.below follows.0.0 now.doing x.answer) =
    subst (λ a. GivesUp (take now.below follows.0.0 now.doing a)) (sym wants)
    (given_up now.below follows.0.0 now.doing stays) in
    from_there x.turn after reply (subst GivesUp (sym follows.0.1) up) is
