-- What a call doesn't look at: the numbers of handles and nodes. Statements of laws.
use Rattle.std.specs.Prelude.{◌≡◌, List, Bool}
use Rattle.tree_model.specs.declared.answer.Answer.{Answer}
use Rattle.step_resolver.specs.Order.{Line}
use Rattle.root_ops.specs.declared.below.Below.{Below}
use Rattle.root_ops.specs.declared.op.Op.{Op}
use Rattle.root_ops.specs.declared.reply.Reply.{Reply as Told}
use Rattle.root_ops.specs.CallHistory.{CallInHistory, IsCallInHistory, RepliesWith}
use Rattle.root_ops.specs.EachCall.{CallTells}
use Rattle.root_ops.specs.Order.{Doing, CallTurn, starts, take, due, LeadsTo}
use Rattle.root_ops.specs.Renumbered.{Numbering, step_by, answer_by, doing_by, call_turn_by, below_by, op_by, lines_by, told_by}
use Rattle.root_ops.specs.View.{reply_view}

-- A call looks at no number of a handle or a node: begun below a root by another handle it begins in the same way,
abbrev pub CallsBeginBlindly : Type 0
CallsBeginBlindly = (f : Numbering) (below : Below) (room : Bool) (op : Op)
    → call_turn_by f (starts below room op) ≡ starts (below_by f below) room (op_by f op)

-- with other numbers the same step is due by them,
abbrev pub StepsAreDueBlindly : Type 0
StepsAreDueBlindly = (f : Numbering) (below : Below) (doing : Doing)
    → step_by f (due below doing) ≡ due (below_by f below) (doing_by f doing)

-- and an answer makes the same of it.
abbrev pub AnswersAreTakenBlindly : Type 0
AnswersAreTakenBlindly = (f : Numbering) (below : Below) (room : Bool) (doing : Doing) (answer : Answer)
    → call_turn_by f (take below room doing answer)
    ≡ take (below_by f below) room (doing_by f doing) (answer_by f answer)

-- So lines with other numbers lead from the turn with these numbers to the one with these.
abbrev pub LinesLeadBlindly : Type 0
LinesLeadBlindly = (f : Numbering) (below : Below) (turn : CallTurn) (lines : List Line) (end : CallTurn)
    → LeadsTo below turn lines end
    → LeadsTo (below_by f below) (call_turn_by f turn) (lines_by f lines) (call_turn_by f end)

-- ---- what it comes to

-- the same call, by other numbers
abbrev pub renumbered : Numbering → CallInHistory → CallInHistory
renumbered f c = record c { below = below_by f c.below; op = op_by f c.op; lines = lines_by f c.lines }

-- A call was driven by somebody's own numbers of handles and nodes, and replied. In each legal history in which it is
-- made by the history's numbers it tells what each call tells, of the reply with these.
abbrev pub CallsTellByAnyNumbers : Type 0
CallsTellByAnyNumbers = (f : Numbering) (c : CallInHistory) (reply : Told) → RepliesWith c (reply_view reply)
    → IsCallInHistory (renumbered f c) → CallTells (renumbered f c) (told_by f reply)
