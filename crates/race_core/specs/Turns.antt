-- One turn of a world, computed: one due step of the call under way, which is started first where none is.
use Rattle.std.specs.Prelude.{◌||◌, ℕ, List, [], ◌∷◌, ◌++◌, Bool, false, if◌then◌else◌, reverse, slice_set, slice_index_or, Option, Some, None}
use Rattle.std.specs.Option.{option_map}
use Rattle.path_text.specs.declared.errno.Errno.{Errno}
use Rattle.path_text.specs.declared.errno.Errno.TheVariants.{BadHandle, NoMemory, Invalid}
use Rattle.path_text.specs.declared.flags.Flags.{Flags}
use Rattle.tree_model.specs.declared.answer.Answer.{Answer}
use Rattle.tree_model.specs.declared.answer.Answer.TheVariants.{Refused}
use Rattle.tree_model.specs.StepWith.{StepWith}
use Rattle.tree_model.specs.declared.step.StepOf.TheVariants as steps
use Rattle.handles.specs.declared.owner.Owner.{Owner}
use Rattle.handles.specs.Objects.{StandingObject}
use Rattle.step_resolver.specs.declared.walk.Root.{Root}
use Rattle.root_ops.specs.declared.below.Below.{Below}
use Rattle.root_ops.specs.declared.op.Op.TheVariants as op
use Rattle.root_ops.specs.declared.op.Request.{Request}
use Rattle.root_ops.specs.Order.{Reply, opened, link_text, done, count, stepped, kept, fault, CallTurn, more, ends, starts, take, due}
use Rattle.root_ops.specs.TurnView.{below_of}
use Rattle.root_ops.specs.View.{CallView}
use Rattle.race_core.specs.declared.plan.Planned.{Planned}
use Rattle.race_core.specs.declared.plan.Planned.TheVariants as planned
use Rattle.race_core.specs.declared.plan.Ref.{Ref}
use Rattle.race_core.specs.declared.plan.Ref.TheVariants as ref
use Rattle.race_core.specs.declared.report.Outcome.{Outcome}
use Rattle.race_core.specs.declared.report.Outcome.TheVariants as outcome
use Rattle.race_core.specs.declared.seat.Seat.{Seat}
use Rattle.race_core.specs.Ledgers.{LedgerView}
use Rattle.race_core.specs.Book.{BookedHistory, is_close, refusal, answer_now, booked}

-- Whether there was memory for what a turn does: for a call's start, for the step, and for what its answer brings.
pub record Luck : Type 0 where
  pub start : Bool
  pub step : Bool
  pub room : Bool

-- ---- a step through the book

-- what a step was answered, and the book after it
pub record Stepped : Type 0 where
  pub answer : Answer
  pub book : BookedHistory

-- the book refuses the step, and stays as it was; or makes and books it
abbrev pub unless_refused : BookedHistory → ℕ → StepWith ℕ → Option Errno → Stepped
unless_refused book a step (Some error) = record { answer = Refused error; book = book }
unless_refused book a step None = record { answer = answer_now book a step; book = booked book a step }

-- where there was no memory for it the step isn't made; a Close needs none
abbrev pub stepped_by : Bool → BookedHistory → ℕ → StepWith ℕ → Stepped
stepped_by luck book a step =
    if luck || is_close step then unless_refused book a step (refusal book a step)
    else record { answer = Refused NoMemory; book = book }

-- ---- what an actor has to do, and what came of it

-- of an actor that has done nothing yet
abbrev pub opened_ledger : Root → List Planned → LedgerView
opened_ledger root calls = record { root = root; to_come = calls; outcomes = []; standings = []; kept = [] }

-- what a call keeps, by its number
abbrev pub standing_under : List (Option StandingObject) → ℕ → Option StandingObject
standing_under standings call = slice_index_or standings call None

abbrev pub handle_at : Root → List (Option StandingObject) → Ref → Option ℕ
handle_at root standings ref.Root = Some root.handle
handle_at root standings (ref.Call call) =
    option_map (λ (s : StandingObject). s.handle) (standing_under standings call)

-- onward with the handle, where there is one
abbrev pub with_handle : Option ℕ → (ℕ → Option (StepWith ℕ)) → Option (StepWith ℕ)
with_handle None onward = None
with_handle (Some h) onward = onward h

-- the step by handles, where each that it names is held
abbrev pub step_at : (Ref → Option ℕ) → StepWith Ref → Option (StepWith ℕ)
step_at at (steps.Open d n) = with_handle (at d) (λ x. Some (steps.Open x n))
step_at at (steps.Dup h) = with_handle (at h) (λ x. Some (steps.Dup x))
step_at at (steps.Parent h) = with_handle (at h) (λ x. Some (steps.Parent x))
step_at at (steps.ReadLink h) = with_handle (at h) (λ x. Some (steps.ReadLink x))
step_at at (steps.NameBelow r h) = with_handle (at r) (λ x. with_handle (at h) (λ y. Some (steps.NameBelow x y)))
step_at at (steps.List h) = with_handle (at h) (λ x. Some (steps.List x))
step_at at (steps.Close h) = with_handle (at h) (λ x. Some (steps.Close x))
step_at at (steps.MakeDir d n) = with_handle (at d) (λ x. Some (steps.MakeDir x n))
step_at at (steps.MakeFile d n) = with_handle (at d) (λ x. Some (steps.MakeFile x n))
step_at at (steps.MakeLink d n text) = with_handle (at d) (λ x. Some (steps.MakeLink x n text))
step_at at (steps.RemoveFile d n) = with_handle (at d) (λ x. Some (steps.RemoveFile x n))
step_at at (steps.RemoveDir d n) = with_handle (at d) (λ x. Some (steps.RemoveDir x n))
step_at at (steps.Rename d n e m mode) =
    with_handle (at d) (λ x. with_handle (at e) (λ y. Some (steps.Rename x n y m mode)))

abbrev pub plain : Flags
plain = record { beneath = false; no_links = false }

-- what is asked by a planned call, where what it names is held
abbrev pub request_of : Root → List (Option StandingObject) → Planned → Option Request
request_of root standings (planned.Call request) = Some request
request_of root standings (planned.Single step) =
    option_map (λ s. record { op = op.Single s; flags = plain }) (step_at (handle_at root standings) step)
request_of root standings (planned.Release call) =
    option_map (λ s. record { op = op.Release s; flags = plain }) (standing_under standings call)

-- what is to be released is kept no more
abbrev pub left_by : Planned → List (Option StandingObject) → List (Option StandingObject)
left_by (planned.Call request) standings = standings
left_by (planned.Single step) standings = standings
left_by (planned.Release call) standings = slice_set standings call None

-- ---- a call's end

-- names in a reply are the innermost first
abbrev pub outcome_of : Reply → Outcome
outcome_of (opened handle names) = outcome.Opened handle.node handle.kind (reverse names)
outcome_of (link_text text) = outcome.Text text
outcome_of done = outcome.Done
outcome_of (count n) = outcome.Count n
outcome_of (stepped answer) = outcome.Stepped answer
outcome_of (kept standing) = outcome.Fault Invalid
outcome_of (fault error) = outcome.Fault error

abbrev pub opened_by : Owner → Reply → Option StandingObject
opened_by owner (opened handle names) =
    Some
    (record {
      owner = owner;
      handle = handle.number;
      node = handle.node;
      kind = handle.kind;
      names = reverse names;
    })
opened_by owner (link_text text) = None
opened_by owner done = None
opened_by owner (count n) = None
opened_by owner (stepped answer) = None
opened_by owner (kept standing) = None
opened_by owner (fault error) = None

abbrev pub kept_by : Reply → List StandingObject
kept_by (opened handle names) = []
kept_by (link_text text) = []
kept_by done = []
kept_by (count n) = []
kept_by (stepped answer) = []
kept_by (kept standing) = standing ∷ []
kept_by (fault error) = []

-- what was opened is the owner's
abbrev pub ended : Owner → LedgerView → Reply → LedgerView
ended owner ledger reply = record ledger {
  outcomes = ledger.outcomes ++ outcome_of reply ∷ [];
  standings = ledger.standings ++ opened_by owner reply ∷ [];
  kept = ledger.kept ++ kept_by reply;
}

-- ---- a turn

-- a call below that root has come to this
abbrev pub comes : LedgerView → Below → CallTurn → Seat
comes ledger below (more doing) = record { ledger = ledger; doing = Some (record { below = below; doing = doing }) }
comes ledger below (ends reply) = record { ledger = ended below.root.owner ledger reply; doing = None }

-- what a call names isn't held; or it is begun
abbrev pub begins : Bool → LedgerView → Option Request → Seat
begins room ledger None = record { ledger = ended ledger.root.owner ledger (fault BadHandle); doing = None }
begins room ledger (Some request) =
    comes ledger (below_of ledger.root request.flags) (starts (below_of ledger.root request.flags) room request.op)

-- the next call is begun, if one is to come
abbrev pub begins_next : Bool → LedgerView → List Planned → Seat
begins_next room ledger [] = record { ledger = ledger; doing = None }
begins_next room ledger (next ∷ others) =
    begins room (record ledger { to_come = others; standings = left_by next ledger.standings })
    (request_of ledger.root ledger.standings next)

-- where no call is under way the next one is begun
abbrev pub begun : Bool → LedgerView → Option CallView → Seat
begun room ledger None = begins_next room ledger ledger.to_come
begun room ledger (Some call) = record { ledger = ledger; doing = Some call }

-- the book and the seat after a turn
pub record Turned : Type 0 where
  pub book : BookedHistory
  pub seat : Seat

-- the due step of the call under way, if there is one, is made, and its answer taken
abbrev pub goes_on : Bool → Bool → BookedHistory → LedgerView → Option CallView → Turned
goes_on luck room book ledger None = record { book = book; seat = record { ledger = ledger; doing = None } }
goes_on luck room book ledger (Some call) =
    let step = stepped_by luck book ledger.root.owner.actor (due call.below call.doing) in
    record { book = step.book; seat = comes ledger call.below (take call.below room call.doing step.answer) }

-- A call that is done at its start is the whole turn.
abbrev pub turned : Luck → BookedHistory → LedgerView → Option CallView → Turned
turned luck book ledger doing =
    let seat = begun luck.start ledger doing in
    goes_on luck.step luck.room book seat.ledger seat.doing
