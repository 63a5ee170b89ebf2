-- What a call's own lines say of the handles that it leaves open, of no history: the statement of the law.
use Rattle.std.specs.Prelude.{◌≡◌, ℕ, ◌+◌, ◌==◌, List, [], ◌∷◌, Bool, true, false, cond}
use Rattle.tree_model.specs.declared.answer.Answer.{Answer}
use Rattle.tree_model.specs.declared.answer.Answer.TheVariants.{Opened}
use Rattle.tree_model.specs.StepWith.{StepWith}
use Rattle.tree_model.specs.declared.step.StepOf.TheVariants as steps
use Rattle.step_resolver.specs.Order.{Line, answered, no_room, not_made}
use Rattle.root_ops.specs.declared.below.Below.{Below}
use Rattle.root_ops.specs.declared.op.Op.{Op}
use Rattle.root_ops.specs.declared.op.Op.TheVariants.{Release}
use Rattle.root_ops.specs.Order.{Reply, opened, ends, starts, LeadsTo}

-- ---- lines

-- a step that opens a handle, if it is done: only such a step may be answered so
abbrev pub opens_one : StepWith ℕ → Bool
opens_one (steps.Open h n) = true
opens_one (steps.Dup h) = true
opens_one (steps.Parent h) = true
opens_one step = false

abbrev pub Fits : StepWith ℕ → Answer → Type 0
Fits step (Opened h x kind) = opens_one step ≡ true
Fits step answer = Unit {0}

abbrev pub AllFit : List Line → Type 0
AllFit [] = Unit {0}
AllFit (answered step answer ∷ lines) = Fits step answer × AllFit lines
AllFit (no_room step answer ∷ lines) = Fits step answer × AllFit lines
AllFit (not_made error ∷ lines) = AllFit lines

-- ---- how often a handle's number is among some

abbrev pub times : ℕ → List ℕ → ℕ
times h [] = 0
times h (k ∷ ks) = cond (k == h) 1 0 + times h ks

-- those that an answer opens, and those that a step closes
abbrev pub opened_by : Answer → List ℕ
opened_by (Opened h x kind) = h ∷ []
opened_by answer = []

abbrev pub closed_by : StepWith ℕ → List ℕ
closed_by (steps.Close h) = h ∷ []
closed_by step = []

-- how often lines open it, and how often they close it
abbrev pub times_opened : ℕ → List Line → ℕ
times_opened h [] = 0
times_opened h (answered step answer ∷ lines) = times h (opened_by answer) + times_opened h lines
times_opened h (no_room step answer ∷ lines) = times h (opened_by answer) + times_opened h lines
times_opened h (not_made error ∷ lines) = times_opened h lines

abbrev pub times_closed : ℕ → List Line → ℕ
times_closed h [] = 0
times_closed h (answered step answer ∷ lines) = times h (closed_by step) + times_closed h lines
times_closed h (no_room step answer ∷ lines) = times h (closed_by step) + times_closed h lines
times_closed h (not_made error ∷ lines) = times_closed h lines

-- ---- the law

abbrev pub is_release : Op → Bool
is_release (Release standing) = true
is_release op = false

-- what a reply leaves open
abbrev pub left_by : Reply → List ℕ
left_by (opened handle names) = handle.number ∷ []
left_by reply = []

-- Where each answer fits its step, a call that is no Release closes each handle as often as its own lines opened it;
-- after Opened all but the one that is told, once.
abbrev pub OpenedAreClosed : Type 0
OpenedAreClosed = (below : Below) (room : Bool) (op : Op) (lines : List Line) (reply : Reply) → is_release op ≡ false
    → AllFit lines → LeadsTo below (starts below room op) lines (ends reply)
    → (h : ℕ) → times_opened h lines ≡ times_closed h lines + times h (left_by reply)
