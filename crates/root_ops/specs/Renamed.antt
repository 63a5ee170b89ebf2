-- Requests, calls and replies with the numbers of their handles replaced by others; everything else stays.
use Rattle.std.specs.Prelude.{◌≡◌, ℕ, List, [], ◌∷◌, ◌++◌}
use Rattle.tree_model.specs.declared.answer.Answer.{Answer}
use Rattle.tree_model.specs.declared.answer.Answer.TheVariants as answers
use Rattle.tree_model.specs.StepWith.{StepWith}
use Rattle.tree_model.specs.declared.step.StepOf.TheVariants as steps
use Rattle.handles.specs.Objects.{StandingObject}
pub use Rattle.bulk_ops.specs.Renamed.{numbers_by, root_by, way_by, handle_by, position_by, walk_after_by, walking_by, walk_after_handles, walking_handles, making_by, level_by, levels_by, stage_by, removing_by, making_handles, stage_handles, levels_handles, removing_handles}
use Rattle.root_ops.specs.declared.aim.Aim.{Aim}
use Rattle.root_ops.specs.declared.aim.Aim.TheVariants as aims
use Rattle.root_ops.specs.declared.below.Below.{Below}
use Rattle.root_ops.specs.declared.op.Op.{Op}
use Rattle.root_ops.specs.declared.op.Op.TheVariants as ops
use Rattle.root_ops.specs.declared.op.Request.{Request}
use Rattle.root_ops.specs.Order.{Reply, Doing, CallTurn}
use Rattle.root_ops.specs.Order as call
use Rattle.root_ops.specs.View.{CallView}
use Rattle.root_ops.specs.Renumbered.{for_handles}
use Rattle.root_ops.specs.Renumbered as all

-- ---- steps and answers

abbrev pub step_by : (ℕ → ℕ) → StepWith ℕ → StepWith ℕ
step_by f = all.step_by (for_handles f)

abbrev pub answer_by : (ℕ → ℕ) → Answer → Answer
answer_by f = all.answer_by (for_handles f)

-- ---- calls

abbrev pub standing_by : (ℕ → ℕ) → StandingObject → StandingObject
standing_by f = all.standing_by (for_handles f)

abbrev pub reply_by : (ℕ → ℕ) → Reply → Reply
reply_by f = all.reply_by (for_handles f)

abbrev pub after_by : (ℕ → ℕ) → call.After → call.After
after_by f = all.after_by (for_handles f)

abbrev pub aim_by : (ℕ → ℕ) → Aim → Aim
aim_by f = all.aim_by (for_handles f)

abbrev pub doing_by : (ℕ → ℕ) → Doing → Doing
doing_by f = all.doing_by (for_handles f)

abbrev pub call_turn_by : (ℕ → ℕ) → CallTurn → CallTurn
call_turn_by f = all.call_turn_by (for_handles f)

abbrev pub below_by : (ℕ → ℕ) → Below → Below
below_by f = all.below_by (for_handles f)

abbrev pub op_by : (ℕ → ℕ) → Op → Op
op_by f = all.op_by (for_handles f)

abbrev pub request_by : (ℕ → ℕ) → Request → Request
request_by f request = record request { op = op_by f request.op }

abbrev pub call_by : (ℕ → ℕ) → CallView → CallView
call_by f call' = record { below = below_by f call'.below; doing = doing_by f call'.doing }

-- ---- the handles themselves, one by one

abbrev pub step_handles : StepWith ℕ → List ℕ
step_handles (steps.Open h n) = h ∷ []
step_handles (steps.Dup h) = h ∷ []
step_handles (steps.Parent h) = h ∷ []
step_handles (steps.ReadLink h) = h ∷ []
step_handles (steps.NameBelow r h) = r ∷ h ∷ []
step_handles (steps.List h) = h ∷ []
step_handles (steps.Close h) = h ∷ []
step_handles (steps.MakeDir h n) = h ∷ []
step_handles (steps.MakeFile h n) = h ∷ []
step_handles (steps.MakeLink h n text) = h ∷ []
step_handles (steps.RemoveFile h n) = h ∷ []
step_handles (steps.RemoveDir h n) = h ∷ []
step_handles (steps.Rename h n k m mode) = h ∷ k ∷ []

abbrev pub answer_handles : Answer → List ℕ
answer_handles (answers.Opened h x kind) = h ∷ []
answer_handles (answers.Text text) = []
answer_handles (answers.Names names) = []
answer_handles answers.NotBelow = []
answer_handles (answers.Listed names) = []
answer_handles answers.Done = []
answer_handles (answers.Refused error) = []

abbrev pub reply_handles : Reply → List ℕ
reply_handles (call.opened handle names) = handle.number ∷ []
reply_handles (call.link_text text) = []
reply_handles call.done = []
reply_handles (call.count n) = []
reply_handles (call.stepped answer) = answer_handles answer
reply_handles (call.kept standing) = standing.handle ∷ []
reply_handles (call.fault error) = []

abbrev pub after_handles : call.After → List ℕ
after_handles (call.gives reply) = reply_handles reply
after_handles (call.acts wanted step hs) = step_handles step ++ hs

abbrev pub aim_handles : Aim → List ℕ
aim_handles (aims.Opens goal) = []
aim_handles aims.Reads = []
aim_handles (aims.Changes change n) = []
aim_handles (aims.WalksOn path renaming) = []
aim_handles (aims.Renames old renaming) = old ∷ []

abbrev pub doing_handles : Doing → List ℕ
doing_handles (call.walking w aim) = walking_handles w ++ aim_handles aim
doing_handles (call.acting wanted step hs) = step_handles step ++ hs
doing_handles (call.checking old new renaming) = old ∷ new ∷ []
doing_handles (call.closing h hs after) = h ∷ (hs ++ after_handles after)
doing_handles (call.making bulk) = making_handles bulk
doing_handles (call.removing bulk) = removing_handles bulk
doing_handles (call.releasing h) = h ∷ []

abbrev pub call_handles : CallView → List ℕ
call_handles call' = call'.below.root.handle ∷ doing_handles call'.doing

abbrev pub op_handles : Op → List ℕ
op_handles (ops.Resolve path) = []
op_handles (ops.ResolveNoFollow path) = []
op_handles (ops.ReadLink path) = []
op_handles (ops.CreateFile path) = []
op_handles (ops.CreateDir path) = []
op_handles (ops.CreateLink path text) = []
op_handles (ops.RemoveFile path) = []
op_handles (ops.RemoveDir path) = []
op_handles (ops.Rename old new mode) = []
op_handles (ops.MkdirAll path) = []
op_handles (ops.RemoveAll path) = []
op_handles (ops.Single step) = step_handles step
op_handles (ops.Release standing) = standing.handle ∷ []

-- ---- what is the same but for handles' numbers, and gets one number for each handle in both, is the same with these

abbrev pub LikeAnswersAgree : Type 0
LikeAnswersAgree = (f g : ℕ → ℕ) (a b : Answer) → answer_by (λ h. 0) a ≡ answer_by (λ h. 0) b
    → numbers_by f (answer_handles a) ≡ numbers_by g (answer_handles b) → answer_by f a ≡ answer_by g b

abbrev pub LikeRequestsAgree : Type 0
LikeRequestsAgree = (f g : ℕ → ℕ) (r s : Request) → request_by (λ h. 0) r ≡ request_by (λ h. 0) s
    → numbers_by f (op_handles r.op) ≡ numbers_by g (op_handles s.op) → request_by f r ≡ request_by g s

abbrev pub LikeCallsAgree : Type 0
LikeCallsAgree = (f g : ℕ → ℕ) (c d : CallView) → call_by (λ h. 0) c ≡ call_by (λ h. 0) d
    → numbers_by f (call_handles c) ≡ numbers_by g (call_handles d) → call_by f c ≡ call_by g d
