-- Requests, calls, lines and replies with the numbers of their handles and nodes replaced by others; everything else
-- stays.
use Rattle.std.specs.Prelude.{ℕ, List, [], ◌∷◌}
use Rattle.tree_model.specs.declared.answer.Answer.{Answer}
use Rattle.tree_model.specs.declared.answer.Answer.TheVariants as answers
use Rattle.tree_model.specs.StepWith.{StepWith}
use Rattle.tree_model.specs.declared.step.StepOf.TheVariants as steps
use Rattle.handles.specs.Objects.{StandingObject}
use Rattle.step_resolver.specs.Order.{Line, answered, no_room, not_made}
pub use Rattle.bulk_ops.specs.Renumbered.{Numbering, for_handles, numbers_by, root_by, way_by, handle_by, position_by, walk_after_by, walking_by, walk_turn_by, making_by, make_turn_by, level_by, levels_by, stage_by, removing_by, remove_turn_by}
use Rattle.root_ops.specs.declared.aim.Aim.{Aim}
use Rattle.root_ops.specs.declared.aim.Aim.TheVariants as aims
use Rattle.root_ops.specs.declared.below.Below.{Below}
use Rattle.root_ops.specs.declared.op.Op.{Op}
use Rattle.root_ops.specs.declared.op.Op.TheVariants as ops
use Rattle.root_ops.specs.declared.reply.Reply.{Reply as Told}
use Rattle.root_ops.specs.declared.reply.Reply.TheVariants as told
use Rattle.root_ops.specs.Order.{Reply, Doing, CallTurn}
use Rattle.root_ops.specs.Order as call

-- ---- steps and answers

abbrev pub step_by : Numbering → StepWith ℕ → StepWith ℕ
step_by f (steps.Open h n) = steps.Open (f.handle h) n
step_by f (steps.Dup h) = steps.Dup (f.handle h)
step_by f (steps.Parent h) = steps.Parent (f.handle h)
step_by f (steps.ReadLink h) = steps.ReadLink (f.handle h)
step_by f (steps.NameBelow r h) = steps.NameBelow (f.handle r) (f.handle h)
step_by f (steps.List h) = steps.List (f.handle h)
step_by f (steps.Close h) = steps.Close (f.handle h)
step_by f (steps.MakeDir h n) = steps.MakeDir (f.handle h) n
step_by f (steps.MakeFile h n) = steps.MakeFile (f.handle h) n
step_by f (steps.MakeLink h n text) = steps.MakeLink (f.handle h) n text
step_by f (steps.RemoveFile h n) = steps.RemoveFile (f.handle h) n
step_by f (steps.RemoveDir h n) = steps.RemoveDir (f.handle h) n
step_by f (steps.Rename h n k m mode) = steps.Rename (f.handle h) n (f.handle k) m mode

abbrev pub answer_by : Numbering → Answer → Answer
answer_by f (answers.Opened h x kind) = answers.Opened (f.handle h) (f.node x) kind
answer_by f (answers.Text text) = answers.Text text
answer_by f (answers.Names names) = answers.Names names
answer_by f answers.NotBelow = answers.NotBelow
answer_by f (answers.Listed names) = answers.Listed names
answer_by f answers.Done = answers.Done
answer_by f (answers.Refused error) = answers.Refused error

-- ---- calls

abbrev pub standing_by : Numbering → StandingObject → StandingObject
standing_by f standing = record standing { handle = f.handle standing.handle; node = f.node standing.node }

abbrev pub reply_by : Numbering → Reply → Reply
reply_by f (call.opened handle names) = call.opened (handle_by f handle) names
reply_by f (call.link_text text) = call.link_text text
reply_by f call.done = call.done
reply_by f (call.count n) = call.count n
reply_by f (call.stepped answer) = call.stepped (answer_by f answer)
reply_by f (call.kept standing) = call.kept (standing_by f standing)
reply_by f (call.fault error) = call.fault error

abbrev pub after_by : Numbering → call.After → call.After
after_by f (call.gives reply) = call.gives (reply_by f reply)
after_by f (call.acts wanted step hs) = call.acts wanted (step_by f step) (numbers_by f hs)

abbrev pub aim_by : Numbering → Aim → Aim
aim_by f (aims.Opens goal) = aims.Opens goal
aim_by f aims.Reads = aims.Reads
aim_by f (aims.Changes change n) = aims.Changes change n
aim_by f (aims.WalksOn path renaming) = aims.WalksOn path renaming
aim_by f (aims.Renames old renaming) = aims.Renames (f.handle old) renaming

abbrev pub doing_by : Numbering → Doing → Doing
doing_by f (call.walking w aim) = call.walking (walking_by f w) (aim_by f aim)
doing_by f (call.acting wanted step hs) = call.acting wanted (step_by f step) (numbers_by f hs)
doing_by f (call.checking old new renaming) = call.checking (f.handle old) (f.handle new) renaming
doing_by f (call.closing h hs after) = call.closing (f.handle h) (numbers_by f hs) (after_by f after)
doing_by f (call.making bulk) = call.making (making_by f bulk)
doing_by f (call.removing bulk) = call.removing (removing_by f bulk)
doing_by f (call.releasing h) = call.releasing (f.handle h)

abbrev pub call_turn_by : Numbering → CallTurn → CallTurn
call_turn_by f (call.more doing) = call.more (doing_by f doing)
call_turn_by f (call.ends reply) = call.ends (reply_by f reply)

abbrev pub below_by : Numbering → Below → Below
below_by f below = record below { root = root_by f below.root }

abbrev pub op_by : Numbering → Op → Op
op_by f (ops.Resolve path) = ops.Resolve path
op_by f (ops.ResolveNoFollow path) = ops.ResolveNoFollow path
op_by f (ops.ReadLink path) = ops.ReadLink path
op_by f (ops.CreateFile path) = ops.CreateFile path
op_by f (ops.CreateDir path) = ops.CreateDir path
op_by f (ops.CreateLink path text) = ops.CreateLink path text
op_by f (ops.RemoveFile path) = ops.RemoveFile path
op_by f (ops.RemoveDir path) = ops.RemoveDir path
op_by f (ops.Rename old new mode) = ops.Rename old new mode
op_by f (ops.MkdirAll path) = ops.MkdirAll path
op_by f (ops.RemoveAll path) = ops.RemoveAll path
op_by f (ops.Single step) = ops.Single (step_by f step)
op_by f (ops.Release standing) = ops.Release (standing_by f standing)

-- ---- lines and replies

abbrev pub line_by : Numbering → Line → Line
line_by f (answered step answer) = answered (step_by f step) (answer_by f answer)
line_by f (no_room step answer) = no_room (step_by f step) (answer_by f answer)
line_by f (not_made error) = not_made error

abbrev pub lines_by : Numbering → List Line → List Line
lines_by f [] = []
lines_by f (line ∷ lines) = line_by f line ∷ lines_by f lines

abbrev pub told_by : Numbering → Told → Told
told_by f (told.Opened standing) = told.Opened (standing_by f standing)
told_by f (told.Text text) = told.Text text
told_by f told.Done = told.Done
told_by f (told.Count n) = told.Count n
told_by f (told.Stepped answer) = told.Stepped (answer_by f answer)
told_by f (told.Kept standing) = told.Kept (standing_by f standing)
told_by f (told.Fault error) = told.Fault error
