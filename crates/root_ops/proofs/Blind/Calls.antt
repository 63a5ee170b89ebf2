-- A call looks at no handle's number.
use Rattle.std.specs.Prelude.{◌≡◌, ℕ, List, [], ◌∷◌, Bool, true, false, Option, Some, None, Result, Ok, Err, if◌then◌else◌, refl}
use Rattle.std.proofs.Common.{ap, ◌∙◌}
use Rattle.path_text.specs.declared.errno.Errno.{Errno}
use Rattle.path_text.specs.declared.errno.Errno.TheVariants.{Invalid, NoMemory}
use Rattle.path_text.specs.declared.path.Rule.{Rule}
use Rattle.path_text.specs.declared.path.Rule.TheVariants.{Drop, Refuse}
use Rattle.path_text.specs.declared.path.Split.{Split}
use Rattle.path_text.specs.Reading.{Reading}
use Rattle.path_text.specs.Text.{text_fault, reading_of}
use Rattle.path_text.specs.Split.{split_of}
use Rattle.tree_model.specs.declared.answer.Answer.{Answer}
use Rattle.tree_model.specs.declared.answer.Answer.TheVariants as answers
use Rattle.tree_model.specs.declared.step.Mode.{Mode}
use Rattle.tree_model.specs.StepWith.{StepWith}
use Rattle.tree_model.specs.declared.step.StepOf.TheVariants as steps
use Rattle.handles.specs.Objects.{StandingObject}
use Rattle.walk_plan.specs.declared.goal.Goal.TheVariants.{Follow, NoFollow}
use Rattle.step_resolver.specs.Order.{Handle, Turn, found, partial, failed, is_dir_kind}
use Rattle.step_resolver.specs.Order as walk
use Rattle.step_resolver.specs.View.{way_from}
use Rattle.bulk_ops.specs.MakeAllOrder as make
use Rattle.bulk_ops.specs.RemoveAllOrder as remove
use Rattle.root_ops.specs.declared.aim.Aim.{Aim}
use Rattle.root_ops.specs.declared.aim.Aim.TheVariants.{Opens, Reads, Changes, WalksOn, Renames}
use Rattle.root_ops.specs.declared.aim.Change.{Change}
use Rattle.root_ops.specs.declared.aim.Change.TheVariants as changes
use Rattle.root_ops.specs.declared.aim.Renaming.{Renaming}
use Rattle.root_ops.specs.declared.aim.Wanted.{Wanted}
use Rattle.root_ops.specs.declared.aim.Wanted.TheVariants as wants
use Rattle.root_ops.specs.declared.below.Below.{Below}
use Rattle.root_ops.specs.declared.op.Op.{Op}
use Rattle.root_ops.specs.declared.op.Op.TheVariants as ops
use Rattle.root_ops.specs.Order.{After, gives, acts, walking, acting, checking, closing, making, removing, releasing, CallTurn, more, ends, fault, change_step, reply_to, comes, closes, way_of, renames, walked_on, reached, walked, make_way, makes, removing_turn, walks, unless_fault, on_path, in_directory, on_entry, make_missing, clear_in, renaming_of, between, from_entry, is_single, single, same_owner, releases, begins, lacks, begins_without, checked}
use Rattle.root_ops.specs.Renumbered.{Numbering, numbers_by, step_by, answer_by, way_by, handle_by, walking_by, walk_turn_by, make_turn_by, remove_turn_by, standing_by, reply_by, after_by, aim_by, call_turn_by, below_by, op_by}
use Rattle.root_ops.specs.Blind.{CallsBeginBlindly, StepsAreDueBlindly, AnswersAreTakenBlindly}
use Rattle.root_ops.proofs.Blind.Walks as in_walks
use Rattle.root_ops.proofs.Blind.Bulk.{make_begins_by, make_take_by, make_due_by, remove_begins_by, remove_take_by, remove_due_by}

module _ (f : Numbering) where
  either_by : (b : Bool) (t u t' u' : CallTurn) → call_turn_by f t ≡ t' → call_turn_by f u ≡ u' → call_turn_by f (if b then t else u) ≡ (if b then t' else u')
  either_by true t u t' u' e e' = e
  either_by false t u t' u' e e' = e'

  comes_by : (after : After) → call_turn_by f (comes after) ≡ comes (after_by f after)
  comes_by (gives reply) = refl
  comes_by (acts wanted step hs) = refl

  closes_by : (hs : List ℕ) (after : After) → call_turn_by f (closes hs after) ≡ closes (numbers_by f hs) (after_by f after)
  closes_by [] after = comes_by after
  closes_by (h ∷ hs) after = refl

  reply_to_by : (wanted : Wanted) (answer : Answer) → reply_by f (reply_to wanted answer) ≡ reply_to wanted (answer_by f answer)
  reply_to_by wants.Done answers.Done = refl
  reply_to_by wants.Done answer = refl
  reply_to_by wants.Text (answers.Text bytes) = refl
  reply_to_by wants.Text answer = refl
  reply_to_by wants.Any (answers.Refused error) = refl
  reply_to_by wants.Any answer = refl

  change_step_by : (change : Change) (d : ℕ) (n : List ℕ) → step_by f (change_step change d n) ≡ change_step change (f.handle d) n
  change_step_by changes.MakeFile d n = refl
  change_step_by changes.MakeDir d n = refl
  change_step_by (changes.MakeLink text) d n = refl
  change_step_by changes.RemoveFile d n = refl
  change_step_by changes.RemoveDir d n = refl

  -- ---- walks

  renames_by : (old new : ℕ) (renaming : Renaming) → call_turn_by f (renames old new renaming) ≡ renames (f.handle old) (f.handle new) renaming
  renames_by old new renaming = either_by renaming.slash _ _ _ _ refl refl

  walked_on_by : (old : ℕ) (renaming : Renaming) (turn : Turn) → call_turn_by f (walked_on old renaming turn) ≡ walked_on (f.handle old) renaming (walk_turn_by f turn)
  walked_on_by old renaming (walk.more w) = refl
  walked_on_by old renaming (found handle names) = renames_by old handle.number renaming
  walked_on_by old renaming (partial handle names rest) = refl
  walked_on_by old renaming (failed error) = refl

  module _ (below : Below) where
    reached_by : (room : Bool) (handle : Handle) (names : List (List ℕ)) (aim : Aim)
        → call_turn_by f (reached below room handle names aim) ≡ reached (below_by f below) room (handle_by f handle) names (aim_by f aim)
    reached_by room handle names (Opens goal) = refl
    reached_by room handle names Reads = refl
    reached_by room handle names (Changes change n) = ap (λ step. more (acting wants.Done step (f.handle handle.number ∷ []))) (change_step_by change handle.number n)
    reached_by room handle names (WalksOn path renaming) =
        walked_on_by handle.number renaming (walk.starts (way_from below.root Follow below.flags) room path)
        ∙ ap (walked_on (f.handle handle.number) renaming) (in_walks.starts_by f (way_from below.root Follow below.flags) room path)
    reached_by room handle names (Renames old renaming) = renames_by old handle.number renaming

    walked_by : (room : Bool) (aim : Aim) (turn : Turn) → call_turn_by f (walked below room aim turn) ≡ walked (below_by f below) room (aim_by f aim) (walk_turn_by f turn)
    walked_by room aim (walk.more w) = refl
    walked_by room aim (found handle names) = reached_by room handle names aim
    walked_by room (Opens goal) (partial handle names rest) = refl
    walked_by room Reads (partial handle names rest) = refl
    walked_by room (Changes change n) (partial handle names rest) = refl
    walked_by room (WalksOn path renaming) (partial handle names rest) = refl
    walked_by room (Renames old renaming) (partial handle names rest) = refl
    walked_by room (Opens goal) (failed error) = refl
    walked_by room Reads (failed error) = refl
    walked_by room (Changes change n) (failed error) = refl
    walked_by room (WalksOn path renaming) (failed error) = refl
    walked_by room (Renames old renaming) (failed error) = refl

    same_way : (aim : Aim) → way_by f (way_of below aim) ≡ way_of (below_by f below) (aim_by f aim)
    same_way (Opens goal) = refl
    same_way Reads = refl
    same_way (Changes change n) = refl
    same_way (WalksOn path renaming) = refl
    same_way (Renames old renaming) = refl

  makes_by : (turn : make.MakeTurn) → call_turn_by f (makes turn) ≡ makes (make_turn_by f turn)
  makes_by (make.more bulk) = refl
  makes_by (make.made handle names) = refl
  makes_by (make.failed error) = refl

  clears_by : (turn : remove.Turn) → call_turn_by f (removing_turn turn) ≡ removing_turn (remove_turn_by f turn)
  clears_by (remove.more bulk) = refl
  clears_by (remove.removed n) = refl
  clears_by (remove.failed error) = refl

  -- ---- the beginning

  unless_fault_by : (error : Option Errno) (t t' : CallTurn) → call_turn_by f t ≡ t' → call_turn_by f (unless_fault error t) ≡ unless_fault error t'
  unless_fault_by (Some error) t t' e = refl
  unless_fault_by None t t' e = e

  module _ (below : Below) where
    walks_by : (aim : Aim) (path : Reading) → call_turn_by f (walks below aim path) ≡ walks (below_by f below) (aim_by f aim) path
    walks_by aim path =
        walked_by below true aim (walk.starts (way_of below aim) true path)
        ∙ ap (walked (below_by f below) true (aim_by f aim))
        (in_walks.starts_by f (way_of below aim) true path ∙ ap (λ way. walk.starts way true path) (same_way below aim))

    on_path_by : (aim : Aim) (text : List ℕ) → call_turn_by f (on_path below aim text) ≡ on_path (below_by f below) (aim_by f aim) text
    on_path_by aim text = unless_fault_by (text_fault text) _ _ (walks_by aim (reading_of text))

    in_directory_by : (change : Change) (split : Result Split Errno) → call_turn_by f (in_directory below change split) ≡ in_directory (below_by f below) change split
    in_directory_by change (Err error) = refl
    in_directory_by change (Ok split) = walks_by (Changes change split.name) split.dir

    on_entry_by : (rule : Rule) (change : Change) (text : List ℕ) → call_turn_by f (on_entry below rule change text) ≡ on_entry (below_by f below) rule change text
    on_entry_by rule change text = unless_fault_by (text_fault text) _ _ (in_directory_by change (split_of (reading_of text) rule))

    make_missing_by : (text : List ℕ) → call_turn_by f (make_missing below text) ≡ make_missing (below_by f below) text
    make_missing_by text =
        unless_fault_by (text_fault text) _ _
        (makes_by (make.begins (make_way below) (reading_of text)) ∙ ap makes (make_begins_by f (make_way below) (reading_of text)))

    clear_in_by : (split : Result Split Errno) → call_turn_by f (clear_in below split) ≡ clear_in (below_by f below) split
    clear_in_by (Err error) = refl
    clear_in_by (Ok split) =
        clears_by (remove.begins (way_from below.root Follow below.flags) split.name split.dir)
        ∙ ap removing_turn (remove_begins_by f (way_from below.root Follow below.flags) split.name split.dir)

    between_by : (mode : Mode) (old : Split) (split : Result Split Errno) → call_turn_by f (between below mode old split) ≡ between (below_by f below) mode old split
    between_by mode old (Err error) = refl
    between_by mode old (Ok new) = walks_by (WalksOn new.dir (renaming_of old new mode)) old.dir

    from_entry_by : (mode : Mode) (new : List ℕ) (split : Result Split Errno) → call_turn_by f (from_entry below mode new split) ≡ from_entry (below_by f below) mode new split
    from_entry_by mode new (Err error) = refl
    from_entry_by mode new (Ok old) = unless_fault_by (text_fault new) _ _ (between_by mode old (split_of (reading_of new) Drop))

    single_by : (step : StepWith ℕ) → call_turn_by f (single step) ≡ single (step_by f step)
    single_by (steps.Open h n) = refl
    single_by (steps.Dup h) = refl
    single_by (steps.Parent h) = refl
    single_by (steps.ReadLink h) = refl
    single_by (steps.NameBelow r h) = refl
    single_by (steps.List h) = refl
    single_by (steps.Close h) = refl
    single_by (steps.MakeDir h n) = refl
    single_by (steps.MakeFile h n) = refl
    single_by (steps.MakeLink h n text) = refl
    single_by (steps.RemoveFile h n) = refl
    single_by (steps.RemoveDir h n) = refl
    single_by (steps.Rename h n k m mode) = refl

    releases_by : (standing : StandingObject) → call_turn_by f (releases below.root.owner standing) ≡ releases below.root.owner (standing_by f standing)
    releases_by standing = either_by (same_owner standing.owner below.root.owner) _ _ _ _ refl refl

    begins_by : (op : Op) → call_turn_by f (begins below op) ≡ begins (below_by f below) (op_by f op)
    begins_by (ops.Resolve path) = on_path_by (Opens Follow) path
    begins_by (ops.ResolveNoFollow path) = on_path_by (Opens NoFollow) path
    begins_by (ops.ReadLink path) = on_path_by Reads path
    begins_by (ops.CreateFile path) = on_entry_by Refuse changes.MakeFile path
    begins_by (ops.CreateDir path) = on_entry_by Drop changes.MakeDir path
    begins_by (ops.CreateLink path text) = on_entry_by Refuse (changes.MakeLink text) path
    begins_by (ops.RemoveFile path) = on_entry_by Refuse changes.RemoveFile path
    begins_by (ops.RemoveDir path) = on_entry_by Drop changes.RemoveDir path
    begins_by (ops.Rename old new mode) = unless_fault_by (text_fault old) _ _ (from_entry_by mode new (split_of (reading_of old) Drop))
    begins_by (ops.MkdirAll path) = make_missing_by path
    begins_by (ops.RemoveAll path) = unless_fault_by (text_fault path) _ _ (clear_in_by (split_of (reading_of path) Drop))
    begins_by (ops.Single step) = single_by step
    begins_by (ops.Release standing) = releases_by standing

    lacks_by : (text : List ℕ) → call_turn_by f (lacks text) ≡ lacks text
    lacks_by text = unless_fault_by (text_fault text) _ _ refl

    single_without_by : (step : StepWith ℕ) → call_turn_by f (if is_single step then ends (fault NoMemory) else ends (fault Invalid)) ≡ (if is_single (step_by f step) then ends (fault NoMemory) else ends (fault Invalid))
    single_without_by (steps.Open h n) = refl
    single_without_by (steps.Dup h) = refl
    single_without_by (steps.Parent h) = refl
    single_without_by (steps.ReadLink h) = refl
    single_without_by (steps.NameBelow r h) = refl
    single_without_by (steps.List h) = refl
    single_without_by (steps.Close h) = refl
    single_without_by (steps.MakeDir h n) = refl
    single_without_by (steps.MakeFile h n) = refl
    single_without_by (steps.MakeLink h n text) = refl
    single_without_by (steps.RemoveFile h n) = refl
    single_without_by (steps.RemoveDir h n) = refl
    single_without_by (steps.Rename h n k m mode) = refl

    without_by : (op : Op) → call_turn_by f (begins_without below op) ≡ begins_without (below_by f below) (op_by f op)
    without_by (ops.Resolve path) = lacks_by path
    without_by (ops.ResolveNoFollow path) = lacks_by path
    without_by (ops.ReadLink path) = lacks_by path
    without_by (ops.CreateFile path) = lacks_by path
    without_by (ops.CreateDir path) = lacks_by path
    without_by (ops.CreateLink path text) = lacks_by path
    without_by (ops.RemoveFile path) = lacks_by path
    without_by (ops.RemoveDir path) = lacks_by path
    without_by (ops.Rename old new mode) = lacks_by old
    without_by (ops.MkdirAll path) = lacks_by path
    without_by (ops.RemoveAll path) = lacks_by path
    without_by (ops.Single step) = single_without_by step
    without_by (ops.Release standing) = releases_by standing

-- ---- what is due, and answers

pub calls_begin_blindly : CallsBeginBlindly
calls_begin_blindly f below true op = begins_by f below op
calls_begin_blindly f below false op = without_by f below op

pub steps_are_due_blindly : StepsAreDueBlindly
steps_are_due_blindly f below (walking w aim) =
    in_walks.due_by f (way_of below aim) w ∙ ap (λ way. walk.due way (walking_by f w)) (same_way f below aim)
steps_are_due_blindly f below (acting wanted step hs) = refl
steps_are_due_blindly f below (checking old new renaming) = refl
steps_are_due_blindly f below (closing h hs after) = refl
steps_are_due_blindly f below (making call) = make_due_by f (make_way below) call
steps_are_due_blindly f below (removing call) = remove_due_by f call
steps_are_due_blindly f below (releasing h) = refl

module _ (f : Numbering) where
  checked_by : (old new : ℕ) (renaming : Renaming) (child : ℕ) (is_dir : Bool) → call_turn_by f (checked old new renaming child is_dir) ≡ checked (f.handle old) (f.handle new) renaming (f.handle child) is_dir
  checked_by old new renaming child true = refl
  checked_by old new renaming child false = refl

  ends_by : (hs : List ℕ) (wanted : Wanted) (answer : Answer)
      → call_turn_by f (closes hs (gives (reply_to wanted answer))) ≡ closes (numbers_by f hs) (gives (reply_to wanted (answer_by f answer)))
  ends_by hs wanted answer = closes_by f hs (gives (reply_to wanted answer)) ∙ ap (λ reply. closes (numbers_by f hs) (gives reply)) (reply_to_by f wanted answer)

pub answers_are_taken_blindly : AnswersAreTakenBlindly
answers_are_taken_blindly f below room (walking w aim) answer =
    walked_by f below room aim (walk.take (way_of below aim) room w answer)
    ∙ ap (walked (below_by f below) room (aim_by f aim))
    (in_walks.take_by f (way_of below aim) room w answer ∙ ap (λ way. walk.take way room (walking_by f w) (answer_by f answer)) (same_way f below aim))
answers_are_taken_blindly f below room (acting wanted step hs) answer = ends_by f hs wanted answer
answers_are_taken_blindly f below room (checking old new renaming) (answers.Opened h x kind) = checked_by f old new renaming h (is_dir_kind kind)
answers_are_taken_blindly f below room (checking old new renaming) answer = refl
answers_are_taken_blindly f below room (closing h hs after) answer = closes_by f hs after
answers_are_taken_blindly f below room (making call) answer =
    makes_by f (make.take (make_way below) room call answer) ∙ ap makes (make_take_by f (make_way below) room call answer)
answers_are_taken_blindly f below room (removing call) answer =
    clears_by f (remove.take room call answer) ∙ ap removing_turn (remove_take_by f room call answer)
answers_are_taken_blindly f below room (releasing h) answer = ap ends (reply_to_by f wants.Done answer)
