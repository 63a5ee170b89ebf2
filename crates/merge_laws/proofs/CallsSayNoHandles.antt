-- No call's reply says a handle's number: a step that opens something is none for a call, and what an operation opened is
-- told by its names.
use Rattle.std.specs.Prelude.{◌≡◌, ◌||◌, ℕ, List, [], ◌∷◌, Bool, true, false, not, if◌then◌else◌, Option, Some, None, Result, Ok, Err}
use Rattle.std.proofs.lemmas.Bool.{false≢true}
use Rattle.path_text.specs.declared.errno.Errno.{Errno}
use Rattle.path_text.specs.declared.errno.Errno.TheVariants.{BadHandle, NoMemory, NotDir}
use Rattle.tree_model.specs.declared.answer.Answer.{Answer}
use Rattle.tree_model.specs.declared.answer.Answer.TheVariants.{Opened, Text, Listed, Done, Refused}
use Rattle.tree_model.specs.declared.inode.Inode.{Inode}
use Rattle.tree_model.specs.declared.inode.Object.{Object}
use Rattle.tree_model.specs.declared.inode.Object.TheVariants as object
use Rattle.tree_model.specs.StepWith.{StepWith}
use Rattle.tree_model.specs.declared.step.StepOf.TheVariants as steps
use Rattle.tree_model.specs.Entries.{refuse_if, with_some}
use Rattle.tree_model.specs.Entries as entries
use Rattle.tree_model.specs.State.{State, object_at, is_dir, names_below, names_in, sorted_names}
use Rattle.tree_model.specs.Steps.{Outcome, held, answered, refused, reads, shows, on_handle, outcome}
use Rattle.tree_model.specs.Steps as table
use Rattle.step_resolver.specs.Order.{is_dir_kind}
use Rattle.step_resolver.specs.Order as walk
use Rattle.bulk_ops.specs.MakeAllOrder as make
use Rattle.bulk_ops.specs.RemoveAllOrder as remove
use Rattle.root_ops.specs.declared.aim.Wanted.{Wanted}
use Rattle.root_ops.specs.declared.aim.Wanted.TheVariants as wants
use Rattle.root_ops.specs.declared.below.Below.{Below}
use Rattle.root_ops.specs.declared.op.Op.{Op}
use Rattle.root_ops.specs.Order.{Reply, stepped, fault, After, gives, acts, Doing, walking, acting, checking, closing, making, removing, releasing, CallTurn, more, ends, reply_to, way_of, make_way, makes, removing_turn, checked, is_single, starts, take, due}
use Rattle.root_ops.specs.Order as call
use Rattle.race_core.specs.Book.{BookedHistory, is_close, refusal, tree_now}
use Rattle.race_core.specs.Turns.{unless_refused, stepped_by}
use Rattle.further_world_laws.proofs.PlainTurns.{IsPlain, walked_plain, checked_plain, made_plain, cleared_plain, starts_plain}

-- ---- what says no handle's number

abbrev pub SaysNone : Answer → Type 0
SaysNone (Opened h x kind) = ⊥
SaysNone answer = Unit {0}

abbrev pub TellsNone : Reply → Type 0
TellsNone (stepped answer) = SaysNone answer
TellsNone reply = Unit {0}

-- a step whose answer is the reply opens nothing
abbrev IsSafe : Wanted → StepWith ℕ → Type 0
IsSafe wants.Any step = is_single step ≡ true
IsSafe wanted step = Unit {0}

-- a call whose reply will say none
abbrev pub WillTellNone : Doing → Type 0
WillTellNone (acting wanted step hs) = IsSafe wanted step
WillTellNone (closing h hs (gives reply)) = TellsNone reply
WillTellNone (closing h hs (acts wanted step ks)) = IsSafe wanted step
WillTellNone doing = Unit {0}

abbrev pub ComesToNone : CallTurn → Type 0
ComesToNone (more doing) = WillTellNone doing
ComesToNone (ends reply) = TellsNone reply

-- ---- answers

on_held : (s : State) (a h : ℕ) (onward : ℕ → Outcome) → ((x : ℕ) → SaysNone (onward x).answer) → SaysNone (on_handle s a h onward).answer
on_held s a h onward each = on (held s a h)
  where
    on : (o : Option ℕ) → SaysNone (with_some o (refused s BadHandle) onward).answer
    on None = tt
    on (Some x) = each x

reads_so : (s : State) (what : Option Object) → SaysNone (reads s what).answer
reads_so s None = tt
reads_so s (Some object.Dir) = tt
reads_so s (Some object.File) = tt
reads_so s (Some (object.Link text)) = tt

shows_so : (s : State) (names : Option (List (List ℕ))) → SaysNone (shows s names).answer
shows_so s None = tt
shows_so s (Some names) = tt

changes_so : (s : State) (nodes : Result (List Inode) Errno) → SaysNone (table.changes s nodes).answer
changes_so s (Ok nodes) = tt
changes_so s (Err error) = tt

lists_so : (s : State) (d : ℕ) (b : Bool) → SaysNone (refuse_if b (refused s NotDir) (answered s (Listed (sorted_names (names_in s.nodes d))))).answer
lists_so s d true = tt
lists_so s d false = tt

outcome_so : (s : State) (a : ℕ) (step : StepWith ℕ) → is_single step ≡ true → SaysNone (outcome s a step).answer
outcome_so s a (steps.Open h n) e = absurd (false≢true e)
outcome_so s a (steps.Dup h) e = absurd (false≢true e)
outcome_so s a (steps.Parent h) e = absurd (false≢true e)
outcome_so s a (steps.ReadLink h) e = on_held s a h (λ x. reads s (object_at s.nodes x)) (λ x. reads_so s (object_at s.nodes x))
outcome_so s a (steps.NameBelow r h) e =
    on_held s a r (λ top. on_handle s a h (λ x. shows s (names_below s.nodes top x)))
    (λ top. on_held s a h (λ x. shows s (names_below s.nodes top x)) (λ x. shows_so s (names_below s.nodes top x)))
outcome_so s a (steps.List h) e =
    on_held s a h (λ d. refuse_if (not (is_dir s.nodes d)) (refused s NotDir) (answered s (Listed (sorted_names (names_in s.nodes d)))))
    (λ d. lists_so s d (not (is_dir s.nodes d)))
outcome_so s a (steps.Close h) e = absurd (false≢true e)
outcome_so s a (steps.MakeDir h n) e =
    on_held s a h (λ d. table.changes s (entries.makes s.nodes d n object.Dir)) (λ d. changes_so s (entries.makes s.nodes d n object.Dir))
outcome_so s a (steps.MakeFile h n) e =
    on_held s a h (λ d. table.changes s (entries.makes s.nodes d n object.File)) (λ d. changes_so s (entries.makes s.nodes d n object.File))
outcome_so s a (steps.MakeLink h n text) e =
    on_held s a h (λ d. table.changes s (entries.makes_link s.nodes d n text)) (λ d. changes_so s (entries.makes_link s.nodes d n text))
outcome_so s a (steps.RemoveFile h n) e =
    on_held s a h (λ d. table.changes s (entries.removes_file s.nodes d n)) (λ d. changes_so s (entries.removes_file s.nodes d n))
outcome_so s a (steps.RemoveDir h n) e =
    on_held s a h (λ d. table.changes s (entries.removes_dir s.nodes d n)) (λ d. changes_so s (entries.removes_dir s.nodes d n))
outcome_so s a (steps.Rename h n k m mode) e =
    on_held s a h (λ d. on_handle s a k (λ f. table.changes s (entries.renames s.nodes d n f m mode)))
    (λ d. on_held s a k (λ f. table.changes s (entries.renames s.nodes d n f m mode)) (λ f. changes_so s (entries.renames s.nodes d n f m mode)))

pub stepped_so : (luck : Bool) (book : BookedHistory) (a : ℕ) (step : StepWith ℕ) → is_single step ≡ true
    → SaysNone (stepped_by luck book a step).answer
stepped_so luck book a step e = on (luck || is_close step)
  where
    unless : (why : Option Errno) → SaysNone (unless_refused book a step why).answer
    unless (Some error) = tt
    unless None = outcome_so (tree_now book) a step e

    on : (b : Bool) → SaysNone (if b then unless_refused book a step (refusal book a step) else record { answer = Refused NoMemory; book = book }).answer
    on true = unless (refusal book a step)
    on false = tt

-- ---- the parts of a call

said_so : (answer : Answer) → SaysNone answer → TellsNone (reply_to wants.Any answer)
said_so (Opened h x kind) none = none
said_so answer none = tt

replies_so : (wanted : Wanted) (step : StepWith ℕ) (answer : Answer) → IsSafe wanted step → (is_single step ≡ true → SaysNone answer)
    → TellsNone (reply_to wanted answer)
replies_so wants.Done step Done safe none = tt
replies_so wants.Done step answer safe none = tt
replies_so wants.Text step (Text bytes) safe none = tt
replies_so wants.Text step answer safe none = tt
replies_so wants.Any step answer safe none = said_so answer (none safe)

released_so : (answer : Answer) → TellsNone (reply_to wants.Done answer)
released_so Done = tt
released_so answer = tt

closes_to : (hs : List ℕ) (reply : Reply) → TellsNone reply → ComesToNone (call.closes hs (gives reply))
closes_to [] reply none = none
closes_to (h ∷ hs) reply none = none

closing_on : (h : ℕ) (hs : List ℕ) (after : After) → WillTellNone (closing h hs after) → ComesToNone (call.closes hs after)
closing_on h hs (gives reply) none = closes_to hs reply none
closing_on h [] (acts wanted step ks) none = none
closing_on h (k ∷ hs) (acts wanted step ks) none = none

-- a turn beside a call's answers
plain_so : (turn : CallTurn) → IsPlain turn → ComesToNone turn
plain_so (more (acting wants.Any step hs)) plain = plain
plain_so (more (closing h hs (gives (fault error)))) plain = tt
plain_so (more (closing h hs (gives reply))) plain = absurd plain
plain_so (more (closing h hs (acts wants.Any step ks))) plain = absurd plain
plain_so (more doing) plain = tt
plain_so (ends (stepped answer)) plain = absurd plain
plain_so (ends reply) plain = tt

-- ---- any step

pub taken_so : (below : Below) (room : Bool) (doing : Doing) (answer : Answer) → WillTellNone doing → (is_single (due below doing) ≡ true → SaysNone answer)
    → ComesToNone (take below room doing answer)
taken_so below room (walking w aim) answer calm none =
    let turn = walk.take (way_of below aim) room w answer in
    plain_so (call.walked below room aim turn) (walked_plain below room aim turn)
taken_so below room (acting wanted step hs) answer calm none = closes_to hs (reply_to wanted answer) (replies_so wanted step answer calm none)
taken_so below room (checking old new renaming) (Opened h x kind) calm none =
    plain_so (checked old new renaming h (is_dir_kind kind)) (checked_plain old new renaming h (is_dir_kind kind))
taken_so below room (checking old new renaming) answer calm none = tt
taken_so below room (closing h hs after) answer calm none = closing_on h hs after calm
taken_so below room (making m) answer calm none =
    let turn = make.take (make_way below) room m answer in
    plain_so (makes turn) (made_plain turn)
taken_so below room (removing r) answer calm none =
    let turn = remove.take room r answer in
    plain_so (removing_turn turn) (cleared_plain turn)
taken_so below room (releasing h) answer calm none = released_so answer

pub starts_so : (below : Below) (room : Bool) (op : Op) → ComesToNone (starts below room op)
starts_so below room op = plain_so (starts below room op) (starts_plain below room op)
