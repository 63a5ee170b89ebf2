-- A call begins with few steps to come; and once its walks are over it makes at most five.
use Rattle.std.specs.Prelude.{◌≡◌, ℕ, zero, suc, ◌+◌, ◌*◌, ◌-◌, ◌<◌, ◌≤◌, ◌&&◌, List, [], ◌∷◌, Bool, true, false, length, take, nat_lt, Option, Some, None, Result, Ok, Err, if◌then◌else◌, refl}
use Rattle.std.proofs.Common.{sym, subst, arith}
use Rattle.path_text.specs.declared.errno.Errno.{Errno}
use Rattle.path_text.specs.declared.name.TheConstants.{NAME_MAX}
use Rattle.path_text.specs.declared.part.Part.{Part}
use Rattle.path_text.specs.declared.part.Part.TheVariants.{Cur, Up, Named}
use Rattle.path_text.specs.declared.path.Rule.{Rule}
use Rattle.path_text.specs.declared.path.Rule.TheVariants.{Drop, Refuse}
use Rattle.path_text.specs.declared.path.Split.{Split}
use Rattle.path_text.specs.declared.path.TheConstants.{PARTS_MAX}
use Rattle.path_text.specs.Reading.{Reading}
use Rattle.path_text.specs.Split.{split_of, split_at, before_last, last_part, parts_without_slash, refuses_slash}
use Rattle.path_text.specs.Text.{text_fault, reading_of}
use Rattle.path_text.proofs.TextLemmas.{reading_few}
use Rattle.tree_model.specs.declared.answer.Answer.{Answer}
use Rattle.tree_model.specs.declared.step.Mode.{Mode}
use Rattle.handles.specs.declared.owner.Owner.{Owner}
use Rattle.handles.specs.Objects.{StandingObject}
use Rattle.walk_plan.specs.declared.goal.Goal.TheVariants.{Follow, NoFollow}
use Rattle.step_machine.specs.Machine.{taken}
use Rattle.step_resolver.specs.Asked.{AskedPart}
use Rattle.step_resolver.specs.Order.{Way, Handle, Line, Turn, found, partial, failed, has_room, answer_of}
use Rattle.step_resolver.specs.Order as walk
use Rattle.step_resolver.specs.TurnView as walk_view
use Rattle.step_resolver.specs.View.{way_from}
use Rattle.step_resolver.proofs.WalkSteps as walk_steps
use Rattle.bulk_ops.specs.MakeAllOrder as make
use Rattle.bulk_ops.specs.MakeAllView.{MAKE_STEPS_MAX}
use Rattle.bulk_ops.specs.RemoveAllOrder as remove
use Rattle.bulk_ops.specs.declared.remove_all.clearing.TheConstants.{CLEARING_STEPS_MAX}
use Rattle.bulk_ops.proofs.MakeAllSteps.{starts_few, steps_after_the_walk}
use Rattle.bulk_ops.specs.RemoveAllTells.{IsBounded}
use Rattle.bulk_ops.proofs.RemovingAll.Bounded.{lines_bounded, clearing_begins}
use Rattle.bulk_ops.proofs.RemovingAll.StepCount as remove_steps
use Rattle.root_ops.specs.declared.aim.Aim.{Aim}
use Rattle.root_ops.specs.declared.aim.Aim.TheVariants.{Opens, Reads, Changes, WalksOn}
use Rattle.root_ops.specs.declared.aim.Change.{Change}
use Rattle.root_ops.specs.declared.below.Below.{Below}
use Rattle.root_ops.specs.declared.op.Op.{Op}
use Rattle.root_ops.specs.declared.op.Op.TheVariants.{Resolve, ResolveNoFollow, ReadLink, CreateFile, CreateDir, CreateLink, RemoveFile, RemoveDir, Rename, MkdirAll, RemoveAll, Single, Release}
use Rattle.root_ops.specs.Order as call
use Rattle.root_ops.specs.Order.{Doing, walking, acting, checking, closing, making, removing, releasing, CallTurn, more, ends, make_way, makes, removing_turn, clear_in, walks, unless_fault, in_directory, between, from_entry, is_single, single, same_owner, releases, lacks, starts, begins, way_of, renaming_of, steps_then, steps_left, Reply, LeadsTo, calls}
use Rattle.root_ops.specs.declared.call.CallTurn.{CallTurn as Outcome}
use Rattle.root_ops.specs.TurnView.{turn_view, Keeps, StartsTo, steps_to_come, STEPS_MAX}
use Rattle.root_ops.specs.StepCount.{is_walking, is_bulk, WalksOrFew, FiveAfterWalks, BulkAfterWalks}
use Rattle.root_ops.proofs.Bulk.{makes_led, clears_led}
use Rattle.root_ops.proofs.Steps.{IsLower, IsFewer, either_lower, walked_lower, walking_lower, fewer_after, lower_fewer, makes_fewer, clears_fewer, fewer_to_come, take_fewer, a_step_left}

-- ---- the parts of a directory's path are few

shorter : (n : ℕ) (ps : List Part) → length (take n ps) ≤ length ps
shorter zero ps = omega arith
shorter (suc n) [] = omega arith
shorter (suc n) (p ∷ ps) = omega (arith, shorter n ps)

fewer_parts : (path : Reading) (slash : Bool) → length (before_last (if slash then before_last path.parts else path.parts)) ≤ length path.parts
fewer_parts path true = omega (arith, shorter (length (before_last path.parts) - 1) (before_last path.parts), shorter (length path.parts - 1) path.parts)
fewer_parts path false = shorter (length path.parts - 1) path.parts

abbrev IsShort : Reading → Result Split Errno → Type 0
IsShort path (Err error) = Unit {0}
IsShort path (Ok split) = length split.dir.parts ≤ length path.parts

short_if : (path : Reading) (b : Bool) (s t : Result Split Errno) → IsShort path s → IsShort path t → IsShort path (if b then s else t)
short_if path true s t short other = short
short_if path false s t short other = other

short_at : (path : Reading) (rule : Rule) (last : Option Part) → IsShort path (split_at path rule last)
short_at path rule (Some (Named bytes)) =
    short_if path (path.slash && refuses_slash rule) _ _ tt (short_if path (nat_lt NAME_MAX (length bytes)) _ _ tt (fewer_parts path path.slash))
short_at path rule None = tt
short_at path rule (Some Cur) = tt
short_at path rule (Some Up) = tt

short_split : (path : Reading) (rule : Rule) → IsShort path (split_of path rule)
short_split path rule = short_at path rule (last_part (parts_without_slash path))

-- ---- the first turn

walk_few : (turn : Turn) → walk_steps.FewerThan (suc (walk.steps_left_at turn)) turn
walk_few (walk.more w) = omega arith
walk_few (found handle names) = tt
walk_few (partial handle names rest) = tt
walk_few (failed error) = tt

steps_few : (k : ℕ) (turn : Turn) → 0 < k → walk_steps.FewerThan k turn → walk.steps_left_at turn < k
steps_few k (walk.more w) some few = few
steps_few k (found handle names) some few = some
steps_few k (partial handle names rest) some few = some
steps_few k (failed error) some few = some

lower_still : (below : Below) (j k : ℕ) (turn : CallTurn) → j ≤ k → IsLower below j turn → IsLower below k turn
lower_still below j k (more doing) le lower = (omega (arith, lower.0), lower.1)
lower_still below j k (ends reply) le lower = tt

module _ (below : Below) where
  begun_few : (aim : Aim) (path : Reading) → length path.parts ≤ PARTS_MAX → walk.steps_left_at (walk.begins (way_of below aim) path) ≤ walk_view.STEPS_MAX
  begun_few aim path few =
      let fewer = steps_few (suc walk_view.STEPS_MAX) (walk.begins (way_of below aim) path) (omega arith) (walk_steps.begins_few (way_of below aim) path few) in
      omega (arith, fewer)

  walks_lower : (aim : Aim) (path : Reading) → length path.parts ≤ PARTS_MAX → steps_then below aim ≤ walk_view.STEPS_MAX + 6 → IsLower below (suc STEPS_MAX) (walks below aim path)
  walks_lower aim path few most =
      let turn = walk.begins (way_of below aim) path in
      lower_still below (suc (walk.steps_left_at turn) + steps_then below aim) (suc STEPS_MAX) (walks below aim path) (omega (arith, begun_few aim path few, most))
      (walked_lower below (suc (walk.steps_left_at turn)) true aim turn (omega arith) (walk_few turn))

  past_fault : (k : ℕ) (why : Option Errno) (turn : CallTurn) → (why ≡ None → IsLower below k turn) → IsLower below k (unless_fault why turn)
  past_fault k (Some error) turn lower = tt
  past_fault k None turn lower = lower refl

  in_directory_lower : (change : Change) (path : Reading) (split : Result Split Errno) → length path.parts ≤ PARTS_MAX → IsShort path split → IsLower below (suc STEPS_MAX) (in_directory below change split)
  in_directory_lower change path (Err error) few short = tt
  in_directory_lower change path (Ok split) few short = walks_lower (Changes change split.name) split.dir (omega (arith, few, short)) (omega arith)

  between_lower : (mode : Mode) (old : Split) (path : Reading) (split : Result Split Errno) → length old.dir.parts ≤ PARTS_MAX → length path.parts ≤ PARTS_MAX → IsShort path split
      → IsLower below (suc STEPS_MAX) (between below mode old split)
  between_lower mode old path (Err error) few fewer short = tt
  between_lower mode old path (Ok new) few fewer short =
      walks_lower (WalksOn new.dir (renaming_of old new mode)) old.dir few
      (omega (arith, begun_few (WalksOn new.dir (renaming_of old new mode)) new.dir (omega (arith, fewer, short))))

  from_entry_lower : (mode : Mode) (text : List ℕ) (path : Reading) (split : Result Split Errno) → length path.parts ≤ PARTS_MAX → IsShort path split
      → IsLower below (suc STEPS_MAX) (from_entry below mode text split)
  from_entry_lower mode text path (Err error) few short = tt
  from_entry_lower mode text path (Ok old) few short =
      past_fault (suc STEPS_MAX) (text_fault text) _ (λ fine.
      between_lower mode old (reading_of text) (split_of (reading_of text) Drop) (omega (arith, few, short)) (reading_few text fine) (short_split (reading_of text) Drop))

  on_path_lower : (aim : Aim) (text : List ℕ) → steps_then below aim ≤ walk_view.STEPS_MAX + 6 → IsLower below (suc STEPS_MAX) (unless_fault (text_fault text) (walks below aim (reading_of text)))
  on_path_lower aim text most = past_fault (suc STEPS_MAX) (text_fault text) _ (λ fine. walks_lower aim (reading_of text) (reading_few text fine) most)

  on_entry_lower : (rule : Rule) (change : Change) (text : List ℕ) → IsLower below (suc STEPS_MAX) (unless_fault (text_fault text) (in_directory below change (split_of (reading_of text) rule)))
  on_entry_lower rule change text =
      past_fault (suc STEPS_MAX) (text_fault text) _ (λ fine. in_directory_lower change (reading_of text) (split_of (reading_of text) rule) (reading_few text fine) (short_split (reading_of text) rule))

  lacks_lower : (text : List ℕ) → IsLower below (suc STEPS_MAX) (lacks text)
  lacks_lower text = past_fault (suc STEPS_MAX) (text_fault text) _ (λ fine. tt)

  releases_lower : (owner : Owner) (standing : StandingObject) → IsLower below (suc STEPS_MAX) (releases owner standing)
  releases_lower owner standing = either_lower below (suc STEPS_MAX) (same_owner standing.owner owner) _ _ (omega arith, (refl, λ e. omega arith)) tt

  begins_lower : (op : Op) → is_bulk op ≡ false → IsLower below (suc STEPS_MAX) (begins below op)
  begins_lower (Resolve path) single = on_path_lower (Opens Follow) path (omega arith)
  begins_lower (ResolveNoFollow path) single = on_path_lower (Opens NoFollow) path (omega arith)
  begins_lower (ReadLink path) single = on_path_lower Reads path (omega arith)
  begins_lower (CreateFile path) single = on_entry_lower Refuse _ path
  begins_lower (CreateDir path) single = on_entry_lower Drop _ path
  begins_lower (CreateLink path text) single = on_entry_lower Refuse _ path
  begins_lower (RemoveFile path) single = on_entry_lower Refuse _ path
  begins_lower (RemoveDir path) single = on_entry_lower Drop _ path
  begins_lower (Rename old new mode) single =
      past_fault (suc STEPS_MAX) (text_fault old) _ (λ fine.
      from_entry_lower mode new (reading_of old) (split_of (reading_of old) Drop) (reading_few old fine) (short_split (reading_of old) Drop))
  begins_lower (MkdirAll path) single = cc (single)
  begins_lower (RemoveAll path) single = cc (single)
  begins_lower (Single step) single = either_lower below (suc STEPS_MAX) (is_single step) _ _ (omega arith, (refl, λ e. omega arith)) tt
  begins_lower (Release standing) single = releases_lower below.root.owner standing

  starts_lower : (room : Bool) (op : Op) → is_bulk op ≡ false → IsLower below (suc STEPS_MAX) (starts below room op)
  starts_lower true op single = begins_lower op single
  starts_lower false (Resolve path) single = lacks_lower path
  starts_lower false (ResolveNoFollow path) single = lacks_lower path
  starts_lower false (ReadLink path) single = lacks_lower path
  starts_lower false (CreateFile path) single = lacks_lower path
  starts_lower false (CreateDir path) single = lacks_lower path
  starts_lower false (CreateLink path text) single = lacks_lower path
  starts_lower false (RemoveFile path) single = lacks_lower path
  starts_lower false (RemoveDir path) single = lacks_lower path
  starts_lower false (Rename old new mode) single = lacks_lower old
  starts_lower false (MkdirAll path) single = cc (single)
  starts_lower false (RemoveAll path) single = cc (single)
  starts_lower false (Single step) single = either_lower below (suc STEPS_MAX) (is_single step) _ _ tt tt
  starts_lower false (Release standing) single = releases_lower below.root.owner standing

  -- ---- bulk calls

  fewer_past_fault : (k : ℕ) (why : Option Errno) (turn : CallTurn) → (why ≡ None → IsFewer below k turn) → IsFewer below k (unless_fault why turn)
  fewer_past_fault k (Some error) turn fewer = tt
  fewer_past_fault k None turn fewer = fewer refl

  pub fewer_still : (j k : ℕ) (turn : CallTurn) → j ≤ k → IsFewer below j turn → IsFewer below k turn
  fewer_still j k (more doing) le fewer = omega (arith, fewer, le)
  fewer_still j k (ends reply) le fewer = tt

  makes_few : (path : Reading) → length path.parts ≤ PARTS_MAX → IsFewer below (suc STEPS_MAX) (makes (make.begins (make_way below) path))
  makes_few path few =
      fewer_still (suc MAKE_STEPS_MAX) (suc STEPS_MAX) _ (omega arith) (makes_fewer below (suc MAKE_STEPS_MAX) _ (starts_few (make_way below) true path few))

  clears_few : (path : Reading) (split : Result Split Errno) → length path.parts ≤ PARTS_MAX → IsShort path split → IsFewer below (suc STEPS_MAX) (clear_in below split)
  clears_few path (Err error) few short = tt
  clears_few path (Ok split) few short =
      let way = way_from below.root Follow below.flags in
      clears_fewer below (suc STEPS_MAX) (remove.begins way split.name split.dir)
      (remove_steps.walked_few way split.name (suc walk_view.STEPS_MAX) (walk.begins way split.dir) (omega arith)
      (walk_steps.begins_few way split.dir (omega (arith, few, short))))

  bulk_few : (room : Bool) (op : Op) → is_bulk op ≡ true → IsFewer below (suc STEPS_MAX) (starts below room op)
  bulk_few true (MkdirAll path) bulk = fewer_past_fault (suc STEPS_MAX) (text_fault path) _ (λ fine. makes_few (reading_of path) (reading_few path fine))
  bulk_few false (MkdirAll path) bulk = fewer_past_fault (suc STEPS_MAX) (text_fault path) _ (λ fine. tt)
  bulk_few true (RemoveAll path) bulk =
      fewer_past_fault (suc STEPS_MAX) (text_fault path) _ (λ fine.
      clears_few (reading_of path) (split_of (reading_of path) Drop) (reading_few path fine) (short_split (reading_of path) Drop))
  bulk_few false (RemoveAll path) bulk = fewer_past_fault (suc STEPS_MAX) (text_fault path) _ (λ fine. tt)
  bulk_few room op bulk = cc (bulk)

  starts_fewer : (room : Bool) (op : Op) → IsFewer below (suc STEPS_MAX) (starts below room op)
  starts_fewer room op = on (is_bulk op) refl
    where
      on : (b : Bool) → is_bulk op ≡ b → IsFewer below (suc STEPS_MAX) (starts below room op)
      on true bulk = bulk_few room op bulk
      on false single = lower_fewer below (suc STEPS_MAX) (starts below room op) (starts_lower room op single)

pub started_few : (below : Below) (op : Op) (outcome : Outcome) → StartsTo below op (turn_view outcome) → Keeps below outcome → steps_to_come outcome ≤ STEPS_MAX
started_few below op outcome started kept =
    let fewer = fewer_to_come (suc STEPS_MAX) below outcome (omega arith) (subst (IsFewer below (suc STEPS_MAX)) (sym started.1) (starts_fewer below started.0 op)) kept in
    omega (arith, fewer)

-- ---- after the walks

or_few : (k : ℕ) (below : Below) (turn : CallTurn) → IsLower below k turn → WalksOrFew 5 below turn
or_few k below (more doing) lower = lower.1
or_few k below (ends reply) lower = tt

walked_few : (below : Below) (room : Bool) (doing : Doing) (answer : Answer) → is_walking doing ≡ true → WalksOrFew 5 below (call.take below room doing answer)
walked_few below room (walking w aim) answer e = or_few _ below _ (walking_lower below room w aim answer)
walked_few below room (acting wanted step hs) answer e = cc (e)
walked_few below room (checking old new renaming) answer e = cc (e)
walked_few below room (closing h hs after) answer e = cc (e)
walked_few below room (making call) answer e = cc (e)
walked_few below room (removing call) answer e = cc (e)
walked_few below room (releasing h) answer e = cc (e)

pub five_after_walks : FiveAfterWalks
five_after_walks = record {
  begun = λ below room op single. or_few (suc STEPS_MAX) below (starts below room op) (starts_lower below room op single);
  walked = walked_few;
  after = fewer_after;
}

-- ---- after the walk of a bulk call

call_fewer : (below : Below) (room : Bool) (doing : Doing) (answer : Answer) (k : ℕ) → steps_left below doing < suc (suc k) → IsFewer below (suc k) (call.take below room doing answer)
call_fewer below room doing answer k few = fewer_still below (steps_left below doing) (suc k) (call.take below room doing answer) (omega (arith, few)) (take_fewer below room doing answer)

pub lines_few : (below : Below) (k : ℕ) (lines : List Line) (turn end : CallTurn) → IsFewer below (suc k) turn → LeadsTo below turn lines end → length lines ≤ k
lines_few below k [] turn end few leads = omega arith
lines_few below zero (line ∷ lines) (more doing) end few leads = absurd (omega (arith, few, a_step_left below doing))
lines_few below (suc k) (line ∷ lines) (more doing) end few leads =
    omega (arith, lines_few below k lines (taken (calls below) doing line) end (call_fewer below (has_room line) doing (answer_of line) k few) leads.1)
lines_few below k (line ∷ lines) (ends reply) end few leads = absurd leads

removing_few : (below : Below) (way : Way) (target : List ℕ) (handle : Handle) (names : List (List ℕ)) (lines : List Line) (reply : Reply)
    → LeadsTo below (removing_turn (remove.walked way target (found handle names))) lines (ends reply) → (length lines ≤ 2 * CLEARING_STEPS_MAX + 1) × IsBounded lines
removing_few below way target handle names lines reply leads =
    let by = clears_led below (remove.walked way target (found handle names)) lines reply leads in (
      lines_few below (2 * CLEARING_STEPS_MAX + 1) lines _ (ends reply)
          (clears_fewer below (suc (2 * CLEARING_STEPS_MAX + 1)) (remove.walked way target (found handle names)) (remove_steps.walked_few way target 1 (found handle names) (omega arith) tt)) leads,
      lines_bounded CLEARING_STEPS_MAX lines (remove.walked way target (found handle names)) by.end (clearing_begins way target handle names) by.led,
    )

making_few : (below : Below) (room : Bool) (handle : Handle) (names : List (List ℕ)) (lines : List Line) (reply : Reply)
    → (LeadsTo below (makes (make.after_walk room (found handle names))) lines (ends reply) → length lines ≤ 1)
    × ((rest : List AskedPart) → LeadsTo below (makes (make.after_walk room (partial handle names rest))) lines (ends reply) → length lines ≤ 3 * length rest + 2)
making_few below room handle names lines reply = (
  λ leads. let by = makes_led below (make.after_walk room (found handle names)) lines reply leads in
      (steps_after_the_walk (make_way below) room handle names lines by.end).0 by.led,
  λ rest leads. let by = makes_led below (make.after_walk room (partial handle names rest)) lines reply leads in
      (steps_after_the_walk (make_way below) room handle names lines by.end).1 rest by.led,
)

pub bulk_after_walks : BulkAfterWalks
bulk_after_walks = record { making = making_few; removing = removing_few }
