-- The same of each operation, and so of the lines of a whole call.
use Rattle.std.specs.Prelude.{◌≡◌, ℕ, ◌+◌, List, [], ◌∷◌, ◌++◌, Bool, true, false, if◌then◌else◌, Option, Some, None, Result, Ok, Err, refl}
use Rattle.std.proofs.Common.{ap, subst, arith}
use Rattle.path_text.specs.declared.errno.Errno.{Errno}
use Rattle.path_text.specs.declared.errno.Errno.TheVariants.{NotFound, NotDir, Invalid, NoMemory}
use Rattle.path_text.specs.declared.path.Rule.{Rule}
use Rattle.path_text.specs.declared.path.Rule.TheVariants.{Drop, Refuse}
use Rattle.path_text.specs.declared.path.Split.{Split}
use Rattle.path_text.specs.Reading.{Reading}
use Rattle.path_text.specs.Split.{split_of}
use Rattle.path_text.specs.Text.{text_fault, reading_of}
use Rattle.tree_model.specs.declared.answer.Answer.{Answer}
use Rattle.tree_model.specs.declared.answer.Answer.TheVariants as answers
use Rattle.tree_model.specs.declared.step.Mode.{Mode}
use Rattle.tree_model.specs.StepWith.{StepWith}
use Rattle.tree_model.specs.declared.step.StepOf.TheVariants as steps
use Rattle.walk_plan.specs.declared.goal.Goal.TheVariants.{Follow, NoFollow}
use Rattle.step_resolver.specs.Order.{Handle, Line, answered, no_room, not_made, is_close, is_dir_kind, refusal_of}
use Rattle.step_resolver.specs.Order as walk
use Rattle.step_resolver.specs.View.{way_from}
use Rattle.bulk_ops.specs.MakeAllOrder as make
use Rattle.bulk_ops.specs.RemoveAllOrder as remove
use Rattle.root_ops.specs.declared.aim.Aim.{Aim}
use Rattle.root_ops.specs.declared.aim.Aim.TheVariants.{Opens, Reads, Changes, WalksOn, Renames}
use Rattle.root_ops.specs.declared.aim.Change.{Change}
use Rattle.root_ops.specs.declared.aim.Change.TheVariants as changes
use Rattle.root_ops.specs.declared.aim.Renaming.{Renaming}
use Rattle.root_ops.specs.declared.aim.Wanted.{Wanted}
use Rattle.root_ops.specs.declared.aim.Wanted.TheVariants as wants
use Rattle.root_ops.specs.declared.below.Below.{Below}
use Rattle.root_ops.specs.declared.op.Op.{Op}
use Rattle.root_ops.specs.declared.op.Op.TheVariants.{Resolve, ResolveNoFollow, ReadLink, CreateFile, CreateDir, CreateLink, RemoveFile, RemoveDir, Rename, MkdirAll, RemoveAll, Single, Release}
use Rattle.root_ops.specs.Order.{Reply, fault, After, gives, acts, Doing, walking, acting, checking, closing, making, removing, releasing, CallTurn, more, ends, change_step, rename_step, reply_to, comes, closes, gives_up, way_of, held_by, renames, walked_on, reached, walked, make_way, makes, removing_turn, walks, unless_fault, in_directory, on_entry, make_missing, clear_in, renaming_of, between, from_entry, is_single, single, lacks, starts, checked, take, due, IsUnmade, LeadsTo}
use Rattle.root_ops.specs.OwnHandles.{opens_one, Fits, AllFit, times, opened_by, closed_by, times_opened, times_closed, is_release, left_by, OpenedAreClosed}
use Rattle.root_ops.specs.Renamed.{walking_handles, making_handles}
use Rattle.root_ops.proofs.OwnHandles.OfWalks.{walk_holds, times-append, starts_holds, walk_keeps}
use Rattle.root_ops.proofs.OwnHandles.OfBulk.{make_holds, make_begins_holds, make_keeps, removing_holds, remove_holds, remove_begins_holds, remove_keeps}

-- a step that is no Close closes nothing
pub none_closed : (step : StepWith ℕ) → is_close step ≡ false → closed_by step ≡ []
none_closed (steps.Close h) stays = cc (stays)
none_closed step stays = refl

-- ---- what a call holds

abbrev after_holds : After → List ℕ
after_holds (gives reply) = left_by reply
after_holds (acts wanted step hs) = hs

abbrev doing_holds : Doing → List ℕ
doing_holds (walking w aim) = walking_handles w ++ held_by aim
doing_holds (acting wanted step hs) = hs
doing_holds (checking old new renaming) = new ∷ old ∷ []
doing_holds (closing k hs after) = k ∷ (hs ++ after_holds after)
doing_holds (making call) = making_handles call
doing_holds (removing call) = removing_holds call
doing_holds (releasing k) = k ∷ []

abbrev call_holds : CallTurn → List ℕ
call_holds (more doing) = doing_holds doing
call_holds (ends reply) = left_by reply

-- the call's own step opens and closes nothing
abbrev IsPlain : StepWith ℕ → Type 0
IsPlain step = (opens_one step ≡ false) × (closed_by step ≡ [])

abbrev PlainAfter : After → Type 0
PlainAfter (gives reply) = Unit {0}
PlainAfter (acts wanted step hs) = IsPlain step

abbrev PlainDoing : Doing → Type 0
PlainDoing (acting wanted step hs) = IsPlain step
PlainDoing (closing k hs after) = PlainAfter after
PlainDoing (releasing k) = ⊥
PlainDoing other = Unit {0}

abbrev Plain : CallTurn → Type 0
Plain (more doing) = PlainDoing doing
Plain (ends reply) = Unit {0}

change_plain : (change : Change) (d : ℕ) (n : List ℕ) → IsPlain (change_step change d n)
change_plain changes.MakeFile d n = (refl, refl)
change_plain changes.MakeDir d n = (refl, refl)
change_plain (changes.MakeLink text) d n = (refl, refl)
change_plain changes.RemoveFile d n = (refl, refl)
change_plain changes.RemoveDir d n = (refl, refl)

single_plain : (step : StepWith ℕ) → is_single step ≡ true → IsPlain step
single_plain (steps.Open h n) e = cc (e)
single_plain (steps.Dup h) e = cc (e)
single_plain (steps.Parent h) e = cc (e)
single_plain (steps.Close h) e = cc (e)
single_plain step e = (refl, refl)

-- a reply that isn't Opened leaves nothing open
reply_leaves : (wanted : Wanted) (answer : Answer) → left_by (reply_to wanted answer) ≡ []
reply_leaves wants.Done answers.Done = refl
reply_leaves wants.Done answer = refl
reply_leaves wants.Text (answers.Text bytes) = refl
reply_leaves wants.Text answer = refl
reply_leaves wants.Any (answers.Refused error) = refl
reply_leaves wants.Any answer = refl

module _ (h : ℕ) where
  -- the turn is one of those, and so often is the number among what it holds
  abbrev Fine : CallTurn → ℕ → Type 0
  Fine turn n = Plain turn × (times h (call_holds turn) ≡ n)

  ok_either : (b : Bool) (t u : CallTurn) (n : ℕ) → Fine t n → Fine u n → Fine (if b then t else u) n
  ok_either true t u n p q = p
  ok_either false t u n p q = q

  ok_same : (turn : CallTurn) (m n : ℕ) → Fine turn m → m ≡ n → Fine turn n
  ok_same turn m n ok e = (ok.0, omega (arith, ok.1, e))

  comes_ok : (after : After) → PlainAfter after → Fine (comes after) (times h (after_holds after))
  comes_ok (gives reply) plain = (tt, refl)
  comes_ok (acts wanted step hs) plain = (plain, refl)

  closes_ok : (hs : List ℕ) (after : After) → PlainAfter after → Fine (closes hs after) (times h hs + times h (after_holds after))
  closes_ok [] after plain = ok_same (comes after) _ _ (comes_ok after plain) (omega arith)
  closes_ok (k ∷ hs) after plain = let both = times-append h hs (after_holds after) in (plain, omega (arith, both))

  given_up : (hs : List ℕ) (error : Errno) → Fine (gives_up hs error) (times h hs)
  given_up hs error = ok_same (gives_up hs error) _ _ (closes_ok hs (gives (fault error)) tt) (omega arith)

  renames_ok : (old new : ℕ) (renaming : Renaming) → Fine (renames old new renaming) (times h (new ∷ old ∷ []))
  renames_ok old new renaming = ok_either renaming.slash _ _ _ (tt, refl) ((refl, refl), refl)

  walked_on_ok : (old : ℕ) (renaming : Renaming) (turn : walk.Turn) → Fine (walked_on old renaming turn) (times h (walk_holds turn) + times h (old ∷ []))
  walked_on_ok old renaming (walk.more w) = (tt, times-append h (walking_handles w) (old ∷ []))
  walked_on_ok old renaming (walk.found handle names) = ok_same (renames old handle.number renaming) _ _ (renames_ok old handle.number renaming) (omega arith)
  walked_on_ok old renaming (walk.partial handle names rest) =
      ok_same (gives_up (handle.number ∷ old ∷ []) NotFound) _ _ (given_up (handle.number ∷ old ∷ []) NotFound) (omega arith)
  walked_on_ok old renaming (walk.failed error) = ok_same (gives_up (old ∷ []) error) _ _ (given_up (old ∷ []) error) (omega arith)

  module _ (below : Below) where
    reached_ok : (room : Bool) (handle : Handle) (names : List (List ℕ)) (aim : Aim) → Fine (reached below room handle names aim) (times h (handle.number ∷ held_by aim))
    reached_ok room handle names (Opens goal) = (tt, refl)
    reached_ok room handle names Reads = ((refl, refl), refl)
    reached_ok room handle names (Changes change n) = (change_plain change handle.number n, refl)
    reached_ok room handle names (WalksOn path renaming) =
        let begun = starts_holds h (way_from below.root Follow below.flags) room path in
        ok_same (walked_on handle.number renaming (walk.starts (way_from below.root Follow below.flags) room path)) _ _
        (walked_on_ok handle.number renaming (walk.starts (way_from below.root Follow below.flags) room path)) (omega (arith, begun))
    reached_ok room handle names (Renames old renaming) = renames_ok old handle.number renaming

    walked_ok : (room : Bool) (aim : Aim) (turn : walk.Turn) → Fine (walked below room aim turn) (times h (walk_holds turn) + times h (held_by aim))
    walked_ok room aim (walk.more w) = (tt, times-append h (walking_handles w) (held_by aim))
    walked_ok room aim (walk.found handle names) = ok_same (reached below room handle names aim) _ _ (reached_ok room handle names aim) (omega arith)
    walked_ok room aim (walk.partial handle names rest) =
        ok_same (gives_up (handle.number ∷ held_by aim) NotFound) _ _ (given_up (handle.number ∷ held_by aim) NotFound) (omega arith)
    walked_ok room aim (walk.failed error) = ok_same (gives_up (held_by aim) error) _ _ (given_up (held_by aim) error) (omega arith)

    makes_ok : (turn : make.MakeTurn) → Fine (makes turn) (times h (make_holds turn))
    makes_ok (make.more call) = (tt, refl)
    makes_ok (make.made handle names) = (tt, refl)
    makes_ok (make.failed error) = (tt, refl)

    removes_ok : (turn : remove.Turn) → Fine (removing_turn turn) (times h (remove_holds turn))
    removes_ok (remove.more call) = (tt, refl)
    removes_ok (remove.removed n) = (tt, refl)
    removes_ok (remove.failed error) = (tt, refl)

    -- ---- the first turn

    walks_ok : (aim : Aim) (path : Reading) → held_by aim ≡ [] → Fine (walks below aim path) 0
    walks_ok aim path none =
        let begun = starts_holds h (way_of below aim) true path in
        let held : times h (held_by aim) ≡ 0 = ap (times h) none in
        ok_same (walks below aim path) _ _ (walked_ok true aim (walk.starts (way_of below aim) true path)) (omega (arith, begun, held))

    unless_ok : (why : Option Errno) (turn : CallTurn) → Fine turn 0 → Fine (unless_fault why turn) 0
    unless_ok (Some error) turn ok = (tt, refl)
    unless_ok None turn ok = ok

    in_directory_ok : (change : Change) (split : Result Split Errno) → Fine (in_directory below change split) 0
    in_directory_ok change (Err error) = (tt, refl)
    in_directory_ok change (Ok split) = walks_ok (Changes change split.name) split.dir refl

    on_entry_ok : (rule : Rule) (change : Change) (text : List ℕ) → Fine (on_entry below rule change text) 0
    on_entry_ok rule change text = unless_ok (text_fault text) _ (in_directory_ok change (split_of (reading_of text) rule))

    clear_in_ok : (split : Result Split Errno) → Fine (clear_in below split) 0
    clear_in_ok (Err error) = (tt, refl)
    clear_in_ok (Ok split) =
        let way = way_from below.root Follow below.flags in
        ok_same (removing_turn (remove.begins way split.name split.dir)) _ _ (removes_ok (remove.begins way split.name split.dir)) (remove_begins_holds h way split.name split.dir)

    between_ok : (mode : Mode) (old : Split) (new : Result Split Errno) → Fine (between below mode old new) 0
    between_ok mode old (Err error) = (tt, refl)
    between_ok mode old (Ok new) = walks_ok (WalksOn new.dir (renaming_of old new mode)) old.dir refl

    from_entry_ok : (mode : Mode) (new : List ℕ) (old : Result Split Errno) → Fine (from_entry below mode new old) 0
    from_entry_ok mode new (Err error) = (tt, refl)
    from_entry_ok mode new (Ok old) = unless_ok (text_fault new) _ (between_ok mode old (split_of (reading_of new) Drop))

    lacks_ok : (text : List ℕ) → Fine (lacks text) 0
    lacks_ok text = unless_ok (text_fault text) (ends (fault NoMemory)) (tt, refl)

    single_ok : (step : StepWith ℕ) → Fine (single step) 0
    single_ok step = on (is_single step) refl
      where
        on : (b : Bool) → is_single step ≡ b → Fine (if b then more (acting wants.Any step []) else ends (fault Invalid)) 0
        on true e = (single_plain step e, refl)
        on false e = (tt, refl)

    make_missing_ok : (text : List ℕ) → Fine (make_missing below text) 0
    make_missing_ok text =
        unless_ok (text_fault text) _
        (ok_same (makes (make.begins (make_way below) (reading_of text))) _ _ (makes_ok (make.begins (make_way below) (reading_of text))) (make_begins_holds h (make_way below) (reading_of text)))

    starts_ok : (room : Bool) (op : Op) → is_release op ≡ false → Fine (starts below room op) 0
    starts_ok true (Resolve text) e = unless_ok (text_fault text) _ (walks_ok (Opens Follow) (reading_of text) refl)
    starts_ok true (ResolveNoFollow text) e = unless_ok (text_fault text) _ (walks_ok (Opens NoFollow) (reading_of text) refl)
    starts_ok true (ReadLink text) e = unless_ok (text_fault text) _ (walks_ok Reads (reading_of text) refl)
    starts_ok true (CreateFile text) e = on_entry_ok Refuse changes.MakeFile text
    starts_ok true (CreateDir text) e = on_entry_ok Drop changes.MakeDir text
    starts_ok true (CreateLink text target) e = on_entry_ok Refuse (changes.MakeLink target) text
    starts_ok true (RemoveFile text) e = on_entry_ok Refuse changes.RemoveFile text
    starts_ok true (RemoveDir text) e = on_entry_ok Drop changes.RemoveDir text
    starts_ok true (Rename old new mode) e = unless_ok (text_fault old) _ (from_entry_ok mode new (split_of (reading_of old) Drop))
    starts_ok true (MkdirAll text) e = make_missing_ok text
    starts_ok true (RemoveAll text) e = unless_ok (text_fault text) _ (clear_in_ok (split_of (reading_of text) Drop))
    starts_ok true (Single step) e = single_ok step
    starts_ok true (Release standing) e = cc (e)
    starts_ok false (Resolve text) e = lacks_ok text
    starts_ok false (ResolveNoFollow text) e = lacks_ok text
    starts_ok false (ReadLink text) e = lacks_ok text
    starts_ok false (CreateFile text) e = lacks_ok text
    starts_ok false (CreateDir text) e = lacks_ok text
    starts_ok false (CreateLink text target) e = lacks_ok text
    starts_ok false (RemoveFile text) e = lacks_ok text
    starts_ok false (RemoveDir text) e = lacks_ok text
    starts_ok false (Rename old new mode) e = lacks_ok old
    starts_ok false (MkdirAll text) e = lacks_ok text
    starts_ok false (RemoveAll text) e = lacks_ok text
    starts_ok false (Single step) e = ok_either (is_single step) (ends (fault NoMemory)) (ends (fault Invalid)) 0 (tt, refl) (tt, refl)
    starts_ok false (Release standing) e = cc (e)

    -- ---- each answer

    -- what it holds then and what the step closed is what it held and what the answer opened
    record Kept (doing : Doing) (turn : CallTurn) (answer : Answer) : Type 0 where
      pub plain : Plain turn
      pub same : times h (call_holds turn) + times h (closed_by (due below doing)) ≡ times h (doing_holds doing) + times h (opened_by answer)

    kept_by : (doing : Doing) (turn : CallTurn) (answer : Answer) (n : ℕ) → Fine turn n
        → n + times h (closed_by (due below doing)) ≡ times h (doing_holds doing) + times h (opened_by answer) → Kept doing turn answer
    kept_by doing turn answer n ok e = let held = ok.1 in record { plain = ok.0; same = omega (arith, held, e) }

    -- an answer to a plain step opens nothing
    opens_none : (step : StepWith ℕ) → opens_one step ≡ false → (answer : Answer) → Fits step answer → opened_by answer ≡ []
    opens_none step plain (answers.Opened k x kind) fits = cc (plain, fits)
    opens_none step plain answer fits = refl

    checked_ok : (old new : ℕ) (renaming : Renaming) (child : ℕ) (dir : Bool) → Fine (checked old new renaming child dir) (times h (child ∷ new ∷ old ∷ []))
    checked_ok old new renaming child true =
        ok_same (checked old new renaming child true) _ _ (closes_ok (child ∷ []) (acts wants.Done (rename_step renaming old new) (new ∷ old ∷ [])) (refl, refl)) (omega arith)
    checked_ok old new renaming child false = given_up (child ∷ new ∷ old ∷ []) NotDir

    keeps : (room : Bool) (doing : Doing) (answer : Answer) → PlainDoing doing → Fits (due below doing) answer → Kept doing (take below room doing answer) answer
    keeps room (walking w aim) answer plain fits =
        let way = way_of below aim in
        let kept = walk_keeps h way room w answer fits in
        let both = times-append h (walking_handles w) (held_by aim) in
        kept_by (walking w aim) _ answer _ (walked_ok room aim (walk.take way room w answer)) (omega (arith, kept, both))
    keeps room (acting wanted step hs) answer plain fits =
        let none : times h (opened_by answer) ≡ 0 = ap (times h) (opens_none step plain.0 answer fits) in
        let shut : times h (closed_by step) ≡ 0 = ap (times h) plain.1 in
        let left : times h (left_by (reply_to wanted answer)) ≡ 0 = ap (times h) (reply_leaves wanted answer) in
        kept_by (acting wanted step hs) _ answer _ (closes_ok hs (gives (reply_to wanted answer)) tt) (omega (arith, none, shut, left))
    keeps room (checking old new renaming) (answers.Opened k x kind) plain fits =
        kept_by (checking old new renaming) _ _ _ (checked_ok old new renaming k (is_dir_kind kind)) (omega arith)
    keeps room (checking old new renaming) answer plain fits =
        kept_by (checking old new renaming) _ answer _ (given_up (new ∷ old ∷ []) (refusal_of answer)) (omega arith)
    keeps room (closing k hs after) (answers.Opened j x kind) plain fits = cc (fits)
    keeps room (closing k hs after) answer plain fits =
        let both = times-append h hs (after_holds after) in
        kept_by (closing k hs after) _ answer _ (closes_ok hs after plain) (omega (arith, both))
    keeps room (making call) answer plain fits =
        let kept = make_keeps h (make_way below) room call answer fits in
        kept_by (making call) _ answer _ (makes_ok (make.take (make_way below) room call answer)) kept
    keeps room (removing call) answer plain fits =
        let kept = remove_keeps h room call answer fits in
        kept_by (removing call) _ answer _ (removes_ok (remove.take room call answer)) kept
    keeps room (releasing k) answer plain fits = absurd plain

    -- a step that wasn't made closes nothing
    unmade : (doing : Doing) (error : Errno) → PlainDoing doing → IsUnmade below doing error → times h (closed_by (due below doing)) ≡ 0
    unmade (releasing k) error plain is = absurd plain
    unmade doing error plain is = ap (times h) (none_closed (due below doing) is.1)

    -- ---- line by line

    lines_keep : (lines : List Line) (turn : CallTurn) (reply : Reply) → Plain turn → AllFit lines → LeadsTo below turn lines (ends reply)
        → times h (call_holds turn) + times_opened h lines ≡ times_closed h lines + times h (left_by reply)
    lines_keep [] turn reply plain fit leads = let same : times h (call_holds turn) ≡ times h (left_by reply) = ap (λ (t : CallTurn). times h (call_holds t)) leads in omega (arith, same)
    lines_keep (answered step answer ∷ lines) (more doing) reply plain fit leads =
        let kept = keeps true doing answer plain (subst (λ (s : StepWith ℕ). Fits s answer) leads.0 fit.0) in
        let shut : times h (closed_by step) ≡ times h (closed_by (due below doing)) = ap (λ (s : StepWith ℕ). times h (closed_by s)) leads.0 in
        let later = lines_keep lines (take below true doing answer) reply kept.plain fit.1 leads.1 in
        omega (arith, kept.same, shut, later)
    lines_keep (no_room step answer ∷ lines) (more doing) reply plain fit leads =
        let kept = keeps false doing answer plain (subst (λ (s : StepWith ℕ). Fits s answer) leads.0 fit.0) in
        let shut : times h (closed_by step) ≡ times h (closed_by (due below doing)) = ap (λ (s : StepWith ℕ). times h (closed_by s)) leads.0 in
        let later = lines_keep lines (take below false doing answer) reply kept.plain fit.1 leads.1 in
        omega (arith, kept.same, shut, later)
    lines_keep (not_made error ∷ lines) (more doing) reply plain fit leads =
        let kept = keeps true doing (answers.Refused error) plain tt in
        let shut = unmade doing error plain leads.0 in
        let later = lines_keep lines (take below true doing (answers.Refused error)) reply kept.plain fit leads.1 in
        omega (arith, kept.same, shut, later)
    lines_keep (line ∷ lines) (ends other) reply plain fit leads = absurd leads

pub opened_are_closed : OpenedAreClosed
opened_are_closed below room op lines reply other fit leads h =
    let begun = starts_ok h below room op other in
    let all = lines_keep h below lines (starts below room op) reply begun.0 fit leads in
    omega (arith, begun.1, all)
