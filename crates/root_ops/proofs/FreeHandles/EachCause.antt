-- What EMFILE tells of each operation, where four handles are free.
use Rattle.std.specs.Prelude.{◌≡◌, ◌⊎◌, ℕ, suc, ◌+◌, ◌≤◌, List, ◌++◌, Bool, true, false, not, length, Option, Some, None, Err, refl}
use Rattle.std.proofs.Common.{sym, ap, subst, ◌∙◌, inl, inr, ⊎_elim, le_trans, arith}
use Rattle.std.proofs.lemmas.Bool.{leb-true, or_cases}
use Rattle.path_text.specs.declared.errno.Errno.{Errno}
use Rattle.path_text.specs.declared.errno.Errno.TheVariants.{NotFound, NoMemory, NotDir, TooMany}
use Rattle.path_text.specs.declared.path.Rule.{Rule}
use Rattle.path_text.specs.declared.path.Rule.TheVariants.{Drop, Refuse}
use Rattle.path_text.specs.declared.path.Split.{Split}
use Rattle.path_text.specs.Reading.{Reading}
use Rattle.path_text.specs.Text.{text_fault, reading_of}
use Rattle.tree_model.specs.declared.answer.Event.{Event}
use Rattle.tree_model.specs.declared.step.Mode.{Mode}
use Rattle.tree_model.specs.declared.tree.TheConstants.{HANDLES_MAX, NUMBERS_MAX}
use Rattle.tree_model.specs.declared.inode.Object.{Object}
use Rattle.tree_model.specs.declared.inode.Object.TheVariants as object
use Rattle.tree_model.specs.State.{State, object_at, child, is_dir}
use Rattle.tree_model.specs.Entries.{refuse_if, with_some}
use Rattle.tree_model.specs.Steps.{held_count, is_full}
use Rattle.tree_model.specs.History.{after_events}
use Rattle.tree_model.proofs.HistoryLaws.{after_events-append}
use Rattle.walk_plan.specs.declared.goal.Goal.{Goal}
use Rattle.walk_plan.specs.declared.goal.Goal.TheVariants.{Follow, NoFollow}
use Rattle.step_resolver.specs.Failures.{TellsError, TellsTooMany}
use Rattle.step_resolver.specs.Order.{IsWant, found, failed}
use Rattle.step_resolver.specs.Order as walk
use Rattle.step_resolver.specs.View.{way_from}
use Rattle.step_resolver.specs.WalkHistory.{WalkInHistory, begin_of, end_of, state_at}
use Rattle.bulk_ops.specs.MakeAllTells.{DeepestAt, Reach, not_begun, begun, UnbegunCause, of_walk, no_directory, of_rest, MakingCause, for_want, full as at_limit, gone, missing, not_directory as no_directory_there, astray, Cause, IsAtLimit}
use Rattle.bulk_ops.specs.RemoveAllTells.{walk_part}
use Rattle.root_ops.specs.declared.aim.Change.{Change}
use Rattle.root_ops.specs.declared.aim.Change.TheVariants as changes
use Rattle.root_ops.specs.declared.aim.Renaming.{Renaming}
use Rattle.root_ops.specs.declared.op.Op.{Op}
use Rattle.root_ops.specs.declared.op.Op.TheVariants.{Resolve, ResolveNoFollow, ReadLink, CreateFile, CreateDir, CreateLink, RemoveFile, RemoveDir, Rename, MkdirAll, RemoveAll, Single, Release}
use Rattle.root_ops.specs.declared.reply.Reply.{Reply as Told}
use Rattle.root_ops.specs.declared.reply.Reply.TheVariants.{Fault}
use Rattle.root_ops.specs.Acts.{WalkedTo, after_walk, along, on_path, EntryFault, at_once, nameless, walk_fails, change_refused, in_want, ReadFault, read_at_once, read_walk_fails, read_refused, read_in_want, FindsBoth, after_both, RenameRefused, rename_refused, not_directory, full, rename_in_want, RenameFault, rename_at_once, old_nameless, new_text, new_nameless, of_first, of_second, no_second, of_rename, ActTells}
use Rattle.root_ops.specs.BulkTells.{bulk_of}
use Rattle.root_ops.specs.CallHistory.{CallInHistory, actor_of, EndsAtOnce}
use Rattle.root_ops.specs.CallHistory as calls
use Rattle.root_ops.specs.EachCall.{WalksTo, WalkIsReply, ResolveTells, MakeAllTells, BulkTells, EachCallTells}
use Rattle.root_ops.specs.FreeHandles.{holds_few, FourAreFree, FourAreEnough}
use Rattle.root_ops.specs.Meaning.{text_of}
use Rattle.root_ops.specs.Order.{fault, make_way, renaming_of}
use Rattle.root_ops.specs.View.{reply_view}
use Rattle.root_ops.proofs.FreeHandles.NoNumbers.{text_is_other, split_is_other, rest_is_other, change_numbers, rename_is_other, grows}

-- ---- a full moment of a walk

abbrev UsedUp : State → Type 0
UsedUp s = (NUMBERS_MAX ≤ length s.handles) ⊎ (NUMBERS_MAX ≤ length s.nodes)

-- not for the handles that are open
full_numbers : (s : State) (a : ℕ) → is_full s a ≡ true → suc (held_count s a) ≤ HANDLES_MAX → NUMBERS_MAX ≤ length s.handles
full_numbers s a full' few =
    ⊎_elim
    (λ q. let over = leb-true HANDLES_MAX (held_count s a) q in omega (arith, over, few))
    (λ q. leb-true NUMBERS_MAX (length s.handles) q)
    (or_cases _ _ full')

-- what is used up at a moment is at the end
from_then : (w : WalkInHistory) (t : ℕ) → UsedUp (state_at w t) → UsedUp (end_of w)
from_then w t (inl handles) = inl (le_trans handles (grows (begin_of w) w.window t).1)
from_then w t (inr nodes) = inr (le_trans nodes (grows (begin_of w) w.window t).0)

walk_numbers : (w : WalkInHistory) → TellsTooMany w → held_count (begin_of w) w.actor + 2 ≤ HANDLES_MAX → UsedUp (end_of w)
walk_numbers w tells free =
    let few = tells.few in
    from_then w tells.when (inl (full_numbers (state_at w tells.when) w.actor tells.full (omega (arith, few, free))))

-- from the end of a part to that of the whole
grown : (s : State) (events : List Event) → UsedUp s → UsedUp (after_events s events)
grown s events (inl handles) = inl (le_trans handles (grows s events 0).1)
grown s events (inr nodes) = inr (le_trans nodes (grows s events 0).0)

to_end : (w : WalkInHistory) (first later : List Event) → w.window ≡ first ++ later → UsedUp (after_events (begin_of w) first) → UsedUp (end_of w)
to_end w first later whole used =
    subst UsedUp (sym (ap (after_events (begin_of w)) whole ∙ after_events-append (begin_of w) first later)) (grown (after_events (begin_of w) first) later used)

-- the part after a walk ends as the whole does
ends_there : (w : WalkInHistory) (end : walk.Turn) (walked : WalkedTo w end) → end_of (after_walk walked) ≡ end_of w
ends_there w end walked =
    ap (λ (s : State). after_events s walked.later) (after_events-append w.opening w.before walked.window)
    ∙ sym (after_events-append (begin_of w) walked.window walked.later) ∙ ap (after_events (begin_of w)) (sym walked.windows)

-- a walk that failed so
walk_failed : (w : WalkInHistory) (walked : WalkedTo w (failed TooMany)) → held_count (begin_of w) w.actor + 2 ≤ HANDLES_MAX → UsedUp (end_of w)
walk_failed w walked free =
    to_end w walked.window walked.later walked.windows (walk_numbers (walk_part w walked.window walked.lines) walked.headline.tells.true_once free)

-- no memory or no room is another fault
other_want : IsWant TooMany → ⊥
other_want (inl e) = cc (e)
other_want (inr e) = cc (e)

-- ---- each operation

module _ (c : CallInHistory) (free : FourAreFree c) where
  abbrev Used : Type 0
  Used = UsedUp (calls.end_of c)

  at_its_first_turn : (text : List ℕ) → EndsAtOnce c text TooMany → Used
  at_its_first_turn text over = on over.why
    where
      on : (text_fault text ≡ Some TooMany) ⊎ ((c.room ≡ false) × (TooMany ≡ NoMemory)) → Used
      on (inl e) = absurd (text_is_other text e)
      on (inr e) = cc (e.1)

  two_free : held_count (calls.begin_of c) (actor_of c) + 2 ≤ HANDLES_MAX
  two_free = omega (arith, free)

  -- in the part after a walk
  in_part : (w : WalkInHistory) (end : walk.Turn) (walked : WalkedTo w end) → end_of w ≡ calls.end_of c → (t : ℕ) → UsedUp (state_at (after_walk walked) t) → Used
  in_part w end walked same t used = subst UsedUp (ends_there w end walked ∙ same) (from_then (after_walk walked) t used)

  -- ---- a change of an entry

  entry_cause : (rule : Rule) (change : Change) (text : List ℕ) → EntryFault c rule change text TooMany → Used
  entry_cause rule change text (at_once over) = at_its_first_turn text over
  entry_cause rule change text (nameless fine cuts none) = absurd (split_is_other (reading_of text) rule cuts)
  entry_cause rule change text (walk_fails split entry walked all) = walk_failed (along c Follow split.dir) walked two_free
  entry_cause rule change text (change_refused finds refusal leaves) =
      in_part (along c Follow finds.split.dir) (found finds.dir finds.names) finds.walked refl refusal.when
      (inr (change_numbers (state_at (after_walk finds.walked) refusal.when).nodes finds.dir.node finds.split.name change refusal.refused))
  entry_cause rule change text (in_want finds want tells leaves) = absurd (other_want want)

  -- ---- read link

  no_text : (o : Option Object) → text_of o ≡ Err TooMany → ⊥
  no_text None e = cc (e)
  no_text (Some object.Dir) e = cc (e)
  no_text (Some object.File) e = cc (e)
  no_text (Some (object.Link text)) e = cc (e)

  read_cause : (text : List ℕ) → ReadFault c text TooMany → Used
  read_cause text (read_at_once over) = at_its_first_turn text over
  read_cause text (read_walk_fails fine walked all) = walk_failed (along c NoFollow (reading_of text)) walked two_free
  read_cause text (read_refused finds refusal leaves) =
      absurd (no_text (object_at (state_at (after_walk finds.walked) refusal.when).nodes finds.link.node) refusal.no_text)
  read_cause text (read_in_want finds want tells leaves) = absurd (other_want want)

  -- ---- rename

  other_fault : (b : Bool) (o : Option ℕ) (dir : ℕ → Bool) → refuse_if b (Some NotDir) (with_some o (Some NotFound) (λ x. refuse_if (dir x) (Some NotDir) None)) ≡ Some TooMany → ⊥
  other_fault true o dir e = cc (e)
  other_fault false None dir e = cc (e)
  other_fault false (Some x) dir e = on (dir x) e
    where
      on : (b : Bool) → refuse_if b (Some NotDir) None ≡ Some TooMany → ⊥
      on true e = cc (e)
      on false e = cc (e)

  refused_cause : (from to : Split) (both : FindsBoth c from to) (renaming : Renaming) (error : Errno) → RenameRefused (after_both both) renaming both.old both.new error → error ≡ TooMany → Used
  refused_cause from to both renaming error (rename_refused when event old_open new_open e) same =
      absurd (rename_is_other (state_at (after_both both) when).nodes both.old.node renaming.old both.new.node renaming.new renaming.mode (e ∙ ap (λ (x : Errno). Err x) same))
  refused_cause from to both renaming error (not_directory when answer slash event is_open e) same =
      let nodes = (state_at (after_both both) when).nodes in
      absurd (other_fault (not (is_dir nodes both.old.node)) (child nodes both.old.node renaming.old) (λ x. not (is_dir nodes x)) (e ∙ ap (λ (x : Errno). Some x) same))
  refused_cause from to both renaming error (full when slash event is_full' as_then) same =
      let one = both.one_more in
      let two = both.two_more in
      let numbers = full_numbers (state_at (after_both both) when) (actor_of c) is_full' (omega (arith, as_then, one, two, free)) in
      subst UsedUp
      (ends_there (on_path to.dir (after_walk both.first)) (found both.new both.new_names) both.second ∙ ends_there (along c Follow from.dir) (found both.old both.old_names) both.first)
      (from_then (after_both both) when (inl numbers))
  refused_cause from to both renaming error (rename_in_want want tells) same = absurd (other_want (subst IsWant same want))

  rename_cause : (old new : List ℕ) (mode : Mode) (error : Errno) → RenameFault c old new mode error → error ≡ TooMany → Used
  rename_cause old new mode error (rename_at_once over) same = at_its_first_turn old (subst (EndsAtOnce c old) same over)
  rename_cause old new mode error (old_nameless fine cuts none) same = absurd (split_is_other (reading_of old) Drop (cuts ∙ ap (λ (x : Errno). Err x) same))
  rename_cause old new mode error (new_text from entry e none) same = absurd (text_is_other new (e ∙ ap (λ (x : Errno). Some x) same))
  rename_cause old new mode error (new_nameless from entry fine cuts none) same = absurd (split_is_other (reading_of new) Drop (cuts ∙ ap (λ (x : Errno). Err x) same))
  rename_cause old new mode error (of_first from to old_entry new_entry walked all) same =
      walk_failed (along c Follow from.dir) (subst (λ (x : Errno). WalkedTo (along c Follow from.dir) (failed x)) same walked) two_free
  rename_cause old new mode error (of_second from to old_entry new_entry dir names first second few one leaves) same =
      subst UsedUp (ends_there (along c Follow from.dir) (found dir names) first)
      (walk_failed (on_path to.dir (after_walk first)) (subst (λ (x : Errno). WalkedTo (on_path to.dir (after_walk first)) (failed x)) same second) (omega (arith, free, one)))
  rename_cause old new mode error (no_second from to old_entry new_entry dir names first met leaves) same = cc (same)
  rename_cause old new mode error (of_rename from to old_entry new_entry both why leaves) same = refused_cause from to both (renaming_of from to mode) error why same

  -- ---- a resolve

  walks_cause : (goal : Goal) (path : Reading) → WalksTo c (way_from c.below.root goal c.below.flags) path (failed TooMany) → Used
  walks_cause goal path to =
      walk_failed (bulk_of c (way_from c.below.root goal c.below.flags) path) to two_free

  resolve_cause : (goal : Goal) (text : List ℕ) → WalkIsReply c goal text (Fault TooMany) → Used
  resolve_cause goal text (inl over) = at_its_first_turn text over
  resolve_cause goal text (inr to) = walks_cause goal (reading_of text) to

  -- ---- a MkdirAll

  module _ (w : WalkInHistory) (ends : end_of w ≡ calls.end_of c) (few : held_count (begin_of w) w.actor + 2 ≤ HANDLES_MAX) where
    unbegun_cause : (error : Errno) → UnbegunCause w error → error ≡ TooMany → Used
    unbegun_cause error (of_walk of) same = subst UsedUp ends (walk_numbers w (subst (TellsError w) same of.true_once) few)
    unbegun_cause error (no_directory handle names walked other) same = cc (same)
    unbegun_cause error (of_rest p e) same = absurd (rest_is_other p.rest (e ∙ ap (λ (x : Errno). Some x) same))

    limit_cause : (t : ℕ) → IsAtLimit w t → Used
    limit_cause t (inl held) = let most = held.1 in subst UsedUp ends (from_then w t (inl (full_numbers (state_at w t) w.actor held.0 (omega (arith, most, few)))))
    limit_cause t (inr nodes) = subst UsedUp ends (from_then w t (inr nodes))

    making_cause : (p : DeepestAt w) (error : Errno) → MakingCause w p error → error ≡ TooMany → Used
    making_cause p error (for_want want tells) same = absurd (other_want (subst IsWant same want))
    making_cause p error (at_limit t step event told limit) same = limit_cause t limit
    making_cause p error (gone dir name h t at_name was is) same = cc (same)
    making_cause p error (missing taken) same = cc (same)
    making_cause p error (no_directory_there dir name t x at_name is none) same = cc (same)
    making_cause p error (astray passed to t names down own elsewhere) same = cc (same)

    make_cause : (reach : Reach w) → Cause w reach TooMany → Used
    make_cause not_begun cause = unbegun_cause TooMany cause refl
    make_cause (begun p) cause = making_cause p TooMany cause.1 refl

  make_all_cause : (text : List ℕ) → MakeAllTells c text (Fault TooMany) → Used
  make_all_cause text (inl over) = at_its_first_turn text over
  make_all_cause text (inr tells) = make_cause (bulk_of c (make_way c.below) (reading_of text)) refl two_free tells.reach tells.cause

  -- ---- the whole

  cause : (op : Op) → holds_few op ≡ true → ActTells c op (fault TooMany) → ResolveTells c op (Fault TooMany) → BulkTells c op (Fault TooMany) → Used
  cause (Resolve text) few act resolved bulk = resolve_cause Follow text resolved
  cause (ResolveNoFollow text) few act resolved bulk = resolve_cause NoFollow text resolved
  cause (ReadLink text) few act resolved bulk = read_cause text act
  cause (CreateFile text) few act resolved bulk = entry_cause Refuse changes.MakeFile text act
  cause (CreateDir text) few act resolved bulk = entry_cause Drop changes.MakeDir text act
  cause (CreateLink text target) few act resolved bulk = entry_cause Refuse (changes.MakeLink target) text act
  cause (RemoveFile text) few act resolved bulk = entry_cause Refuse changes.RemoveFile text act
  cause (RemoveDir text) few act resolved bulk = entry_cause Drop changes.RemoveDir text act
  cause (Rename old new mode) few act resolved bulk = rename_cause old new mode TooMany act refl
  cause (MkdirAll text) few act resolved bulk = make_all_cause text bulk
  cause (RemoveAll text) few act resolved bulk = cc (few)
  cause (Single step) few act resolved bulk = cc (few)
  cause (Release standing) few act resolved bulk = cc (few)

pub four_are_enough : EachCallTells → FourAreEnough
four_are_enough each c reply is leads few free same =
    let tells = each c reply is leads in
    cause c free c.op few
    (subst (λ (r : Told). ActTells c c.op (reply_view r)) same tells.acts)
    (subst (λ (r : Told). ResolveTells c c.op r) same tells.resolved)
    (subst (λ (r : Told). BulkTells c c.op r) same tells.bulk)
