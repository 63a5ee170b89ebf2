-- Each call in vain met a change of its own.
use Rattle.std.proofs.Common.{◌≡◌, ◌⊎◌, inl, inr, ℕ, suc, ◌+◌, ◌≤◌, List, [], ◌∷◌, ◌++◌, length, Err, Some, false, refl, ap, ◌∙◌, subst, arith}
use Rattle.path_text.specs.declared.errno.Errno.{Errno}
use Rattle.path_text.specs.declared.errno.Errno.TheVariants.{Raced, NoMemory}
use Rattle.path_text.specs.declared.path.Rule.{Rule}
use Rattle.path_text.specs.declared.path.Rule.TheVariants.{Drop, Refuse}
use Rattle.path_text.specs.declared.path.Split.{Split}
use Rattle.path_text.specs.Text.{text_fault, reading_of}
use Rattle.tree_model.specs.declared.step.Mode.{Mode}
use Rattle.tree_model.specs.State.{object_at}
use Rattle.walk_plan.specs.declared.goal.Goal.{Goal}
use Rattle.walk_plan.specs.declared.goal.Goal.TheVariants.{Follow, NoFollow, Deepest}
use Rattle.step_resolver.specs.Changes.{changes_by_others}
use Rattle.step_resolver.specs.Order.{IsWant, found, failed}
use Rattle.step_resolver.specs.Order as walk
use Rattle.step_resolver.specs.WalkHistory.{WalkInHistory, state_at}
use Rattle.step_resolver.proofs.Changes.{added, raced_walk_met}
use Rattle.bulk_ops.specs.WalkFirst.{walk_part, WalkedTo, after_walk}
use Rattle.bulk_ops.proofs.RacedCalls.{making_met, removal_met}
use Rattle.root_ops.specs.declared.aim.Change.{Change}
use Rattle.root_ops.specs.declared.aim.Change.TheVariants as changes
use Rattle.root_ops.specs.declared.aim.Renaming.{Renaming}
use Rattle.root_ops.specs.declared.op.Op.{Op}
use Rattle.root_ops.specs.declared.op.Op.TheVariants.{Resolve, ResolveNoFollow, ReadLink, CreateFile, CreateDir, CreateLink, RemoveFile, RemoveDir, Rename, MkdirAll, RemoveAll, Single, Release}
use Rattle.root_ops.specs.declared.reply.Reply.TheVariants.{Fault}
use Rattle.root_ops.specs.Acts.{along, on_path, EntryFault, at_once, nameless, walk_fails, change_refused, in_want, ReadFault, read_at_once, read_walk_fails, read_refused, read_in_want, FindsBoth, after_both, RenameRefused, rename_refused, not_directory, full, rename_in_want, RenameFault, rename_at_once, old_nameless, new_text, new_nameless, of_first, of_second, no_second, of_rename, ActTells}
use Rattle.root_ops.specs.CallHistory.{CallInHistory, IsCallInHistory, actor_of, EndsAtOnce}
use Rattle.root_ops.specs.EachCall.{ResolveTells, WalkIsReply, BulkTells, MakeAllTells, RemoveAllTells}
use Rattle.root_ops.specs.Order.{fault, renaming_of}
use Rattle.root_ops.specs.VainCalls.{MayBeTriedAgain, IsVainCall, AreVainCalls, changes_in_windows, in_calls, VainCallsNeedChanges}
use Rattle.root_ops.proofs.Handles.BulkHistory.{is_bulk_of}
use Rattle.root_ops.proofs.NotRaced.{text_is_other, split_is_other, text_of_is_other, change_is_other, rename_is_other, no_directory_is_other}

-- a walk that failed so, in the first part of a window
walked_met : (w : WalkInHistory) → WalkedTo w (failed Raced) → 1 ≤ changes_by_others w.actor w.window
walked_met w walked =
    let some = raced_walk_met (walk_part w walked.window walked.lines) walked.is_walk walked.leads in
    let all : changes_by_others w.actor w.window ≡ changes_by_others w.actor walked.window + changes_by_others w.actor walked.later
    = ap (changes_by_others w.actor) walked.windows ∙ added w.actor walked.window walked.later in
    omega (arith, some, all)

-- or in the second
later_met : (w : WalkInHistory) (end : walk.Turn) (walked : WalkedTo w end) → 1 ≤ changes_by_others w.actor walked.later → 1 ≤ changes_by_others w.actor w.window
later_met w end walked some =
    let all : changes_by_others w.actor w.window ≡ changes_by_others w.actor walked.window + changes_by_others w.actor walked.later
    = ap (changes_by_others w.actor) walked.windows ∙ added w.actor walked.window walked.later in
    omega (arith, some, all)

other_want : IsWant Raced → ⊥
other_want (inl e) = cc (e)
other_want (inr e) = cc (e)

module _ (c : CallInHistory) (is : IsCallInHistory c) where
  abbrev Met : Type 0
  Met = 1 ≤ changes_by_others (actor_of c) c.window

  at_first : (text : List ℕ) → EndsAtOnce c text Raced → ⊥
  at_first text over = on over.why
    where
      on : (text_fault text ≡ Some Raced) ⊎ ((c.room ≡ false) × (Raced ≡ NoMemory)) → ⊥
      on (inl e) = text_is_other text e
      on (inr e) = cc (e.1)

  entry_met : (rule : Rule) (change : Change) (text : List ℕ) → EntryFault c rule change text Raced → Met
  entry_met rule change text (at_once over) = absurd (at_first text over)
  entry_met rule change text (nameless fine cuts none) = absurd (split_is_other (reading_of text) rule cuts)
  entry_met rule change text (walk_fails split entry walked all) = walked_met (along c Follow split.dir) walked
  entry_met rule change text (change_refused finds refusal leaves) =
      absurd (change_is_other (state_at (after_walk finds.walked) refusal.when).nodes change finds.dir.node finds.split.name refusal.refused)
  entry_met rule change text (in_want finds want tells leaves) = absurd (other_want want)

  read_met : (text : List ℕ) → ReadFault c text Raced → Met
  read_met text (read_at_once over) = absurd (at_first text over)
  read_met text (read_walk_fails fine walked all) = walked_met (along c NoFollow (reading_of text)) walked
  read_met text (read_refused finds refusal leaves) =
      absurd (text_of_is_other (object_at (state_at (after_walk finds.walked) refusal.when).nodes finds.link.node) refusal.no_text)
  read_met text (read_in_want finds want tells leaves) = absurd (other_want want)

  -- the step after both walks isn't refused so
  not_refused : (from to : Split) (both : FindsBoth c from to) (renaming : Renaming) (error : Errno) → RenameRefused (after_both both) renaming both.old both.new error → error ≡ Raced → ⊥
  not_refused from to both renaming error (rename_refused when event old_open new_open e) same =
      rename_is_other (state_at (after_both both) when).nodes both.old.node renaming.old both.new.node renaming.new renaming.mode (e ∙ ap (λ (x : Errno). Err x) same)
  not_refused from to both renaming error (not_directory when answer slash event is_open e) same =
      no_directory_is_other (state_at (after_both both) when).nodes both.old.node renaming.old (e ∙ ap (λ (x : Errno). Some x) same)
  not_refused from to both renaming error (full when slash event is_full as_then) same = cc (same)
  not_refused from to both renaming error (rename_in_want want tells) same = other_want (subst IsWant same want)

  rename_met : (old new : List ℕ) (mode : Mode) (error : Errno) → RenameFault c old new mode error → error ≡ Raced → Met
  rename_met old new mode error (rename_at_once over) same = absurd (at_first old (subst (EndsAtOnce c old) same over))
  rename_met old new mode error (old_nameless fine cuts none) same = absurd (split_is_other (reading_of old) Drop (cuts ∙ ap (λ (x : Errno). Err x) same))
  rename_met old new mode error (new_text from entry e none) same = absurd (text_is_other new (e ∙ ap (λ (x : Errno). Some x) same))
  rename_met old new mode error (new_nameless from entry fine cuts none) same = absurd (split_is_other (reading_of new) Drop (cuts ∙ ap (λ (x : Errno). Err x) same))
  rename_met old new mode error (of_first from to old_entry new_entry walked all) same =
      walked_met (along c Follow from.dir) (subst (λ (x : Errno). WalkedTo (along c Follow from.dir) (failed x)) same walked)
  rename_met old new mode error (of_second from to old_entry new_entry dir names first second few one leaves) same =
      later_met (along c Follow from.dir) (found dir names) first
      (walked_met (on_path to.dir (after_walk first)) (subst (λ (x : Errno). WalkedTo (on_path to.dir (after_walk first)) (failed x)) same second))
  rename_met old new mode error (no_second from to old_entry new_entry dir names first met leaves) same = cc (same)
  rename_met old new mode error (of_rename from to old_entry new_entry both why leaves) same = absurd (not_refused from to both (renaming_of from to mode) error why same)

  resolve_met : (goal : Goal) (text : List ℕ) → WalkIsReply c goal text (Fault Raced) → Met
  resolve_met goal text (inl over) = absurd (at_first text over)
  resolve_met goal text (inr walked) = walked_met (along c goal (reading_of text)) walked

  make_met : (text : List ℕ) → MayBeTriedAgain c (MkdirAll text) → MakeAllTells c text (Fault Raced) → Met
  make_met text root (inl over) = absurd (at_first text over)
  make_met text root (inr tells) = making_met (along c Deepest (reading_of text)) (is_bulk_of c Deepest (reading_of text) is) root tells

  clear_met : (text : List ℕ) → RemoveAllTells c text (Fault Raced) → Met
  clear_met text (inl over) = absurd (at_first text over)
  clear_met text (inr (inl none)) = absurd (split_is_other (reading_of text) Drop none.why)
  clear_met text (inr (inr clears)) =
      removal_met (along c Follow clears.split.dir) clears.split.name (is_bulk_of c Follow clears.split.dir is) clears.tells

  by_op : (op : Op) → MayBeTriedAgain c op → ResolveTells c op (Fault Raced) → ActTells c op (fault Raced) → BulkTells c op (Fault Raced) → Met
  by_op (Resolve text) again resolved acts bulk = resolve_met Follow text resolved
  by_op (ResolveNoFollow text) again resolved acts bulk = resolve_met NoFollow text resolved
  by_op (ReadLink text) again resolved acts bulk = read_met text acts
  by_op (CreateFile text) again resolved acts bulk = entry_met Refuse changes.MakeFile text acts
  by_op (CreateDir text) again resolved acts bulk = entry_met Drop changes.MakeDir text acts
  by_op (CreateLink text target) again resolved acts bulk = entry_met Refuse (changes.MakeLink target) text acts
  by_op (RemoveFile text) again resolved acts bulk = entry_met Refuse changes.RemoveFile text acts
  by_op (RemoveDir text) again resolved acts bulk = entry_met Drop changes.RemoveDir text acts
  by_op (Rename old new mode) again resolved acts bulk = rename_met old new mode Raced acts refl
  by_op (MkdirAll text) again resolved acts bulk = make_met text again bulk
  by_op (RemoveAll text) again resolved acts bulk = clear_met text bulk
  by_op (Single step) again resolved acts bulk = absurd again
  by_op (Release standing) again resolved acts bulk = absurd again

one_call : (c : CallInHistory) → IsVainCall c → 1 ≤ changes_by_others (actor_of c) c.window
one_call c vain = by_op c vain.is_call c.op vain.again vain.tells.resolved vain.tells.acts vain.tells.bulk

in_windows : (c : CallInHistory) (cs : List CallInHistory) → AreVainCalls c cs → suc (length cs) ≤ changes_in_windows c cs
in_windows c [] vain = one_call c vain
in_windows c (d ∷ ds) vain = let here = one_call c vain.0 in let later = in_windows d ds vain.2 in omega (arith, here, later)

among_all : (c : CallInHistory) (cs : List CallInHistory) (vain : AreVainCalls c cs) → changes_in_windows c cs ≤ changes_by_others (actor_of c) (in_calls c cs vain)
among_all c [] vain = omega arith
among_all c (d ∷ ds) vain =
    let rest = in_calls d ds vain.2 in
    let later : changes_in_windows d ds ≤ changes_by_others (actor_of c) rest
    = subst (λ a. changes_in_windows d ds ≤ changes_by_others a rest) vain.1.actor (among_all d ds vain.2) in
    omega (arith, later, added (actor_of c) c.window (vain.1.between ++ rest), added (actor_of c) vain.1.between rest)

pub vain_calls_need_changes : VainCallsNeedChanges
vain_calls_need_changes c cs vain = record { in_windows = in_windows c cs vain; among_all = among_all c cs vain }
