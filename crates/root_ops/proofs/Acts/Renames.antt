-- The own steps of a rename, once both directories are found, while others act.
use Rattle.std.specs.Prelude.{◌≡◌, ◌≢◌, ℕ, suc, ◌≤◌, List, [], ◌∷◌, Bool, true, false, not, if◌then◌else◌, length, Some, None, Result, Ok, Err, refl}
use Rattle.std.proofs.Common.{sym, ap, subst, ◌∙◌, inl, inr, not-suc-le-zero, arith}
use Rattle.std.proofs.lemmas.Bool.{false≢true}
use Rattle.path_text.specs.declared.errno.Errno.{Errno}
use Rattle.path_text.specs.declared.errno.Errno.TheVariants.{NotDir, TooMany}
use Rattle.tree_model.specs.declared.answer.Answer.{Answer}
use Rattle.tree_model.specs.declared.answer.Answer.TheVariants.{Refused, Opened, Done}
use Rattle.tree_model.specs.declared.inode.Inode.{Inode}
use Rattle.tree_model.specs.declared.inode.Object.{Object}
use Rattle.tree_model.specs.declared.inode.Object.TheVariants as object
use Rattle.tree_model.specs.StepWith.{StepWith}
use Rattle.tree_model.specs.declared.step.StepOf.TheVariants.{Open, Close}
use Rattle.tree_model.specs.State.{State, is_directory}
use Rattle.tree_model.specs.Entries.{refuse_if, renames}
use Rattle.tree_model.specs.Steps.{Outcome, outcome, held, changes, kind_of, with_handle}
use Rattle.tree_model.specs.Trees.{IsState}
use Rattle.step_resolver.specs.Failures.{TellsWant}
use Rattle.step_resolver.specs.Order.{Handle, Line, answered, no_room, not_made}
use Rattle.step_resolver.specs.WalkHistory.{WalkInHistory, begin_of, state_at, timeline}
use Rattle.step_resolver.proofs.Underway.HandleCount.{same_count}
use Rattle.step_resolver.proofs.Underway.StepOutcomes.{with_handle-is_more, Close-is_less}
use Rattle.step_resolver.proofs.Underway.WalkInvariant.{held_at}
use Rattle.step_resolver.proofs.Underway.LegalHistory.{AloneAt, HappensAlone, not_below}
use Rattle.bulk_ops.specs.RemoveAllTells.{event_at, LeavesEntries, AllLeaveEntries}
use Rattle.root_ops.specs.declared.aim.Renaming.{Renaming}
use Rattle.root_ops.specs.declared.aim.Wanted.TheVariants as wants
use Rattle.root_ops.specs.declared.below.Below.{Below}
use Rattle.root_ops.specs.Acts.{WasDirectory, RenamesOnce, RenameRefused, rename_refused, not_directory, full, rename_in_want}
use Rattle.root_ops.specs.Meaning.{no_directory}
use Rattle.root_ops.specs.Order.{Reply, done, kept, fault, acts, acting, checking, more, ends, closes, gives_up, reply_to, rename_step, take, LeadsTo}
use Rattle.root_ops.specs.Order as call
use Rattle.root_ops.proofs.Quiet.RenamesAlone.{Tried, is_refused, can_open_no_more, opens_it, entry_tried, rename_is, other_handle}
use Rattle.root_ops.proofs.Acts.OwnStep.{Side, is_before, is_at, is_after, side, LeavesFrom, all_leave, but_one, and_one, leaves_by, shut, Acted, step_unmade, step_made, acted}

-- what the reply tells
abbrev pub RenameEnds : WalkInHistory → Renaming → Handle → Handle → Reply → Type 0
RenameEnds w ren old new done = RenamesOnce w ren old new
RenameEnds w ren old new (fault error) = RenameRefused w ren old new error × AllLeaveEntries w
RenameEnds w ren old new other = ⊥

module _ (w : WalkInHistory) (trees : (t : ℕ) → IsState (state_at w t)) (below : Below) (reply : Reply) (ren : Renaming) (old new : Handle)
    (old_held : held_at w 0 old.number ≡ Some old.node) (new_held : held_at w 0 new.number ≡ Some new.node) where
  abbrev Told : Reply → Type 0
  Told r = RenameEnds w ren old new r

  -- ---- the Rename, from moment m on

  -- both are open, each own event before it left all entries, and after a slash the entry was a directory
  record Ready (m : ℕ) (lines : List Line) : Type 0 where
    pub old_open : held_at w m old.number ≡ Some old.node
    pub new_open : held_at w m new.number ≡ Some new.node
    pub left : (k : ℕ) → suc k ≤ m → (timeline w).is_own k ≡ true → LeavesEntries w k
    pub checked : ren.slash ≡ true → (when : ℕ) → m ≤ when → WasDirectory w old ren.old when
    pub met : (error : Errno) → TellsWant error lines → TellsWant error w.lines

  module _ (m : ℕ) (lines : List Line) (ready : Ready m lines) where
    abbrev step : StepWith ℕ
    step = rename_step ren old.number new.number

    module _ (t : ℕ) (answer : Answer) (alone : AloneAt w m t step answer) (later : LeavesFrom w (suc t)) where
      others : (k : ℕ) → k ≢ t → (timeline w).is_own k ≡ true → LeavesEntries w k
      others k other own = on (side k m)
        where
          on : Side k m → LeavesEntries w k
          on (is_before less) = ready.left k less own
          on (is_at e) = but_one w m t step answer alone later k (omega arith) other own
          on (is_after past) = but_one w m t step answer alone later k (omega arith) other own

      -- so does this one, where it leaves them
      but_here : LeavesEntries w t → AllLeaveEntries w
      but_here here k own = on (side k t)
        where
          on : Side k t → LeavesEntries w k
          on (is_before less) = others k (λ e. not_below k (omega (arith, less, e))) own
          on (is_at e) = subst (LeavesEntries w) (sym e) here
          on (is_after past) = others k (λ e. not_below k (omega (arith, past, e))) own

      old_then : held_at w t old.number ≡ Some old.node
      old_then = alone.made.kept old.number ∙ ready.old_open

      new_then : held_at w t new.number ≡ Some new.node
      new_then = alone.made.kept new.number ∙ ready.new_open

      event_so : (a : Answer) → answer ≡ a → event_at w t step a
      event_so a told = alone.made.event ∙ ap (λ (x : Answer). Some (record { actor = w.actor; step = step; answer = x })) told

      by_result : (result : Result (List Inode) Errno) → renames (state_at w t).nodes old.node ren.old new.node ren.new ren.mode ≡ result
          → answer ≡ (changes (state_at w t) result).answer → state_at w (suc t) ≡ (changes (state_at w t) result).after → Told (reply_to wants.Done answer)
      by_result (Ok nodes) e told after' =
          subst (λ (a : Answer). Told (reply_to wants.Done a)) (sym told) (record {
            when = t;
            event = event_so Done told;
            old_open = old_then;
            new_open = new_then;
            made = e ∙ ap (λ (ns : List Inode). Ok ns) (sym (ap (λ (s : State). s.nodes) after'));
            others = others;
            checked = λ slash. ready.checked slash t alone.made.at.later;
          })
      by_result (Err error) e told after' =
          subst (λ (a : Answer). Told (reply_to wants.Done a)) (sym told)
          (rename_refused t (event_so (Refused error) told) old_then new_then e, but_here (ap (λ (s : State). s.nodes) after'))

    renamed : Acted w below reply m wants.Done step lines → Told reply
    renamed (step_unmade error same want tells leaves) = subst Told same (rename_in_want want (ready.met error tells), unmade leaves)
      where
        unmade : LeavesFrom w m → AllLeaveEntries w
        unmade later k own = on (side k m)
          where
            on : Side k m → LeavesEntries w k
            on (is_before less) = ready.left k less own
            on (is_at e) = later k (omega arith) own
            on (is_after past) = later k (omega arith) own
    renamed (step_made t answer alone same later) =
        let is = rename_is (state_at w t) w.actor old.number new.number old.node new.node ren.old ren.new ren.mode
        (alone.made.kept old.number ∙ ready.old_open) (alone.made.kept new.number ∙ ready.new_open) in
        subst Told same
        (by_result t answer alone later (renames (state_at w t).nodes old.node ren.old new.node ren.new ren.mode) refl
        (alone.made.told ∙ ap (λ (o : Outcome). o.answer) is) (alone.made.after ∙ ap (λ (o : Outcome). o.after) is))

  abbrev renaming_turn : call.CallTurn
  renaming_turn = more (acting wants.Done (rename_step ren old.number new.number) (new.number ∷ old.number ∷ []))

  from_here : (m : ℕ) (lines : List Line) → Ready m lines → HappensAlone w m lines → LeadsTo below renaming_turn lines (ends reply) → Told reply
  from_here m lines ready happens leads =
      renamed m lines ready (acted w below reply lines m wants.Done (rename_step ren old.number new.number) (new.number ∷ old.number ∷ []) happens leads)

  -- ---- after a slash

  -- the entry was opened at t, and what was opened is closed at u
  module _ (slash : ren.slash ≡ true) (line : Line) (lines : List Line) (all : w.lines ≡ line ∷ lines) (t : ℕ) (answer : Answer)
      (alone : AloneAt w 0 t (Open old.number ren.old) answer) where
    abbrev s : State
    s = state_at w t

    old_at_open : held s w.actor old.number ≡ Some old.node
    old_at_open = alone.made.kept old.number ∙ old_held

    new_at_open : held s w.actor new.number ≡ Some new.node
    new_at_open = alone.made.kept new.number ∙ new_held

    opened_leaves : LeavesEntries w t
    opened_leaves = leaves_by w 0 t (Open old.number ren.old) answer alone.made refl

    module _ (x : ℕ) (after_open : state_at w (suc t) ≡ with_handle s w.actor x) (is_dir : no_directory s.nodes old.node ren.old ≡ None) where
      abbrev child : ℕ
      child = length s.handles

      -- a handle from before stays open
      stays : (u k y : ℕ) (a : Answer) → AloneAt w (suc t) u (Close child) a → held s w.actor k ≡ Some y → held_at w (suc u) k ≡ Some y
      stays u k y a closed is =
          let other : k ≢ child = other_handle s w.actor k child y is (with_handle-is_more s w.actor x).fresh in
          ap (λ (z : State). held z w.actor k) closed.made.after
          ∙ (Close-is_less (state_at w u) w.actor child).others k other
          ∙ closed.made.kept k
          ∙ ap (λ (z : State). held z w.actor k) after_open
          ∙ (with_handle-is_more s w.actor x).others k other ∙ is

      was_directory : (when : ℕ) → suc t ≤ when → WasDirectory w old ren.old when
      was_directory when le = record { first = t; earlier = omega (arith, le); answer = answer; event = alone.made.event; is_open = old_at_open; is_dir = is_dir }

      ready_then : (u : ℕ) (a : Answer) (second : Line) (others : List Line) → lines ≡ second ∷ others → AloneAt w (suc t) u (Close child) a → Ready (suc u) others
      ready_then u a second others rest closed = record {
        old_open = stays u old.number old.node a closed old_at_open;
        new_open = stays u new.number new.node a closed new_at_open;
        left = left;
        checked = λ is when le. was_directory when (omega (arith, le, closed.made.at.later));
        met = λ error met. subst (TellsWant error) (sym all) (inr (subst (TellsWant error) (sym rest) (inr met)));
      }
        where
          close_leaves : LeavesEntries w u
          close_leaves = leaves_by w (suc t) u (Close child) a closed.made refl

          early : (k : ℕ) → (timeline w).is_own k ≡ true → Side k t → Side k u → suc k ≤ suc u → LeavesEntries w k
          early k own (is_before less) other le = absurd (false≢true (sym (alone.alone.none k (omega arith) less) ∙ own))
          early k own (is_at e) other le = subst (LeavesEntries w) (sym e) opened_leaves
          early k own (is_after past) (is_before less) le = absurd (false≢true (sym (closed.alone.none k past less) ∙ own))
          early k own (is_after past) (is_at e) le = subst (LeavesEntries w) (sym e) close_leaves
          early k own (is_after past) (is_after most) le = absurd (not_below k (omega (arith, most, le)))

          left : (k : ℕ) → suc k ≤ suc u → (timeline w).is_own k ≡ true → LeavesEntries w k
          left k le own = early k own (side k t) (side k u) le

      closed_at : (u : ℕ) (made : StepWith ℕ) (a : Answer) (second : Line) (others : List Line) → lines ≡ second ∷ others → AloneAt w (suc t) u made a → made ≡ Close child
          → HappensAlone w (suc u) others → LeadsTo below renaming_turn others (ends reply) → Told reply
      closed_at u made a second others rest closed same happens leads =
          from_here (suc u) others (ready_then u a second others rest (subst (λ (z : StepWith ℕ). AloneAt w (suc t) u z a) same closed)) happens leads

      by_close : (ls : List Line) → lines ≡ ls → HappensAlone w (suc t) ls
          → LeadsTo below (closes (child ∷ []) (acts wants.Done (rename_step ren old.number new.number) (new.number ∷ old.number ∷ []))) ls (ends reply) → Told reply
      by_close [] rest happens leads = cc (leads)
      by_close (answered made a ∷ lines_then) rest happens leads =
          closed_at happens.0 made a (answered made a) lines_then rest happens.1.0 leads.0 happens.1.1 leads.1
      by_close (no_room made a ∷ lines_then) rest happens leads =
          closed_at happens.0 made a (no_room made a) lines_then rest happens.1.0 leads.0 happens.1.1 leads.1
      by_close (not_made error ∷ lines_then) rest happens leads = cc (leads.0.1)

    module _ (room : Bool) (happens : HappensAlone w (suc t) lines) where
      abbrev Onward : Answer → Type 0
      Onward a = LeadsTo below (take below room (checking old.number new.number ren) a) lines (ends reply)

      open_event : (a : Answer) → answer ≡ a → event_at w t (Open old.number ren.old) a
      open_event a told = alone.made.event ∙ ap (λ (x : Answer). Some (record { actor = w.actor; step = Open old.number ren.old; answer = x })) told

      -- the call fails once all is closed
      fails_so : (hs : List ℕ) (error : Errno) → RenameRefused w ren old new error → LeadsTo below (gives_up hs error) lines (ends reply) → Told reply
      fails_so hs error why leads =
          let over = shut w below reply lines hs (fault error) (suc t) happens leads in
          subst Told over.same (why, all_leave w (and_one w 0 t (Open old.number ren.old) answer alone opened_leaves over.leaves))

      by_kind : (x : ℕ) (what : Object) → no_directory s.nodes old.node ren.old ≡ refuse_if (not (is_directory (Some what))) (Some NotDir) None
          → state_at w (suc t) ≡ with_handle s w.actor x → Onward (Opened (length s.handles) x (kind_of what)) → Told reply
      by_kind x object.Dir why after' leads = by_close x after' why lines refl happens leads
      by_kind x object.File why after' leads =
          fails_so (length s.handles ∷ new.number ∷ old.number ∷ []) NotDir (not_directory t answer slash alone.made.event old_at_open why) leads
      by_kind x (object.Link text) why after' leads =
          fails_so (length s.handles ∷ new.number ∷ old.number ∷ []) NotDir (not_directory t answer slash alone.made.event old_at_open why) leads

      by_tried : (o : Outcome) → Tried s w.actor (no_directory s.nodes old.node ren.old) o → answer ≡ o.answer → state_at w (suc t) ≡ o.after → Onward answer → Told reply
      by_tried o (is_refused error why e) told after' leads =
          fails_so (new.number ∷ old.number ∷ []) error (not_directory t answer slash alone.made.event old_at_open why)
          (subst Onward (told ∙ ap (λ (p : Outcome). p.answer) e) leads)
      by_tried o (can_open_no_more is_full' e) told after' leads =
          let refused_so = told ∙ ap (λ (p : Outcome). p.answer) e in
          fails_so (new.number ∷ old.number ∷ []) TooMany (full t slash (open_event (Refused TooMany) refused_so) is_full'
          (same_count w.actor (begin_of w).handles s.handles alone.made.kept)) (subst Onward refused_so leads)
      by_tried o (opens_it x what why e) told after' leads =
          by_kind x what why (after' ∙ ap (λ (p : Outcome). p.after) e) (subst Onward (told ∙ ap (λ (p : Outcome). p.answer) e) leads)

      by_answer : Onward answer → Told reply
      by_answer leads =
          by_tried (outcome s w.actor (Open old.number ren.old)) (entry_tried s w.actor (trees t) old.number old.node ren.old old_at_open) alone.made.told alone.made.after leads

  -- ---- the whole

  opened_at : (slash : ren.slash ≡ true) (room : Bool) (line : Line) (lines : List Line) → w.lines ≡ line ∷ lines → (t : ℕ) (made : StepWith ℕ) (answer : Answer)
      → AloneAt w 0 t made answer → made ≡ Open old.number ren.old → HappensAlone w (suc t) lines
      → LeadsTo below (take below room (checking old.number new.number ren) answer) lines (ends reply) → Told reply
  opened_at slash room line lines all t made answer alone same happens leads =
      by_answer slash line lines all t answer (subst (λ (z : StepWith ℕ). AloneAt w 0 t z answer) same alone) room happens leads

  by_check : (lines : List Line) → ren.slash ≡ true → w.lines ≡ lines → HappensAlone w 0 lines → LeadsTo below (more (checking old.number new.number ren)) lines (ends reply)
      → Told reply
  by_check [] slash all happens leads = cc (leads)
  by_check (answered made answer ∷ lines) slash all happens leads =
      opened_at slash true (answered made answer) lines all happens.0 made answer happens.1.0 leads.0 happens.1.1 leads.1
  by_check (no_room made answer ∷ lines) slash all happens leads =
      opened_at slash false (no_room made answer) lines all happens.0 made answer happens.1.0 leads.0 happens.1.1 leads.1
  by_check (not_made error ∷ lines) slash all happens leads =
      let over = shut w below reply lines (new.number ∷ old.number ∷ []) (fault error) 0 happens leads.1 in
      subst Told over.same (rename_in_want leads.0.0 (subst (TellsWant error) (sym all) (inl refl)), all_leave w over.leaves)

  by_slash : (slash : Bool) → ren.slash ≡ slash → HappensAlone w 0 w.lines
      → LeadsTo below (if slash then more (checking old.number new.number ren) else renaming_turn) w.lines (ends reply) → Told reply
  by_slash true e happens leads = by_check w.lines e refl happens leads
  by_slash false e happens leads =
      from_here 0 w.lines (record {
        old_open = old_held;
        new_open = new_held;
        left = λ k le. absurd (not-suc-le-zero le);
        checked = λ slash. absurd (false≢true (sym e ∙ slash));
        met = λ error met. met;
      }) happens leads

  pub rename_ends : HappensAlone w 0 w.lines → LeadsTo below (call.renames old.number new.number ren) w.lines (ends reply) → Told reply
  rename_ends happens leads = by_slash ren.slash refl happens leads
