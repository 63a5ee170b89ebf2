-- The lines of a rename whose paths the kernel walks lead the operation to its reply.
use Rattle.std.proofs.Common.{◌≡◌, inl, inr, ℕ, List, [], ◌∷◌, ◌++◌, true, if◌then◌else◌, Result, refl, sym, ap, subst, ◌∙◌}
use Rattle.std.specs.Prelude.{Option, Some, None}
use Rattle.std.proofs.lemmas.List.{append-nil}
use Rattle.path_text.specs.declared.errno.Errno.{Errno}
use Rattle.path_text.specs.declared.errno.Errno.TheVariants.{NotFound}
use Rattle.path_text.specs.declared.path.Rule.TheVariants.{Drop}
use Rattle.path_text.specs.declared.path.Split.{Split}
use Rattle.path_text.specs.Split.{split_of}
use Rattle.path_text.specs.Text.{reading_of}
use Rattle.tree_model.specs.declared.step.StepOf.TheVariants as steps
use Rattle.tree_model.specs.StepWith.{StepWith}
use Rattle.dialogue.specs.Dialogue.{Exchange, without_signals}
use Rattle.step_resolver.specs.Order.{Handle, Line}
use Rattle.step_resolver.specs.Order as walk
use Rattle.root_ops.specs.declared.aim.Aim.{Aim}
use Rattle.root_ops.specs.declared.aim.Aim.TheVariants.{Renames, WalksOn}
use Rattle.root_ops.specs.declared.aim.Renaming.{Renaming}
use Rattle.root_ops.specs.declared.aim.Wanted.TheVariants as wants
use Rattle.root_ops.specs.declared.op.Op.TheVariants.{Rename}
use Rattle.root_ops.specs.declared.reply.Reply.{Reply as Told}
use Rattle.root_ops.specs.CallHistory.{CallInHistory}
use Rattle.root_ops.specs.Order.{acting, between, checking, ends, fault, from_entry, gives_up, more, reached, renames, renaming_of, starts, unless_fault, walked, walked_on, walks, way_of}
use Rattle.root_ops.specs.View.{reply_view}
use Rattle.kernel_calls.specs.Calls.{renaming}
use Rattle.kernel_calls.specs.Change.{question_of}
use Rattle.kernel_calls.specs.Entry.{IsAbove}
use Rattle.kernel_calls.specs.Path.{text_in}
use Rattle.kernel_calls.specs.declared.entry.Dir.{Dir}
use Rattle.kernel_calls.specs.declared.look.Outcome.{Outcome}
use Rattle.kernel_walks.specs.AtOnce.{FailsAtOnceTell}
use Rattle.kernel_walks.specs.Tells.{KernelWalksTell}
use Rattle.calls_by_system_calls.specs.SystemCalls.{Descriptors, RenameSays, close_line, closed, rename_line}
use Rattle.calls_by_system_calls.specs.WholeCalls.{AreWithin, EntriesAreRenamedBySystemCalls, RenameCall, RepliesBy}
use Rattle.calls_by_system_calls.proofs.Noted.{Changed, Enters, IsOutcome, RenamesIn, no_signals, renamed}
use Rattle.calls_by_system_calls.proofs.Reaching.{Leads, as_they_are, in_root}
use Rattle.calls_by_system_calls.proofs.Standing.{AllLines, Ends, by_path, in_itself, machine_bits, one_line}
use Rattle.calls_by_system_calls.proofs.WholeCalls.{acts, concludes, stays_in}

module _ (tells : KernelWalksTell) (tell : FailsAtOnceTell) (c : CallInHistory) (d : Descriptors)
    (call : RenameCall c.below d c.op) (reply : Told)
    (by : RepliesBy (steps.Rename 0 [] 0 [] call.mode) call.end.outcome reply) where
  abbrev from : Split
  from = call.old.divided.split

  abbrev to : Split
  to = call.new.divided.split

  abbrev ren : Renaming
  ren = renaming_of from to call.mode

  abbrev outcome : Outcome
  outcome = call.end.outcome

  abbrev plain : StepWith ℕ
  plain = steps.Rename 0 [] 0 [] call.mode

  -- ---- in the new entry's directory

  abbrev Inner : Dir → Dir → List Exchange → List ℕ → Outcome → Type 0
  Inner old new xs fds o =
      Changed call.how (renaming old call.old.entry.name new call.new.entry.name) xs o × (fds ≡ [])

  -- the rename's line is in the table
  says : (old new : Dir) (h : ℕ) (mid : List Exchange) (fds : List ℕ) (lines : List Line) → d.handle old.fd ≡ h
      → (m : Inner old new mid fds outcome) → AllLines c.below d mid fds lines
      → RenameSays c.below d new.fd (rename_line from.name to.name call.mode m.0.answer.error h) lines
  says old new h mid fds lines is m all =
      let changing = renaming old call.old.entry.name new call.new.entry.name in
      let own = one_line c.below d (question_of call.how changing m.0.nofollow) m.0.answer mid fds lines m.0.all m.1 all in
      subst (λ n. RenameSays c.below d new.fd (rename_line n to.name call.mode m.0.answer.error h) lines)
      call.old.divided.name
      (subst (λ n. RenameSays c.below d new.fd (rename_line call.old.entry.name n call.mode m.0.answer.error h) lines)
      call.new.divided.name
      (subst (λ n. RenameSays c.below d new.fd
      (rename_line call.old.entry.name call.new.entry.name call.mode m.0.answer.error n) lines) is
      (own call.mode call.flags)))

  -- both directories are found: the rename, and both Closes
  renames_so : (h k error : ℕ) → IsOutcome error outcome
      → Ends c.below (renames h k ren)
      (rename_line from.name to.name call.mode error h k ∷ close_line k ∷ close_line h ∷ []) reply outcome
  renames_so h k error is =
      let made = steps.Rename h from.name k to.name call.mode in
      subst (λ b. Ends c.below (if b then more (checking h k ren) else more (acting wants.Done made (k ∷ h ∷ [])))
      (rename_line from.name to.name call.mode error h k ∷ close_line k ∷ close_line h ∷ []) reply outcome)
      (sym call.no_slash) (acts c.below plain made (k ∷ h ∷ []) error outcome reply refl refl is by)

  -- behind the old directory
  second : (old : Dir) (h : ℕ) (above : Option (List ℕ)) (s : List Exchange) (fds : List ℕ) (lines : List Line)
      → d.handle old.fd ≡ h → IsAbove to above → Enters call.known call.new.at above (Inner old) s fds outcome
      → AllLines c.below d s fds lines
      → Ends c.below (walks c.below (Renames h ren) to.dir) (lines ++ close_line h ∷ []) reply outcome
  second old h None s fds lines is parts (inl lacks) all =
      absurd (subst (λ o. RepliesBy plain o reply) lacks.0 by)
  second old h None s fds lines is parts (inr m) all =
      let stand = in_itself c.below d call.known call.new.at (Inner old) s fds outcome lines m all in
      let root = (says old m.dir h m.mid m.behind lines is m.inner stand).in_root
      (ap (λ (x : Dir). x.fd) m.finds.1 ∙ call.new.is_below.root) in
      let error = m.inner.0.answer.error in
      let next = renames_so h root.other.number error m.inner.0.is in (
        next.0,
        in_root c.below (Renames h ren) refl (reply_view reply) to.dir
            (λ k. rename_line from.name to.name call.mode error h k ∷ []) lines (close_line h ∷ []) parts
            (stays_in call.new m.finds.2) root next.1,
      )
  second old h (Some path) s fds lines is same enters all =
      by_path tell c d call.known call.is_on call.new.at call.new.is_below (Renames h ren) refl to path same.1 (Inner old)
      plain reply s fds lines (close_line h ∷ []) all outcome by enters
      (as_they_are c.below (gives_up (h ∷ []) NotFound) (close_line h ∷ []) (fault NotFound) (refl, refl))
      (λ new k names mid behind inner new_is free m stand.
      subst (λ ls. Ends c.below (renames h k.number ren) ((ls ++ close_line k.number ∷ []) ++ close_line h ∷ []) reply
      outcome)
      (sym ((says old new h mid behind inner is m stand).in_directory free
      ∙ ap (λ n. rename_line from.name to.name call.mode m.0.answer.error h n ∷ []) new_is))
      (renames_so h k.number m.0.answer.error m.0.is))

  -- ---- in the old one's

  abbrev on : Aim
  on = WalksOn to.dir ren

  same_walked : (h : ℕ) (turn : walk.Turn) → walked c.below true (Renames h ren) turn ≡ walked_on h ren turn
  same_walked h (walk.more w) = refl
  same_walked h (walk.found handle names) = refl
  same_walked h (walk.partial handle names rest) = refl
  same_walked h (walk.failed error) = refl

  abbrev Outer : Dir → List Exchange → List ℕ → Outcome → Type 0
  Outer = RenamesIn call.known call.old.entry call.new.at call.new.entry call.how

  then_second : (old : Dir) (h : Handle) (names : List (List ℕ)) (mid : List Exchange) (fds : List ℕ)
      (lines : List Line) → d.handle old.fd ≡ h.number → Outer old mid fds outcome → AllLines c.below d mid fds lines
      → Ends c.below (reached c.below true h names on) ((lines ++ close_line h.number ∷ []) ++ []) reply outcome
  then_second old h names mid fds lines is inner all =
      subst (λ t. Ends c.below t ((lines ++ close_line h.number ∷ []) ++ []) reply outcome)
      (same_walked h.number (walk.begins (way_of c.below (Renames h.number ren)) to.dir))
      (subst (λ ls. Ends c.below (walks c.below (Renames h.number ren) to.dir) ls reply outcome)
      (sym (append-nil (lines ++ close_line h.number ∷ [])))
      (second old h.number call.new.entry.above mid fds lines is call.new.divided.above inner all))

  first : (above : Option (List ℕ)) (s : List Exchange) (lines : List Line) → IsAbove from above
      → Enters call.known call.old.at above Outer s call.end.closes outcome
      → AllLines c.below d s call.end.closes lines → AreWithin c.below d above lines c.lines
      → Ends c.below (walks c.below on from.dir) c.lines reply outcome
  first None s lines parts (inl lacks) all within =
      absurd (subst (λ o. RepliesBy plain o reply) lacks.0 by)
  first None s lines parts (inr m) all within =
      let root = within.0 in
      let at_root = ap (λ (x : Dir). d.handle x.fd) m.finds.1 ∙ ap d.handle call.old.is_below.root ∙ within.1 in
      let next = then_second m.dir root.other [] m.mid m.behind lines at_root m.inner
      (in_itself c.below d call.known call.old.at Outer s call.end.closes outcome lines m all) in (
        next.0,
        subst (λ ls. Leads c.below (walks c.below on from.dir) ls (reply_view reply)) (append-nil c.lines)
            (in_root c.below on refl (reply_view reply) from.dir (λ h. lines) c.lines [] parts
            (stays_in call.old m.finds.2) root next.1),
      )
  first (Some path) s lines same enters all within =
      subst (λ ls. Ends c.below (walks c.below on from.dir) ls reply outcome) (append-nil lines ∙ sym within)
      (by_path tell c d call.known call.is_on call.old.at call.old.is_below on refl from path same.1 Outer plain reply s
      call.end.closes lines [] all outcome by enters
      (as_they_are c.below (ends (fault NotFound)) [] (fault NotFound) refl)
      (λ old h names mid behind inner is free m stand. then_second old h names mid behind inner is m stand))

  begins : starts c.below true (Rename (text_in call.old.at.slashed) (text_in call.new.at.slashed) call.mode)
      ≡ walks c.below on from.dir
  begins =
      let old = text_in call.old.at.slashed in
      let new = text_in call.new.at.slashed in
      ap (λ (why : Option Errno). unless_fault why (from_entry c.below call.mode new (split_of (reading_of old) Drop)))
      call.old.divided.entry.0
      ∙ ap (λ (s : Result Split Errno). from_entry c.below call.mode new s) call.old.divided.entry.1
      ∙ ap (λ (why : Option Errno). unless_fault why (between c.below call.mode from (split_of (reading_of new) Drop)))
      call.new.divided.entry.0
      ∙ ap (λ (s : Result Split Errno). between c.below call.mode from s) call.new.divided.entry.1

pub entries_are_renamed : KernelWalksTell → FailsAtOnceTell → EntriesAreRenamedBySystemCalls
entries_are_renamed tells tell c d call reply has by room in_history =
    concludes tells c reply call.end.outcome room in_history
    (subst (λ o. Ends c.below (starts c.below true o) c.lines reply call.end.outcome) (sym call.is_op)
    (subst (λ t. Ends c.below t c.lines reply call.end.outcome) (sym (begins tells tell c d call reply by))
    (first tells tell c d call reply by call.old.entry.above (without_signals call.exchanges)
    (has.lines ++ closed d call.end.closes) call.old.divided.above
    (renamed call.known call.old.at call.old.entry call.new.at call.new.entry call.how call.is_last call.unlinked
    call.gives (machine_bits call.known.machine call.is_on.0) call.exchanges call.end call.whole)
    (record { own = has.lines; stand = has.stand; quiet = no_signals call.exchanges; all = refl }) has.all)))
