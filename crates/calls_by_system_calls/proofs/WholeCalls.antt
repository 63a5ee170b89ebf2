-- The lines of a call whose path the kernel walks lead its operation to the reply.
use Rattle.std.proofs.Common.{◌≡◌, ◌≢◌, inl, inr, ℕ, List, [], ◌∷◌, ◌++◌, Bool, true, false, not, if◌then◌else◌, Result, Ok, Err, refl, sym, ap, subst, ◌∙◌, true≢false}
use Rattle.std.specs.Prelude.{◌==◌, ◌&&◌, ◌||◌, bit_or, nat_lt, length, Option, Some, None}
use Rattle.std.proofs.lemmas.List.{append-nil}
use Rattle.path_text.specs.declared.errno.Errno.TheVariants.{NotDir, NotFound, TooLong}
use Rattle.path_text.specs.declared.name.TheConstants.{NAME_MAX}
use Rattle.path_text.specs.declared.part.Part.{Part}
use Rattle.path_text.specs.declared.part.Part.TheVariants.{Cur, Up, Named}
use Rattle.path_text.specs.declared.path.Rule.{Rule}
use Rattle.path_text.specs.declared.path.Split.{Split}
use Rattle.path_text.specs.Reading.{Reading}
use Rattle.path_text.specs.Split.{split_at, last_part, parts_without_slash, refuses_slash, dir_of}
use Rattle.path_text.specs.Text.{begins_with_slash, reading_of}
use Rattle.tree_model.specs.StepWith.{StepWith}
use Rattle.system_calls.specs.Objects.{S_IFREG, format}
use Rattle.dialogue.specs.Dialogue.{Exchange, makes_node, opens, without_signals}
use Rattle.dialogue.specs.declared.calls.Answer.{Answer}
use Rattle.linux_steps.specs.Changes.{change_ended}
use Rattle.linux_steps.specs.declared.ended.Ended.{Ended}
use Rattle.linux_steps.specs.declared.ended.Ended.TheVariants as ended
use Rattle.walk_plan.specs.Plan.{leads_out}
use Rattle.step_resolver.specs.Order.{Line}
use Rattle.step_resolver.specs.Order as walk
use Rattle.root_ops.specs.declared.aim.Aim.{Aim}
use Rattle.root_ops.specs.declared.aim.Aim.TheVariants.{Changes}
use Rattle.root_ops.specs.declared.aim.Change.{Change}
use Rattle.root_ops.specs.declared.aim.Change.TheVariants as changes
use Rattle.root_ops.specs.declared.aim.Wanted.TheVariants as wants
use Rattle.root_ops.specs.declared.below.Below.{Below}
use Rattle.root_ops.specs.declared.reply.Reply.{Reply as Told}
use Rattle.root_ops.specs.CallHistory.{CallInHistory, IsCallInHistory}
use Rattle.root_ops.specs.Order.{Reply, acting, change_step, closes, ends, fault, gives, more, starts, walks, LeadsTo}
use Rattle.root_ops.specs.View.{reply_view}
use Rattle.kernel_calls.specs.Calls.{changing}
use Rattle.kernel_calls.specs.Change.{flags_of, is_opened, question_of, without_kind}
use Rattle.kernel_calls.specs.Entry.{IsAbove}
use Rattle.kernel_calls.specs.Flags.{MAKE_FILE, NEW}
use Rattle.kernel_calls.specs.Path.{text_in}
use Rattle.kernel_calls.specs.declared.change.Wanted.{Wanted}
use Rattle.kernel_calls.specs.declared.entry.Dir.{Dir}
use Rattle.kernel_calls.specs.declared.look.Outcome.{Outcome}
use Rattle.kernel_calls.specs.declared.look.Outcome.TheVariants.{Value, Fails, FailsAt, Steps}
use Rattle.kernel_walks.specs.AtOnce.{FailsAtOnceTell}
use Rattle.kernel_walks.specs.Split.{rule_of}
use Rattle.kernel_walks.specs.Tells.{KernelWalksTell, TellsAsSeen}
use Rattle.kernel_walks.proofs.Behind.{walks_so}
use Rattle.calls_by_system_calls.specs.SystemCalls.{Descriptors, IsNewFile, Says, change_line, close_line, closed, line_of, reply_of}
use Rattle.calls_by_system_calls.specs.WholeCalls.{AreWithin, Asks, EntriesAreChangedBySystemCalls, EntryBelow, EntryCall, FailsSo, RepliesBy}
use Rattle.calls_by_system_calls.proofs.Noted.{Enters, IsOutcome, MakesIn, is_out, no_signals, shaped}
use Rattle.calls_by_system_calls.proofs.Reaching.{Leads, as_they_are, in_root}
use Rattle.calls_by_system_calls.proofs.Standing.{AllLines, Ends, by_path, in_itself, machine_bits, one_line}

-- ---- the step of a change

end_same : (change : Change) (h : ℕ) (name : List ℕ) (error : ℕ)
    → change_ended (change_step change h name) false error ≡ change_ended (change_step change 0 []) false error
end_same changes.MakeFile h name error = refl
end_same changes.MakeDir h name error = refl
end_same (changes.MakeLink text) h name error = refl
end_same changes.RemoveFile h name error = refl
end_same changes.RemoveDir h name error = refl

no_close : (change : Change) (h : ℕ) (name : List ℕ) → walk.is_close (change_step change h name) ≡ false
no_close changes.MakeFile h name = refl
no_close changes.MakeDir h name = refl
no_close (changes.MakeLink text) h name = refl
no_close changes.RemoveFile h name = refl
no_close changes.RemoveDir h name = refl

abbrev pub close_lines : List ℕ → List Line
close_lines [] = []
close_lines (h ∷ hs) = close_line h ∷ close_lines hs

pub closes_so : (below : Below) (hs : List ℕ) (reply : Reply)
    → LeadsTo below (closes hs (gives reply)) (close_lines hs) (ends reply)
closes_so below [] reply = refl
closes_so below (h ∷ hs) reply = (refl, closes_so below hs reply)

acts_so : (below : Below) (step : StepWith ℕ) (hs : List ℕ) (end : Ended) → walk.is_close step ≡ false
    → LeadsTo below (more (acting wants.Done step hs)) (line_of step end ∷ close_lines hs)
    (ends (reply_view (reply_of end)))
acts_so below step hs ended.Done other = (refl, closes_so below hs (reply_view (reply_of ended.Done)))
acts_so below step hs (ended.Refused error) other =
    (refl, closes_so below hs (reply_view (reply_of (ended.Refused error))))
acts_so below step hs (ended.Unmade error) other =
    ((inl refl, other), closes_so below hs (reply_view (reply_of (ended.Unmade error))))
acts_so below step hs (ended.Opened fd kind) other =
    ((inl refl, other), closes_so below hs (reply_view (reply_of (ended.Opened fd kind))))
acts_so below step hs (ended.Text length) other =
    ((inl refl, other), closes_so below hs (reply_view (reply_of (ended.Text length))))

replied : (step : StepWith ℕ) (error : ℕ) (outcome : Outcome) (reply : Told) → IsOutcome error outcome
    → RepliesBy step outcome reply → (reply ≡ reply_of (change_ended step false error)) × FailsSo outcome
replied step error (Value value) reply none is =
    (is ∙ ap (λ n. reply_of (change_ended step false n)) (sym none), tt)
replied step error (FailsAt why blamed) reply same is =
    (is ∙ ap (λ n. reply_of (change_ended step false n)) same, tt)
replied step error (Fails why blamed) reply same is = absurd same
replied step error Steps reply same is = absurd is

-- the step, by whatever handles and names it is made, and these Closes lead to the reply
pub acts : (below : Below) (step made : StepWith ℕ) (hs : List ℕ) (error : ℕ) (outcome : Outcome) (reply : Told)
    → walk.is_close made ≡ false → change_ended made false error ≡ change_ended step false error
    → IsOutcome error outcome → RepliesBy step outcome reply
    → Ends below (more (acting wants.Done made hs)) (line_of made (change_ended made false error) ∷ close_lines hs)
    reply outcome
acts below step made hs error outcome reply other same is by =
    let end = change_ended made false error in
    let told = replied step error outcome reply is by in (
      told.1,
      as_they_are below (more (acting wants.Done made hs)) (line_of made end ∷ close_lines hs) (reply_view reply)
          (subst (λ r. LeadsTo below (more (acting wants.Done made hs)) (line_of made end ∷ close_lines hs)
          (ends (reply_view r))) (ap reply_of same ∙ sym told.0) (acts_so below made hs end other)),
    )

only_opened : (linked given opened regular : Bool) → linked ≡ false → given ≡ false
    → (not linked && (opened || (given && regular))) ≡ true → opened ≡ true
only_opened linked given true regular unlinked none is = refl
only_opened true given false regular unlinked none is = absurd (true≢false unlinked)
only_opened false true false regular unlinked none is = absurd (true≢false none)
only_opened false false false regular unlinked none is = absurd (true≢false (sym is))

-- what is asked of kernel_calls is this change
question_says : (below : Below) (d : Descriptors) (change : Change) (w : Wanted) (step dir : ℕ) (name text : List ℕ)
    (nofollow : ℕ) (b : Bool) (a : Answer) (lines : List Line) → Asks change step w text → w.linked ≡ false
    → w.gives ≡ false → Says below d b (question_of w (changing step dir name text) nofollow) a lines
    → lines ≡ change_line change name a.error (d.handle dir) ∷ []
question_says below d changes.MakeDir w step dir name text nofollow b a lines is unlinked none says =
    subst (λ n. Says below d b (question_of w (changing n dir name text) nofollow) a lines) is says
question_says below d (changes.MakeLink target) w step dir name text nofollow b a lines is unlinked none says =
    subst (λ t. lines ≡ change_line (changes.MakeLink t) name a.error (d.handle dir) ∷ []) is.1
    (subst (λ n. Says below d b (question_of w (changing n dir name text) nofollow) a lines) is.0 says)
question_says below d changes.RemoveFile w step dir name text nofollow b a lines is unlinked none says =
    subst (λ n. Says below d b (question_of w (changing n dir name text) nofollow) a lines) is says
question_says below d changes.RemoveDir w step dir name text nofollow b a lines is unlinked none says =
    subst (λ n. Says below d b (question_of w (changing n dir name text) nofollow) a lines) is says
question_says below d changes.MakeFile w step dir name text nofollow b a lines is unlinked none says =
    by_case (is_opened w MAKE_FILE)
    (λ is_new. subst IsNewFile
    (ap (λ t. if t then w.how else bit_or NEW nofollow) (sym (opens_it is_new))) (is.1 (opens_it is_new)))
    (subst (λ n. Says below d b (question_of w (changing n dir name text) nofollow) a lines) is.0 says)
  where
    opens_it : is_opened w MAKE_FILE ≡ true → w.opens ≡ true
    opens_it = only_opened w.linked w.gives w.opens (format w.mode == S_IFREG) unlinked none

    by_case : (t : Bool) → (t ≡ true → IsNewFile (flags_of w nofollow))
        → Says below d b (if t then opens dir name (flags_of w nofollow) (without_kind w.mode)
        else makes_node dir name w.mode w.device) a lines
        → lines ≡ change_line changes.MakeFile name a.error (d.handle dir) ∷ []
    by_case true new made = made (new refl)
    by_case false new made = made

-- ---- in the root itself

-- the same directory part is absolute as the path is
as_absolute : (r : Reading) (rule : Rule) (last : Option Part) (split : Split) → split_at r rule last ≡ Ok split
    → split.dir.absolute ≡ r.absolute
as_absolute r rule None split is = absurd cc
as_absolute r rule (Some Cur) split is = absurd cc
as_absolute r rule (Some Up) split is = absurd cc
as_absolute r rule (Some (Named bytes)) split is = by_slash (r.slash && refuses_slash rule) (nat_lt NAME_MAX (length bytes)) is
  where
    by_slash : (t long : Bool) → (if t then Err NotDir else (if long then Err TooLong
        else Ok (record { dir = dir_of r; name = bytes; slash = r.slash }))) ≡ Ok split → split.dir.absolute ≡ r.absolute
    by_slash true long e = absurd cc
    by_slash false true e = absurd cc
    by_slash false false e =
        let same : record { dir = dir_of r; name = bytes; slash = r.slash } ≡ split = cc (e) in
        ap (λ (x : Split). x.dir.absolute) (sym same)

-- no slash at the beginning leads out of the root
pub stays_in : {below : Below} {d : Descriptors} {takes_slash : Bool} (place : EntryBelow below d takes_slash)
    → is_out place.at ≡ false → leads_out place.divided.split.dir.absolute below.flags ≡ false
stays_in {below} {d} {takes_slash} place inside =
    let text = text_in place.at.slashed in
    let split = place.divided.split in
    ap (λ b. below.flags.beneath && b)
    (as_absolute (reading_of text) (rule_of takes_slash) (last_part (parts_without_slash (reading_of text))) split
    place.divided.entry.1)
    ∙ ap (λ b. b && begins_with_slash text) (sym place.is_below.beneath) ∙ inside

-- ---- the whole

-- what leads the operation to the reply is what the call tells
pub concludes : KernelWalksTell → (c : CallInHistory) (reply : Told) (outcome : Outcome) → c.room ≡ true
    → IsCallInHistory c → Ends c.below (starts c.below true c.op) c.lines reply outcome
    → FailsSo outcome × TellsAsSeen c reply
concludes tells c reply outcome room in_history is =
    let led = subst (λ r. Leads c.below (starts c.below r c.op) c.lines (reply_view reply)) (sym room) is.1 in
    (is.0, tells c reply in_history (record { told = led.told; leads = led.leads; are = led.are }))

module _ (tells : KernelWalksTell) (tell : FailsAtOnceTell) (c : CallInHistory) (d : Descriptors)
    (call : EntryCall c.below d c.op) (reply : Told)
    (by : RepliesBy (change_step call.change 0 []) call.end.outcome reply) where
  abbrev split : Split
  split = call.place.divided.split

  abbrev aim : Aim
  aim = Changes call.change split.name

  abbrev Inner : Dir → List Exchange → List ℕ → Outcome → Type 0
  Inner = MakesIn call.place.entry call.how call.step call.text

  -- the change's lines, and its directory's Close
  changed : (dir : Dir) (h : ℕ) (mid : List Exchange) (fds : List ℕ) (lines : List Line) → d.handle dir.fd ≡ h
      → Inner dir mid fds call.end.outcome → AllLines c.below d mid fds lines
      → Ends c.below (more (acting wants.Done (change_step call.change h split.name) (h ∷ [])))
      (lines ++ close_line h ∷ []) reply call.end.outcome
  changed dir h mid fds lines is inner all =
      let m = inner.0 in
      let own = one_line c.below d (question_of call.how (changing call.step dir.fd call.place.entry.name call.text)
      m.nofollow) m.answer mid fds lines m.all inner.1 all in
      let line = question_says c.below d call.change call.how call.step dir.fd call.place.entry.name call.text m.nofollow
      true m.answer lines call.asks call.unlinked call.gives own
      ∙ ap (λ n. change_line call.change n m.answer.error (d.handle dir.fd) ∷ []) call.place.divided.name
      ∙ ap (λ n. change_line call.change split.name m.answer.error n ∷ []) is in
      let made = change_step call.change h split.name in
      subst (λ ls. Ends c.below (more (acting wants.Done made (h ∷ []))) (ls ++ close_line h ∷ []) reply call.end.outcome)
      (sym line)
      (acts c.below (change_step call.change 0 []) made (h ∷ []) m.answer.error call.end.outcome reply
      (no_close call.change h split.name) (end_same call.change h split.name m.answer.error) m.is by)

  by_above : (above : Option (List ℕ)) (s : List Exchange) (lines : List Line) → IsAbove split above
      → Enters call.known call.place.at above Inner s call.end.closes call.end.outcome
      → AllLines c.below d s call.end.closes lines → AreWithin c.below d above lines c.lines
      → Ends c.below (walks c.below aim split.dir) c.lines reply call.end.outcome
  by_above None s lines parts (inl lacks) all within =
      absurd (subst (λ o. RepliesBy (change_step call.change 0 []) o reply) lacks.0 by)
  by_above None s lines parts (inr m) all within =
      let root = within.0 in
      let at_root = ap (λ (x : Dir). d.handle x.fd) m.finds.1 ∙ ap d.handle call.place.is_below.root ∙ within.1 in
      let is = changed m.dir root.other.number m.mid m.behind lines at_root m.inner
      (in_itself c.below d call.known call.place.at Inner s call.end.closes call.end.outcome lines m all) in (
        is.0,
        subst (λ ls. Leads c.below (walks c.below aim split.dir) ls (reply_view reply)) (append-nil c.lines)
            (in_root c.below aim refl (reply_view reply) split.dir (λ h. lines) c.lines [] parts
            (stays_in call.place m.finds.2) root
            (subst (λ ls. Leads c.below (more (acting wants.Done (change_step call.change root.other.number split.name)
            (root.other.number ∷ []))) ls (reply_view reply)) (sym (append-nil (lines ++ close_line root.other.number ∷ [])))
            is.1)),
      )
  by_above (Some path) s lines same enters all within =
      subst (λ ls. Ends c.below (walks c.below aim split.dir) ls reply call.end.outcome)
      (append-nil lines ∙ sym within)
      (by_path tell c d call.known call.is_on call.place.at call.place.is_below aim refl split path same.1 Inner
      (change_step call.change 0 []) reply s call.end.closes lines [] all call.end.outcome by enters
      (as_they_are c.below (ends (fault NotFound)) [] (fault NotFound) refl)
      (λ dir h names mid fds inner_lines is free inner stand.
      subst (λ ls. Ends c.below (more (acting wants.Done (change_step call.change h.number split.name) (h.number ∷ []))) ls
      reply call.end.outcome) (sym (append-nil (inner_lines ++ close_line h.number ∷ [])))
      (changed dir h.number mid fds inner_lines is inner stand)))

pub entries_are_changed : KernelWalksTell → FailsAtOnceTell → EntriesAreChangedBySystemCalls
entries_are_changed tells tell c d call reply has by room in_history =
    let split = call.place.divided.split in
    concludes tells c reply call.end.outcome room in_history
    (subst (λ t. Ends c.below t c.lines reply call.end.outcome)
    (sym (walks_so c.below c.op (rule_of call.takes_slash) call.change (text_in call.place.at.slashed) split call.is_op
    call.place.divided.entry))
    (by_above tells tell c d call reply by call.place.entry.above (without_signals call.exchanges)
    (has.lines ++ closed d call.end.closes) call.place.divided.above
    (shaped call.known call.place.at call.place.entry call.how call.step call.text call.read call.is_last call.unlinked
    call.gives (machine_bits call.known.machine call.is_on.0) call.exchanges call.end call.whole)
    (record { own = has.lines; stand = has.stand; quiet = no_signals call.exchanges; all = refl }) has.all))
