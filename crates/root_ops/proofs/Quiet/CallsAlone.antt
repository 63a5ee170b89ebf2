-- Every operation, where nobody else acts: alone in a history, and then in any window in which no other's event stands.
use Rattle.std.proofs.Common.{◌≡◌, ◌⊎◌, inl, inr, ℕ, List, [], ◌∷◌, Bool, true, false, if◌then◌else◌, Option, Some, None, Result, Ok, Err, slice_get, slice_set, refl, sym, ap, ◌∙◌, subst}
use Rattle.path_text.specs.declared.errno.Errno.{Errno}
use Rattle.path_text.specs.declared.errno.Errno.TheVariants.{NoMemory, BadHandle, Invalid}
use Rattle.path_text.specs.declared.path.Split.{Split}
use Rattle.path_text.specs.declared.path.Rule.{Rule}
use Rattle.path_text.specs.declared.path.Rule.TheVariants.{Drop, Refuse}
use Rattle.path_text.specs.Text.{text_fault, reading_of}
use Rattle.path_text.specs.Split.{split_of}
use Rattle.tree_model.specs.declared.answer.Answer.{Answer}
use Rattle.tree_model.specs.declared.answer.Answer.TheVariants as answer
use Rattle.tree_model.specs.StepWith.{StepWith}
use Rattle.tree_model.specs.declared.step.StepOf.TheVariants.{Close}
use Rattle.tree_model.specs.State.{State}
use Rattle.tree_model.specs.Entries.{with_some, refuse_by}
use Rattle.tree_model.specs.Steps.{Outcome, outcome, held, refused}
use Rattle.tree_model.specs.StepLaws.{is_on_entries}
use Rattle.tree_model.specs.History.{IsLegal, after_events}
use Rattle.tree_model.proofs.StepLaws.{nodes_are_left}
use Rattle.tree_model.proofs.HistoryLaws.{histories_keep_trees}
use Rattle.handles.specs.Objects.{StandingObject}
use Rattle.walk_plan.specs.declared.goal.Goal.TheVariants.{Follow, NoFollow}
use Rattle.step_resolver.specs.Meaning.{resolution, resolves}
use Rattle.step_resolver.specs.Order.{Line, answered, no_room, not_made, events_of}
use Rattle.root_ops.specs.declared.aim.Change.{Change}
use Rattle.root_ops.specs.declared.aim.Change.TheVariants as change
use Rattle.root_ops.specs.declared.aim.Wanted.TheVariants as wants
use Rattle.root_ops.specs.declared.op.Op.{Op}
use Rattle.root_ops.specs.declared.op.Op.TheVariants.{Resolve, ResolveNoFollow, ReadLink, CreateFile, CreateDir, CreateLink, RemoveFile, RemoveDir, Rename, MkdirAll, RemoveAll, Single, Release}
use Rattle.root_ops.specs.Meaning.{Caller, Whole, is_open, is_done, keeps, fails, told_by, and_then, directory_of, entry_of, renamed, tells, changes, unless_error, makes_along, clears as clears_in, op_means}
use Rattle.root_ops.specs.Acts.{change_of}
use Rattle.root_ops.specs.Meaning as meaning
use Rattle.root_ops.specs.Order.{Reply, kept, fault, more, ends, acting, releasing, unless_fault, make_way, makes, clear_in, reply_to, is_single, same_owner, begins, begins_without, starts, LeadsTo}
use Rattle.root_ops.specs.CallHistory.{begin_of, actor_of}
use Rattle.root_ops.specs.Quiet.{IsReply, IsDone, ComesTo, MadePart, ClearedPart, OpComesTo, caller_of, QuietCallsMean}
use Rattle.root_ops.proofs.Quiet.BulkAlone.{makes_alone, clears_alone, nothing_made_yet}
use Rattle.bulk_ops.specs.MakeAllOrder as make
use Rattle.bulk_ops.specs.MakeAllQuiet.{IsPart}
use Rattle.bulk_ops.proofs.OwnEvents.{all_own}
use Rattle.root_ops.specs.StepCount.{is_bulk}
use Rattle.root_ops.proofs.Quiet.WalksAlone.{HasRoot}
use Rattle.root_ops.proofs.Quiet.StepsAlone.{fails_alone, runs_short, Acts, acts_alone}
use Rattle.root_ops.proofs.Quiet.EntriesAlone.{ground_here, text_here, acts_short, faults_alone, opens_alone, reads_alone, changes_alone}
use Rattle.root_ops.proofs.Quiet.RenamesAlone.{rename_alone}

-- what the last of these lines comes to: the reply of an end
ended : (c : Caller) (told reply : Reply) (lines : List Line) (s : State) → LeadsTo c.below (ends told) lines (ends reply)
    → (told ≡ reply) × (after_events s (events_of c.actor lines) ≡ s)
ended c told reply [] s leads = (cc (leads), refl)
ended c told reply (line ∷ lines) s leads = absurd leads

module _ (c : Caller) (has : HasRoot c.tree c.actor c.below.root.handle c.root) (reply : Reply) where
  -- ---- a single step

  step_reply : (end : State) (told : Answer) → IsReply c end (told_by told) (reply_to wants.Any told)
  step_reply end (answer.Opened h x kind) = refl
  step_reply end (answer.Text text) = refl
  step_reply end (answer.Names names) = refl
  step_reply end answer.NotBelow = refl
  step_reply end (answer.Listed names) = refl
  step_reply end answer.Done = refl
  step_reply end (answer.Refused error) = refl

  single_alone : (step : StepWith ℕ) (allowed : Bool) (lines : List Line)
      → LeadsTo c.below (if allowed then more (acting wants.Any step []) else ends (fault Invalid)) lines (ends reply)
      → IsLegal c.tree (events_of c.actor lines)
      → ComesTo c (after_events c.tree (events_of c.actor lines)) true lines
      (if allowed then meaning.steps (outcome c.tree c.actor step) else record { reply = fails Invalid; nodes = c.tree.nodes }) reply
  single_alone step false lines leads legal = faults_alone c has Invalid true lines reply leads
  single_alone step true lines leads legal = on (acts_alone c.below c.actor wants.Any step [] reply c.tree lines leads legal)
    where
      on : Acts c.tree c.actor wants.Any step (after_events c.tree (events_of c.actor lines)) lines reply
          → ComesTo c (after_events c.tree (events_of c.actor lines)) true lines (meaning.steps (outcome c.tree c.actor step)) reply
      on (inl short) = inr (acts_short c c.tree (after_events c.tree (events_of c.actor lines)) true lines reply refl short)
      on (inr acted) = inl (record {
        is_reply = subst (IsReply c (after_events c.tree (events_of c.actor lines)) (told_by (outcome c.tree c.actor step).answer)) (sym acted.0)
            (step_reply (after_events c.tree (events_of c.actor lines)) (outcome c.tree c.actor step).answer);
        nodes = acted.1;
      })

  -- ---- a release

  module _ (standing : StandingObject) where
    -- Close of a handle on this node, if it is open
    abbrev closes_it : Option ℕ → Outcome
    closes_it o = with_some o (refused c.tree BadHandle) (λ x.
        record { answer = answer.Done; after = record { nodes = c.tree.nodes; handles = slice_set c.tree.handles standing.handle None } })

    close_reply : (end : State) (o : Option ℕ) (told : Answer) → told ≡ (closes_it o).answer
        → IsReply c end (meaning.closes o) (reply_to wants.Done told)
    close_reply end None told is = subst (λ an. IsReply c end (fails BadHandle) (reply_to wants.Done an)) (sym is) refl
    close_reply end (Some x) told is = subst (λ an. IsReply c end is_done (reply_to wants.Done an)) (sym is) tt

    close_answer : (o : Option ℕ) → held c.tree c.actor standing.handle ≡ o
        → (outcome c.tree c.actor (Close standing.handle)).answer ≡ (closes_it o).answer
    close_answer None e = ap (λ q. (closes_it q).answer) e
    close_answer (Some x) e = ap (λ q. (closes_it q).answer) e

    closed_alone : (room : Bool) (step : StepWith ℕ) (told : Answer) (lines all : List Line) → step ≡ Close standing.handle → told ≡ (outcome c.tree c.actor step).answer
        → LeadsTo c.below (ends (reply_to wants.Done told)) lines (ends reply)
        → ComesTo c (after_events (outcome c.tree c.actor step).after (events_of c.actor lines)) room all
        (record { reply = meaning.closes (held c.tree c.actor standing.handle); nodes = c.tree.nodes }) reply
    closed_alone room step told lines all is answers leads =
        let over = ended c (reply_to wants.Done told) reply lines (outcome c.tree c.actor step).after leads in
        let end : State = after_events (outcome c.tree c.actor step).after (events_of c.actor lines) in
        inl (record {
          is_reply = subst (IsReply c end (meaning.closes (held c.tree c.actor standing.handle))) over.0
              (close_reply end (held c.tree c.actor standing.handle) told
              (answers ∙ ap (λ st. (outcome c.tree c.actor st).answer) is ∙ close_answer (held c.tree c.actor standing.handle) refl));
          nodes = ap (λ (s : State). s.nodes) over.1 ∙ nodes_are_left c.tree c.actor step (ap is_on_entries is);
        })

    left_out : (room : Bool) (lines all : List Line) → held c.tree c.actor standing.handle ≡ None → LeadsTo c.below (ends (fault BadHandle)) lines (ends reply)
        → ComesTo c (after_events c.tree (events_of c.actor lines)) room all
        (record { reply = meaning.closes (held c.tree c.actor standing.handle); nodes = c.tree.nodes }) reply
    left_out room lines all none leads =
        subst (λ o. ComesTo c (after_events c.tree (events_of c.actor lines)) room all (record { reply = meaning.closes o; nodes = c.tree.nodes }) reply) (sym none)
        (inl (fails_alone c c.tree refl [] BadHandle lines reply leads))

    release_alone : (room own : Bool) (lines : List Line)
        → ((others : List Line) → own ≡ true → lines ≡ not_made BadHandle ∷ others → held c.tree c.actor standing.handle ≡ None)
        → LeadsTo c.below (if own then more (releasing standing.handle) else ends (kept standing)) lines (ends reply)
        → IsLegal c.tree (events_of c.actor lines)
        → ComesTo c (after_events c.tree (events_of c.actor lines)) room lines
        (record { reply = if own then meaning.closes (held c.tree c.actor standing.handle) else keeps standing; nodes = c.tree.nodes }) reply
    release_alone room false lines open_only leads legal =
        let over = ended c (kept standing) reply lines c.tree leads in
        inl (record {
          is_reply = subst (IsReply c (after_events c.tree (events_of c.actor lines)) (keeps standing)) over.0 refl;
          nodes = ap (λ (s : State). s.nodes) over.1;
        })
    release_alone room true [] open_only leads legal = cc (leads)
    release_alone room true (answered step told ∷ lines) open_only leads legal = closed_alone room step told lines (answered step told ∷ lines) leads.0 legal.0 leads.1
    release_alone room true (no_room step told ∷ lines) open_only leads legal = closed_alone room step told lines (no_room step told ∷ lines) leads.0 legal.0 leads.1
    release_alone room true (not_made error ∷ lines) open_only leads legal =
        left_out room lines (not_made error ∷ lines) (open_only lines refl (ap (λ e. not_made e ∷ lines) leads.0))
        (subst (λ e. LeadsTo c.below (ends (fault e)) lines (ends reply)) leads.0 leads.1)

  -- ---- without memory for the first turn

  lacks_alone : (found_fault : Option Errno) (whole : Option Errno → Whole) (lines : List Line)
      → ((error : Errno) → whole (Some error) ≡ record { reply = fails error; nodes = c.tree.nodes })
      → LeadsTo c.below (unless_fault found_fault (ends (fault NoMemory))) lines (ends reply)
      → ComesTo c (after_events c.tree (events_of c.actor lines)) false lines (whole found_fault) reply
  lacks_alone (Some error) whole lines failing leads =
      subst (λ m. ComesTo c (after_events c.tree (events_of c.actor lines)) false lines m reply) (sym (failing error)) (faults_alone c has error false lines reply leads)
  lacks_alone None whole lines failing leads = inr (runs_short c c.tree refl [] NoMemory lines reply leads false lines (inr (refl, refl)) refl)

  single_lacks : (step : StepWith ℕ) (allowed : Bool) (lines : List Line)
      → LeadsTo c.below (if allowed then ends (fault NoMemory) else ends (fault Invalid)) lines (ends reply)
      → ComesTo c (after_events c.tree (events_of c.actor lines)) false lines
      (if allowed then meaning.steps (outcome c.tree c.actor step) else record { reply = fails Invalid; nodes = c.tree.nodes }) reply
  single_lacks step true lines leads = inr (runs_short c c.tree refl [] NoMemory lines reply leads false lines (inr (refl, refl)) refl)
  single_lacks step false lines leads = faults_alone c has Invalid false lines reply leads

  -- ---- each operation

  -- a change of the entry of a text with this fault
  abbrev entry_whole : Change → List ℕ → Rule → Option Errno → Whole
  entry_whole change text rule f =
      changes c (and_then (refuse_by f (split_of (reading_of text) rule)) (λ at. and_then (directory_of c at.dir) (λ d. change_of change c.tree.nodes d at.name)))

  abbrev OpenOnly : Op → List Line → Type 0
  OpenOnly op lines = (standing : StandingObject) (others : List Line) → op ≡ Release standing → lines ≡ not_made BadHandle ∷ others
      → held c.tree c.actor standing.handle ≡ None

  with_memory : (op : Op) (lines : List Line) → is_bulk op ≡ false → OpenOnly op lines → LeadsTo c.below (begins c.below op) lines (ends reply) → IsLegal c.tree (events_of c.actor lines)
      → ComesTo c (after_events c.tree (events_of c.actor lines)) true lines (op_means c op) reply
  with_memory (Resolve text) lines single open_only leads legal = opens_alone c has Follow refl text (text_fault text) lines reply leads legal
  with_memory (ResolveNoFollow text) lines single open_only leads legal = opens_alone c has NoFollow refl text (text_fault text) lines reply leads legal
  with_memory (ReadLink text) lines single open_only leads legal = reads_alone c has text (text_fault text) lines reply leads legal
  with_memory (CreateFile text) lines single open_only leads legal =
      changes_alone c has change.MakeFile (text_fault text) (split_of (reading_of text) Refuse) lines reply leads legal
  with_memory (CreateDir text) lines single open_only leads legal =
      changes_alone c has change.MakeDir (text_fault text) (split_of (reading_of text) Drop) lines reply leads legal
  with_memory (CreateLink text target) lines single open_only leads legal =
      changes_alone c has (change.MakeLink target) (text_fault text) (split_of (reading_of text) Refuse) lines reply leads legal
  with_memory (RemoveFile text) lines single open_only leads legal =
      changes_alone c has change.RemoveFile (text_fault text) (split_of (reading_of text) Refuse) lines reply leads legal
  with_memory (RemoveDir text) lines single open_only leads legal =
      changes_alone c has change.RemoveDir (text_fault text) (split_of (reading_of text) Drop) lines reply leads legal
  with_memory (Rename old new mode) lines single open_only leads legal =
      rename_alone c has mode new (text_fault old) (split_of (reading_of old) Drop) lines reply leads legal
  with_memory (MkdirAll text) lines single open_only leads legal = cc (single)
  with_memory (RemoveAll text) lines single open_only leads legal = cc (single)
  with_memory (Single step) lines single open_only leads legal = single_alone step (is_single step) lines leads legal
  with_memory (Release standing) lines single open_only leads legal =
      release_alone standing true (same_owner standing.owner c.below.root.owner) lines (λ others own is. open_only standing others refl is) leads legal

  without_memory : (op : Op) (lines : List Line) → is_bulk op ≡ false → OpenOnly op lines → LeadsTo c.below (begins_without c.below op) lines (ends reply)
      → IsLegal c.tree (events_of c.actor lines)
      → ComesTo c (after_events c.tree (events_of c.actor lines)) false lines (op_means c op) reply
  without_memory (Resolve text) lines single open_only leads legal =
      lacks_alone (text_fault text) (λ f. tells c is_open (meaning.found (resolution (resolves (ground_here c has) text true f)))) lines (λ error. refl) leads
  without_memory (ResolveNoFollow text) lines single open_only leads legal =
      lacks_alone (text_fault text) (λ f. tells c is_open (meaning.found (resolution (resolves (ground_here c has) text false f)))) lines (λ error. refl) leads
  without_memory (ReadLink text) lines single open_only leads legal =
      lacks_alone (text_fault text) (λ f. text_here c has (meaning.found (resolution (resolves (ground_here c has) text false f)))) lines (λ error. refl) leads
  without_memory (CreateFile text) lines single open_only leads legal = lacks_alone (text_fault text) (entry_whole change.MakeFile text Refuse) lines (λ error. refl) leads
  without_memory (CreateDir text) lines single open_only leads legal = lacks_alone (text_fault text) (entry_whole change.MakeDir text Drop) lines (λ error. refl) leads
  without_memory (CreateLink text target) lines single open_only leads legal =
      lacks_alone (text_fault text) (entry_whole (change.MakeLink target) text Refuse) lines (λ error. refl) leads
  without_memory (RemoveFile text) lines single open_only leads legal = lacks_alone (text_fault text) (entry_whole change.RemoveFile text Refuse) lines (λ error. refl) leads
  without_memory (RemoveDir text) lines single open_only leads legal = lacks_alone (text_fault text) (entry_whole change.RemoveDir text Drop) lines (λ error. refl) leads
  without_memory (Rename old new mode) lines single open_only leads legal =
      lacks_alone (text_fault old)
      (λ f. changes c (and_then (refuse_by f (split_of (reading_of old) Drop)) (λ from. and_then (entry_of new Drop) (λ to. renamed c from to mode))))
      lines (λ error. refl) leads
  without_memory (MkdirAll text) lines single open_only leads legal = cc (single)
  without_memory (RemoveAll text) lines single open_only leads legal = cc (single)
  without_memory (Single step) lines single open_only leads legal = single_lacks step (is_single step) lines leads
  without_memory (Release standing) lines single open_only leads legal =
      release_alone standing false (same_owner standing.owner c.below.root.owner) lines (λ others own is. open_only standing others refl is) leads legal

  -- ---- bulk calls

  make_alone : (text : List ℕ) (why : Option Errno) (lines : List Line)
      → LeadsTo c.below (unless_fault why (makes (make.begins (make_way c.below) (reading_of text)))) lines (ends reply) → IsLegal c.tree (events_of c.actor lines)
      → IsDone c (after_events c.tree (events_of c.actor lines)) (unless_error c (refuse_by why (Ok (reading_of text))) (λ path. makes_along c path)) reply
      ⊎ MadePart c (after_events c.tree (events_of c.actor lines)) true lines (unless_error c (refuse_by why (Ok (reading_of text))) (λ path. makes_along c path)) reply
  make_alone text (Some error) lines leads legal = inl (fails_alone c c.tree refl [] error lines reply leads)
  make_alone text None lines leads legal = makes_alone c has reply lines legal (reading_of text) leads

  abbrev cleared_whole : Option Errno → Result Split Errno → Whole
  cleared_whole why split = unless_error c (refuse_by why split) (λ at. unless_error c (directory_of c at.dir) (λ d. clears_in c at.name d))

  make_lacks : (text : List ℕ) (why : Option Errno) (lines : List Line) → LeadsTo c.below (unless_fault why (ends (fault NoMemory))) lines (ends reply)
      → IsDone c (after_events c.tree (events_of c.actor lines)) (unless_error c (refuse_by why (Ok (reading_of text))) (λ path. makes_along c path)) reply
      ⊎ MadePart c (after_events c.tree (events_of c.actor lines)) false lines (unless_error c (refuse_by why (Ok (reading_of text))) (λ path. makes_along c path)) reply
  make_lacks text (Some error) lines leads = inl (fails_alone c c.tree refl [] error lines reply leads)
  make_lacks text None lines leads =
      let over = ended c (fault NoMemory) reply lines c.tree leads in
      inr (record {
        error = NoMemory;
        is_reply = sym over.0;
        want = refl;
        met = inr (refl, refl);
        part = subst (λ (s : State). IsPart c.tree.nodes s.nodes (makes_along c (reading_of text)).nodes) (sym over.1) (nothing_made_yet c (reading_of text));
      })

  clear_alone : (split : Result Split Errno) (why : Option Errno) (lines : List Line) → LeadsTo c.below (unless_fault why (clear_in c.below split)) lines (ends reply)
      → IsLegal c.tree (events_of c.actor lines)
      → IsDone c (after_events c.tree (events_of c.actor lines)) (cleared_whole why split) reply
      ⊎ ClearedPart c (after_events c.tree (events_of c.actor lines)) true lines (cleared_whole why split) reply
  clear_alone split (Some error) lines leads legal = inl (fails_alone c c.tree refl [] error lines reply leads)
  clear_alone (Err error) None lines leads legal = inl (fails_alone c c.tree refl [] error lines reply leads)
  clear_alone (Ok split) None lines leads legal = clears_alone c has reply lines legal split leads

  clear_lacks : (split : Result Split Errno) (why : Option Errno) (lines : List Line) → LeadsTo c.below (unless_fault why (ends (fault NoMemory))) lines (ends reply)
      → IsDone c (after_events c.tree (events_of c.actor lines)) (cleared_whole why split) reply
      ⊎ ClearedPart c (after_events c.tree (events_of c.actor lines)) false lines (cleared_whole why split) reply
  clear_lacks split (Some error) lines leads = inl (fails_alone c c.tree refl [] error lines reply leads)
  clear_lacks split None lines leads =
      let over = ended c (fault NoMemory) reply lines c.tree leads in
      inr (record {
        error = NoMemory;
        is_reply = sym over.0;
        short = inl (refl, inr (refl, refl));
        part = λ x. inl (ap (λ (s : State). slice_get s.nodes x) over.1);
      })

  -- ---- each

  pub alone : (room : Bool) (op : Op) (lines : List Line) → OpenOnly op lines → LeadsTo c.below (starts c.below room op) lines (ends reply)
      → IsLegal c.tree (events_of c.actor lines)
      → OpComesTo c (after_events c.tree (events_of c.actor lines)) room lines op reply
  alone true (MkdirAll text) lines open_only leads legal = make_alone text (text_fault text) lines leads legal
  alone false (MkdirAll text) lines open_only leads legal = make_lacks text (text_fault text) lines leads
  alone true (RemoveAll text) lines open_only leads legal = clear_alone (split_of (reading_of text) Drop) (text_fault text) lines leads legal
  alone false (RemoveAll text) lines open_only leads legal = clear_lacks (split_of (reading_of text) Drop) (text_fault text) lines leads
  alone true (Resolve text) lines open_only leads legal = with_memory (Resolve text) lines refl open_only leads legal
  alone false (Resolve text) lines open_only leads legal = without_memory (Resolve text) lines refl open_only leads legal
  alone true (ResolveNoFollow text) lines open_only leads legal = with_memory (ResolveNoFollow text) lines refl open_only leads legal
  alone false (ResolveNoFollow text) lines open_only leads legal = without_memory (ResolveNoFollow text) lines refl open_only leads legal
  alone true (ReadLink text) lines open_only leads legal = with_memory (ReadLink text) lines refl open_only leads legal
  alone false (ReadLink text) lines open_only leads legal = without_memory (ReadLink text) lines refl open_only leads legal
  alone true (CreateFile text) lines open_only leads legal = with_memory (CreateFile text) lines refl open_only leads legal
  alone false (CreateFile text) lines open_only leads legal = without_memory (CreateFile text) lines refl open_only leads legal
  alone true (CreateDir text) lines open_only leads legal = with_memory (CreateDir text) lines refl open_only leads legal
  alone false (CreateDir text) lines open_only leads legal = without_memory (CreateDir text) lines refl open_only leads legal
  alone true (CreateLink text target) lines open_only leads legal = with_memory (CreateLink text target) lines refl open_only leads legal
  alone false (CreateLink text target) lines open_only leads legal = without_memory (CreateLink text target) lines refl open_only leads legal
  alone true (RemoveFile text) lines open_only leads legal = with_memory (RemoveFile text) lines refl open_only leads legal
  alone false (RemoveFile text) lines open_only leads legal = without_memory (RemoveFile text) lines refl open_only leads legal
  alone true (RemoveDir text) lines open_only leads legal = with_memory (RemoveDir text) lines refl open_only leads legal
  alone false (RemoveDir text) lines open_only leads legal = without_memory (RemoveDir text) lines refl open_only leads legal
  alone true (Rename old new mode) lines open_only leads legal = with_memory (Rename old new mode) lines refl open_only leads legal
  alone false (Rename old new mode) lines open_only leads legal = without_memory (Rename old new mode) lines refl open_only leads legal
  alone true (Single step) lines open_only leads legal = with_memory (Single step) lines refl open_only leads legal
  alone false (Single step) lines open_only leads legal = without_memory (Single step) lines refl open_only leads legal
  alone true (Release standing) lines open_only leads legal = with_memory (Release standing) lines refl open_only leads legal
  alone false (Release standing) lines open_only leads legal = without_memory (Release standing) lines refl open_only leads legal

-- ---- in any window

pub quiet_calls_mean : QuietCallsMean
quiet_calls_mean c reply is leads quiet open_only =
    let same = sym (all_own (actor_of c) c.window quiet) ∙ is.own in
    subst (λ events. OpComesTo (caller_of c) (after_events (begin_of c) events) c.room c.lines c.op reply) (sym same)
    (alone (caller_of c)
    (record { tree = (histories_keep_trees c.opening c.before is.tree).0; root = is.root; is_dir = is.root_is_dir })
    reply c.room c.op c.lines open_only leads (subst (IsLegal (begin_of c)) same is.legal))
