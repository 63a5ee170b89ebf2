-- The bulk calls where nobody else acts, from what bulk_ops says of them.
use Rattle.std.proofs.Common.{◌≡◌, ◌⊎◌, inl, inr, ℕ, zero, suc, ◌+◌, ◌≤◌, List, [], ◌∷◌, Bool, true, false, if◌then◌else◌, length, Some, slice_get, refl, sym, ap, ◌∙◌, subst, arith, length-append, append-nil}
use Rattle.std.specs.Option.{option_map}
use Rattle.std.proofs.lemmas.Bool.{false≢true}
use Rattle.std.proofs.lemmas.Option.{none-some, same_Some}
use Rattle.path_text.specs.declared.errno.Errno.{Errno}
use Rattle.path_text.specs.declared.errno.Errno.TheVariants.{NoMemory, Busy, NotDir, TooMany, BookFull}
use Rattle.path_text.specs.declared.path.Split.{Split as SplitPath}
use Rattle.path_text.specs.Reading.{Reading}
use Rattle.tree_model.specs.declared.answer.Answer.TheVariants.{Refused}
use Rattle.tree_model.specs.declared.answer.Event.{Event}
use Rattle.tree_model.specs.StepWith.{StepWith}
use Rattle.tree_model.specs.State.{State, Stands, object_at, is_dir}
use Rattle.tree_model.specs.Steps.{kind_of}
use Rattle.tree_model.specs.History.{IsLegal, after_events}
use Rattle.walk_plan.specs.declared.goal.Goal.{Goal}
use Rattle.walk_plan.specs.declared.goal.Goal.TheVariants.{Follow, Deepest}
use Rattle.step_resolver.specs.Meaning.{resolution}
use Rattle.step_resolver.specs.Deepest as meant_path
use Rattle.step_resolver.specs.Order.{Way, Handle, Line, answered, no_room, not_made, events_of}
use Rattle.step_resolver.specs.Order as walk
use Rattle.step_resolver.specs.View.{way_from}
use Rattle.step_resolver.specs.Footprint.{is_want}
use Rattle.step_resolver.specs.Deepest.{reading_deepest}
use Rattle.step_resolver.specs.Failures.{TellsError}
use Rattle.step_resolver.specs.Headline.{IsNewHandle}
use Rattle.step_resolver.specs.WalkHistory.{WalkInHistory, IsWalkInHistory}
use Rattle.step_resolver.proofs.DrivenWalks.{all_own, by_own}
use Rattle.bulk_ops.specs.declared.remove_all.clearing.TheConstants.{CLEARING_STEPS_MAX}
use Rattle.bulk_ops.specs.MakeAllOrder as make
use Rattle.bulk_ops.specs.MakeAllOrder.{rest_fault}
use Rattle.bulk_ops.specs.MakeAllTells.{DeepestAt, Reach, not_begun, begun, MadeEnd, UnbegunCause, of_walk, no_directory, of_rest, MakingCause, for_want, full, gone, missing, not_directory, astray, Cause}
use Rattle.bulk_ops.specs.MakeAllQuiet as made_quiet
use Rattle.bulk_ops.specs.MakeAllQuiet.{MakeMeant, refuses, gives, make_means, IsPart}
use Rattle.bulk_ops.specs.RemoveAllOrder as remove
use Rattle.bulk_ops.specs.RemoveAllTells as clear_tells
use Rattle.bulk_ops.specs.RemoveAllTells.{TellsFault, Parts, TellsWalkFailed, TellsGivenUp}
use Rattle.bulk_ops.specs.RemoveAllQuiet.{cleared, cleared_rows, is_short, IsFoundAt, QuietRemoved, QuietFailed, MeansFailure, MeansNoDirectory}
use Rattle.bulk_ops.proofs.MakeAllEnds.{makes_tell}
use Rattle.bulk_ops.proofs.MakingAlone.WalkFirst.{nothing_made, quiet_makes_mean}
use Rattle.bulk_ops.proofs.RemovingAll.EachEnd.{every_call_tells}
use Rattle.bulk_ops.proofs.RemovingAll.Quiet.Whole.{quiet_remove_all, found, partly, nothing_cleared, window_is}
use Rattle.bulk_ops.proofs.TableErrors.{AreOthers, no_fault, rest_other}
use Rattle.root_ops.specs.Meaning.{Caller, Whole, is_open, counts, fails, made, makes_along, clears as clears_in, unless_error, directory_of}
use Rattle.root_ops.specs.Meaning as meaning
use Rattle.root_ops.specs.Order.{Reply, opened, count, fault, ends, make_way, makes, removing_turn, LeadsTo}
use Rattle.root_ops.specs.Quiet.{MetWant, MetBy, IsOpened, IsDone, MadePart, ClearedPart, IsAmong}
use Rattle.root_ops.proofs.Bulk.{makes_led, clears_led}
use Rattle.root_ops.proofs.Handles.AfterWalks.{same_reply}
use Rattle.root_ops.proofs.Quiet.WalksAlone.{HasRoot, met_by, want_met, walked_alone}
use Rattle.root_ops.proofs.Quiet.EntriesAlone.{met_behind}

-- ---- wants that were met

-- an event that was refused for want of handles is one of the lines'
refused_met : (a : ℕ) (lines : List Line) (t : ℕ) (step : StepWith ℕ) → slice_get (events_of a lines) t ≡ Some (record { actor = a; step = step; answer = Refused TooMany })
    → MetWant lines TooMany
refused_met a [] t step e = absurd (none-some _ e)
refused_met a (answered made answer ∷ lines) zero step e = inl (refl, ap (λ (v : Event). v.answer) (same_Some _ _ e))
refused_met a (answered made answer ∷ lines) (suc t) step e = inr (refused_met a lines t step e)
refused_met a (no_room made answer ∷ lines) zero step e = inl (inr (refl, ap (λ (v : Event). v.answer) (same_Some _ _ e)))
refused_met a (no_room made answer ∷ lines) (suc t) step e = inr (refused_met a lines t step e)
refused_met a (not_made error ∷ lines) t step e = inr (refused_met a lines t step e)

-- what the rest of a path is refused for is no want
no_wants : AreOthers is_want
no_wants = record { missing = refl; there = refl; no_dir = refl; dir = refl; invalid = refl; long = refl; full = refl }

-- where nothing was made yet, that is a part of what is meant
pub nothing_made_yet : (c : Caller) (path : Reading) → IsPart c.tree.nodes c.tree.nodes (makes_along c path).nodes
nothing_made_yet c path = on (reading_deepest (record { nodes = c.tree.nodes; root = c.root; flags = c.below.flags }) path)
  where
    at_all : (m : MakeMeant) → made_quiet.IsPartOf c.tree.nodes c.tree.nodes m → IsPart c.tree.nodes c.tree.nodes (made c m).nodes
    at_all (gives x nodes) part = part
    at_all (refuses error) same = record { new = []; left_out = []; is_after = sym (append-nil c.tree.nodes); is_whole = sym (append-nil c.tree.nodes) }

    on : (deep : meant_path.Deep) → IsPart c.tree.nodes c.tree.nodes (made c (make_means c.tree.nodes deep)).nodes
    on deep = at_all (make_means c.tree.nodes deep) (nothing_made c.tree.nodes deep)

module _ (c : Caller) (has : HasRoot c.tree c.actor c.below.root.handle c.root) (reply : Reply) (lines : List Line) (legal : IsLegal c.tree (events_of c.actor lines)) where
  abbrev end : State
  end = after_events c.tree (events_of c.actor lines)

  -- the call's lines, on this way along this path
  abbrev here : Way → Reading → WalkInHistory
  here way path = record {
    opening = c.tree;
    before = [];
    window = events_of c.actor lines;
    actor = c.actor;
    way = way;
    root = c.root;
    path = path;
    lines = lines;
  }

  is_here : (goal : Goal) (path : Reading) → IsWalkInHistory (here (way_from c.below.root goal c.below.flags) path)
  is_here goal path = record {
    tree = has.tree;
    legal_before = tt;
    legal = legal;
    own = all_own c.actor lines;
    root = has.root;
    root_is_dir = has.is_dir;
  }

  -- ---- all that is missing is made

  module _ (path : Reading) where
    abbrev w : WalkInHistory
    w = here (make_way c.below) path

    abbrev meant : MakeMeant
    meant = make_means c.tree.nodes (reading_deepest (record { nodes = c.tree.nodes; root = c.root; flags = c.below.flags }) path)

    new_of : (handle : Handle) (names : List (List ℕ)) (reach : Reach w) → MadeEnd w reach handle names → IsNewHandle w handle
    new_of handle names not_begun ended = ended.found.opens.new
    new_of handle names (begun p) ended = ended.new

    is_opened : (x : ℕ) (handle : Handle) (names : List (List ℕ)) → IsNewHandle w handle → handle.node ≡ x → Stands end.nodes c.root x names → IsOpened c end x handle names
    is_opened x handle names new same stands = record {
      node = same;
      is_open = new.is_open ∙ ap Some same;
      fresh = new.fresh;
      kind = ap (λ y. option_map kind_of (object_at end.nodes y)) (sym same) ∙ ap (option_map kind_of) new.is_what ∙ ap Some new.kind;
      stands = stands;
    }

    met_unbegun : (error : Errno) → is_want error ≡ true → UnbegunCause w error → MetWant lines error
    met_unbegun error want (of_walk failed) = met_by lines w refl error want failed.true_once
    met_unbegun error want (no_directory handle names walked other) = absurd (false≢true want)
    met_unbegun error want (of_rest p is) = absurd (no_fault is_want (rest_fault p.rest) error
        (rest_other is_want no_wants p.rest) want is)

    met_making : (p : DeepestAt w) (error : Errno) → is_want error ≡ true → MakingCause w p error → MetWant lines error
    met_making p error want (for_want is tells) = want_met lines error tells
    met_making p error want (full t step event told limit) = refused_met c.actor lines t step event
    met_making p error want (gone dir name h t at was is) = absurd (false≢true want)
    met_making p error want (missing taken) = absurd (false≢true want)
    met_making p error want (not_directory dir name t x at is no_dir) = absurd (false≢true want)
    met_making p error want (astray passed to t names down at is) = absurd (false≢true want)

    met_cause : (reach : Reach w) (error : Errno) → is_want error ≡ true → Cause w reach error → MetWant lines error
    met_cause not_begun error want cause = met_unbegun error want cause
    met_cause (begun p) error want cause = met_making p error want cause.1

    some_made : (m : MakeMeant) → made_quiet.IsPartOf c.tree.nodes end.nodes m → IsPart c.tree.nodes end.nodes (made c m).nodes
    some_made (gives x nodes) part = part
    some_made (refuses error) same =
        record { new = []; left_out = []; is_after = same ∙ sym (append-nil c.tree.nodes); is_whole = sym same ∙ sym (append-nil end.nodes) }

    made_so : (m : MakeMeant) (handle : Handle) (names : List (List ℕ)) → IsNewHandle w handle → made_quiet.MakingComesTo c.tree.nodes end.nodes c.root m (make.made handle names)
        → IsDone c end (made c m) (opened handle names)
    made_so (gives x nodes) handle names new (inl is) = record { is_reply = is_opened x handle names new is.0 is.1.1; nodes = is.1.0 }
    made_so (refuses error) handle names new (inl is) = absurd is
    made_so m handle names new (inr short) = absurd short

    failed_so : (m : MakeMeant) (error : Errno) (reach : Reach w) → Cause w reach error → made_quiet.MakingComesTo c.tree.nodes end.nodes c.root m (make.failed error)
        → IsDone c end (made c m) (fault error) ⊎ MadePart c end true lines (made c m) (fault error)
    failed_so (gives x nodes) error reach cause (inl is) = absurd is
    failed_so (refuses told) error reach cause (inl is) = inl (record { is_reply = is.0; nodes = is.1 })
    failed_so m error reach cause (inr short) =
        inr (record { error = error; is_reply = refl; want = short.0; met = inl (met_cause reach error short.0 cause); part = some_made m short.1 })

    abbrev Comes : Reply → Type 0
    Comes told = IsDone c end (makes_along c path) told ⊎ MadePart c end true lines (makes_along c path) told

    by_end : (last : make.MakeTurn) → make.LeadsTo (make_way c.below) (make.begins (make_way c.below) path) lines last → makes last ≡ ends reply → Comes reply
    by_end (make.more call) led is = cc (is)
    by_end (make.made handle names) led is =
        let tells = makes_tell w (make.made handle names) (is_here Deepest path) led in
        subst Comes (same_reply (opened handle names) reply is)
        (inl (made_so meant handle names (new_of handle names tells.reach tells.ends)
        (quiet_makes_mean w (make.made handle names) (is_here Deepest path) refl led tt (λ t event e. by_own c.actor lines t event e))))
    by_end (make.failed error) led is =
        let tells = makes_tell w (make.failed error) (is_here Deepest path) led in
        subst Comes (same_reply (fault error) reply is)
        (failed_so meant error tells.reach tells.cause
        (quiet_makes_mean w (make.failed error) (is_here Deepest path) refl led tt (λ t event e. by_own c.actor lines t event e)))

    pub makes_alone : LeadsTo c.below (makes (make.begins (make_way c.below) path)) lines (ends reply) → Comes reply
    makes_alone leads = let by = makes_led c.below (make.begins (make_way c.below) path) lines reply leads in by_end by.end by.led by.is_reply

  -- ---- all below an entry is removed

  module _ (split : SplitPath) where
    abbrev way : Way
    way = way_from c.below.root Follow c.below.flags

    abbrev v : WalkInHistory
    v = here way split.dir

    abbrev whole : Whole
    whole = unless_error c (directory_of c split.dir) (λ d. clears_in c split.name d)

    abbrev Clears : Reply → Type 0
    Clears told = IsDone c end whole told ⊎ ClearedPart c end true lines whole told

    -- what the directory part means, and so what is meant
    at_directory : (d : ℕ) → IsFoundAt v d → whole ≡ clears_in c split.name d
    at_directory d found = ap (λ m. unless_error c (meaning.found (resolution m)) (λ x. clears_in c split.name x)) found.means

    abbrev if_dir : ℕ → Bool → Whole
    if_dir d b =
        if b then record { reply = counts (cleared_rows c.tree.nodes d split.name); nodes = cleared c.tree.nodes d split.name }
        else record { reply = fails NotDir; nodes = c.tree.nodes }

    removed_so : (n : ℕ) → QuietRemoved v split.name n → IsDone c end whole (count n)
    removed_so n q =
        subst (λ m. IsDone c end m (count n)) (sym (at_directory q.dir q.found ∙ ap (if_dir q.dir) q.directory))
        (record { is_reply = q.count_is; nodes = q.nodes })

    failed_as_meant : (error : Errno) → QuietFailed v error → IsDone c end whole (fault error)
    failed_as_meant error q = on q.why
      where
        on : MeansFailure v error ⊎ MeansNoDirectory v error → IsDone c end whole (fault error)
        on (inl why) =
            subst (λ m. IsDone c end m (fault error)) (sym (ap (λ m. unless_error c (meaning.found (resolution m)) (λ x. clears_in c split.name x)) why.means))
            (record { is_reply = refl; nodes = q.nodes })
        on (inr why) =
            subst (λ m. IsDone c end m (fault error)) (sym (at_directory why.dir why.found ∙ ap (if_dir why.dir) why.no_dir))
            (record { is_reply = why.is_not_dir; nodes = q.nodes })

    quiet : (t : ℕ) (event : Event) → slice_get (events_of c.actor lines) t ≡ Some event → event.actor ≡ c.actor
    quiet t event e = by_own c.actor lines t event e

    -- ---- it ran short

    abbrev Short : Errno → Type 0
    Short error = ((is_want error ≡ true) × MetBy true lines error) ⊎ ((error ≡ Busy) × (CLEARING_STEPS_MAX ≤ length lines))

    untouched : end.nodes ≡ c.tree.nodes → IsAmong c.tree.nodes end.nodes whole.nodes
    untouched same x = inl (ap (λ ns. slice_get ns x) same)

    -- a walk that failed is all that the call did
    walk_short : (error : Errno) → is_short error ≡ true → (error ≡ Busy → ⊥) → is_want error ≡ true
    walk_short NoMemory enough not_busy = refl
    walk_short BookFull enough not_busy = refl
    walk_short TooMany enough not_busy = refl
    walk_short Busy enough not_busy = absurd (not_busy refl)
    walk_short error enough not_busy = enough

    not_busy : (error : Errno) → TellsError v error → error ≡ Busy → ⊥
    not_busy error tells e = subst (TellsError v) e tells

    of_walk_failed : (error : Errno) → is_short error ≡ true → TellsWalkFailed v error → ClearedPart c end true lines whole (fault error)
    of_walk_failed error enough failure =
        let want = walk_short error enough (not_busy error failure.true_once) in
        let walked = walked_alone c.tree c.actor c.root way split.dir has refl lines (walk.failed error) tt failure.walked legal in
        record {
          error = error;
          is_reply = refl;
          short = inl (want, inl (met_by lines v refl error want failure.true_once));
          part = untouched walked.nodes;
        }

    part_of : (parts : Parts v) → clear_tells.OnlyTakesAway (clear_tells.clearing_part v parts) parts.handle.node split.name → IsFoundAt v parts.handle.node
        → IsAmong c.tree.nodes end.nodes whole.nodes
    part_of parts only found =
        subst (λ m. IsAmong c.tree.nodes end.nodes m.nodes) (sym (at_directory parts.handle.node found)) (on (is_dir c.tree.nodes parts.handle.node) refl)
      where
        on : (b : Bool) → is_dir c.tree.nodes parts.handle.node ≡ b → IsAmong c.tree.nodes end.nodes (clears_in c split.name parts.handle.node).nodes
        on true q =
            subst (λ m. IsAmong c.tree.nodes end.nodes m.nodes) (sym (ap (if_dir parts.handle.node) q))
            (λ x. partly v split.name (is_here Follow split.dir) quiet refl parts only x)
        on false q =
            subst (λ m. IsAmong c.tree.nodes end.nodes m.nodes) (sym (ap (if_dir parts.handle.node) q))
            (λ x. inl (ap (λ ns. slice_get ns x) (nothing_cleared v split.name (is_here Follow split.dir) quiet refl parts only q)))

    -- a want of the clearing's lines is one of the call's
    module _ (parts : Parts v) where
      within : (error : Errno) → MetWant parts.walked.rest error → MetWant lines error
      within error met = subst (λ ls. MetWant ls error) (sym parts.walked.all_lines) (met_behind parts.walked.lines parts.walked.rest error met)

      longer : CLEARING_STEPS_MAX ≤ length parts.walked.rest → CLEARING_STEPS_MAX ≤ length lines
      longer enough =
          let all : length lines ≡ length parts.walked.lines + length parts.walked.rest = ap length parts.walked.all_lines ∙ length-append parts.walked.lines parts.walked.rest in
          omega (arith, enough, all)

      given_up_for : (error : Errno) → is_short error ≡ true → TellsFault (clear_tells.clearing_part v parts) parts.handle.node error → Short error
      given_up_for NoMemory enough tells = inl (refl, inl (within NoMemory (want_met parts.walked.rest NoMemory tells)))
      given_up_for BookFull enough tells = inl (refl, inl (within BookFull (want_met parts.walked.rest BookFull tells)))
      given_up_for TooMany enough tells =
          inl (
            refl,
            inl (within TooMany (refused_met c.actor parts.walked.rest tells.when tells.step
                (ap (λ es. slice_get es tells.when) (sym (window_is v split.name (is_here Follow split.dir) quiet refl parts)) ∙ tells.event))),
          )
      given_up_for Busy enough tells = inr (refl, longer tells.enough)
      given_up_for error enough tells = absurd (false≢true enough)

    found_there : (parts : Parts v) → IsFoundAt v parts.handle.node
    found_there parts = found v split.name (is_here Follow split.dir) quiet refl parts

    of_clearing : (error : Errno) → is_short error ≡ true → TellsGivenUp v split.name error → ClearedPart c end true lines whole (fault error)
    of_clearing error enough given = record {
      error = error;
      is_reply = refl;
      short = given_up_for given.parts error enough given.fault;
      part = part_of given.parts given.entries (found_there given.parts);
    }

    failed_so_then : (error : Errno) → (b : Bool) → is_short error ≡ b → (is_short error ≡ false → QuietFailed v error)
        → TellsWalkFailed v error ⊎ TellsGivenUp v split.name error → Clears (fault error)
    failed_so_then error false e q why = inl (failed_as_meant error (q e))
    failed_so_then error true e q (inl failure) = inr (of_walk_failed error e failure)
    failed_so_then error true e q (inr given) = inr (of_clearing error e given)

    cleared_end : (last : remove.Turn) → remove.LeadsTo (remove.begins way split.name split.dir) lines last → removing_turn last ≡ ends reply → Clears reply
    cleared_end (remove.more call) led is = cc (is)
    cleared_end (remove.removed n) led is =
        subst Clears (same_reply (count n) reply is)
        (inl (removed_so n (quiet_remove_all v split.name (remove.removed n) (is_here Follow split.dir) refl led quiet)))
    cleared_end (remove.failed error) led is =
        subst Clears (same_reply (fault error) reply is)
        (failed_so_then error (is_short error) refl (quiet_remove_all v split.name (remove.failed error) (is_here Follow split.dir) refl led quiet)
        (every_call_tells v split.name (remove.failed error) (is_here Follow split.dir) refl led).why)

    pub clears_alone : LeadsTo c.below (removing_turn (remove.begins way split.name split.dir)) lines (ends reply) → Clears reply
    clears_alone leads = let by = clears_led c.below (remove.begins way split.name split.dir) lines reply leads in cleared_end by.end by.led by.is_reply
