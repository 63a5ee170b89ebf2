-- The end of a call while no other actor takes a step, from what the end tells of every history.
use Rattle.std.specs.Prelude.{◌≡◌, ◌≢◌, ◌⊎◌, ℕ, suc, ◌+◌, List, [], ◌∷◌, ◌++◌, Bool, true, false, length, slice_get, Some, refl}
use Rattle.std.proofs.Common.{sym, ap, subst, ◌∙◌, inl, inr, arith}
use Rattle.std.proofs.lemmas.Bool.{false≢true}
use Rattle.std.proofs.lemmas.Option.{slice_get_within}
use Rattle.path_text.specs.declared.errno.Errno.{Errno}
use Rattle.path_text.specs.declared.errno.Errno.TheVariants.{NotFound, BadHandle, Raced, NoMemory, Busy, Exists, CrossRoot, NotDir, IsDir, Invalid, TooMany, BookFull, TooLong, NotEmpty, Loop}
use Rattle.tree_model.specs.declared.answer.Event.{Event}
use Rattle.tree_model.specs.State.{place_at, object_at, child, is_dir, is_directory}
use Rattle.tree_model.specs.Trees.{IsState}
use Rattle.tree_model.specs.Steps.{held}
use Rattle.tree_model.specs.History.{IsLegal, after_events}
use Rattle.tree_model.proofs.Children.{entry}
use Rattle.tree_model.proofs.HistoryLaws.{IsLegal-back, after_events-append, histories_keep_trees, trees_begin_and_end}
use Rattle.step_resolver.specs.Asked.{is_deepest}
use Rattle.step_resolver.specs.Meaning.{Meant, object, fails}
use Rattle.step_resolver.specs.Order.{Handle, events_of}
use Rattle.step_resolver.specs.Order as walk
use Rattle.step_resolver.specs.Footprint.{IsMeant, is_want}
use Rattle.step_resolver.specs.FootprintLaws.{IsQuiet}
use Rattle.step_resolver.specs.FootprintLaws as quiet_walk
use Rattle.step_resolver.specs.Headline.{whole_meaning}
use Rattle.step_resolver.specs.WalkHistory.{WalkInHistory, IsWalkInHistory, begin_of, end_of, state_at, timeline}
use Rattle.step_resolver.proofs.Ends.WalksMean.{quiet_walks_mean}
use Rattle.step_resolver.proofs.DrivenWalks.{joined_events}
use Rattle.bulk_ops.specs.RemoveAllOrder.{Turn, more, removed, failed, walked, begins, LeadsTo}
use Rattle.bulk_ops.specs.RemoveAllTells.{removals, OnlyTakesAway, IsLastOnTarget, TellsFault, walk_part, Parts, clearing_part, TellsGivenUp, TellsWalkFailed, Tells}
use Rattle.bulk_ops.specs.RemoveAllQuiet.{is_at_or_below, cleared, cleared_rows, IsFoundAt, QuietRemoved, MeansFailure, QuietFailed, is_short, IsQuietEnd, QuietRemoveAll}
use Rattle.bulk_ops.proofs.RemovingAll.EachEnd.{every_call_tells}
use Rattle.bulk_ops.proofs.RemovingAll.Parts.{walk_removes_none}
use Rattle.bulk_ops.proofs.RemovingAll.Quiet.Gone.{placed, placed-without}
use Rattle.bulk_ops.proofs.RemovingAll.Quiet.Falls.{removal_events, removals-events, removal_events-append, falls}
use Rattle.bulk_ops.proofs.RemovingAll.Quiet.FirstStep.{after_walk, removes_none, same_rest}
use Rattle.bulk_ops.proofs.RemovingAll.Quiet.Shrinks.{objects, partly_cleared, none_taken, cleared_at, goes_stood, one_fewer}
use Rattle.bulk_ops.proofs.OwnEvents.{all_own}
use Rattle.tree_model.proofs.StepLaws.{slice_get-append}

-- ---- what is in a part of a window is in the window

behind : (xs ys : List Event) (t : ℕ) (event : Event) → slice_get ys t ≡ Some event → (k : ℕ) × (slice_get (xs ++ ys) k ≡ Some event)
behind [] ys t event e = (t, e)
behind (x ∷ xs) ys t event e = let later = behind xs ys t event e in (suc later.0, later.1)

-- ---- what a meaning says

found_at : (w : WalkInHistory) (meant : Meant) (handle : Handle) (names : List (List ℕ)) → whole_meaning w ≡ meant
    → IsMeant meant (walk.found handle names) → IsFoundAt w handle.node
found_at w (object x b reads) handle names e is = record { links = b; reads = reads; means = e ∙ ap (λ y. object y b reads) (sym is) }
found_at w (fails error reads) handle names e is = elim is [ ]

fails_so : (w : WalkInHistory) (meant : Meant) (error : Errno) → whole_meaning w ≡ meant
    → IsMeant meant (walk.failed error) → MeansFailure w error
fails_so w (object x b reads) error e is = elim is [ ]
fails_so w (fails cause reads) error e is = record { reads = reads; means = e ∙ ap (λ y. fails y reads) (sym is) }

-- ---- a call whose walk found an object

module _ (w : WalkInHistory) (target : List ℕ) (is : IsWalkInHistory w) (quiet : IsQuiet w) (shallow : is_deepest w.way.goal ≡ false) (parts : Parts w) where
  abbrev first : WalkInHistory
  first = walk_part w parts.walked.window parts.walked.lines

  abbrev second : WalkInHistory
  second = clearing_part w parts

  abbrev dir : ℕ
  dir = parts.handle.node

  first_quiet : IsQuiet first
  first_quiet t event e = quiet t event (ap (λ es. slice_get es t) parts.walked.windows ∙ slice_get-append parts.walked.window parts.walked.later t event e)

  second_quiet : IsQuiet second
  second_quiet t event e =
      let there = behind parts.walked.window parts.walked.later t event e in
      quiet there.0 event (ap (λ es. slice_get es there.0) parts.walked.windows ∙ there.1)

  walk_end : quiet_walk.IsQuietEnd first (walk.found parts.handle parts.names)
  walk_end = quiet_walks_mean first (walk.found parts.handle parts.names) parts.walked.is_walk parts.walked.leads tt first_quiet refl

  pub found : IsFoundAt w dir
  found = found_at w (whole_meaning w) parts.handle parts.names refl (walk_end.means shallow)

  begins_there : begin_of second ≡ end_of first
  begins_there = after_events-append w.opening w.before parts.walked.window

  same_nodes_there : (begin_of second).nodes ≡ (begin_of w).nodes
  same_nodes_there = ap (λ s. s.nodes) begins_there ∙ walk_end.nodes

  ends_there : end_of second ≡ end_of w
  ends_there =
      ap (λ s. after_events s parts.walked.later) begins_there
      ∙ sym (after_events-append (begin_of w) parts.walked.window parts.walked.later) ∙ ap (after_events (begin_of w)) (sym parts.walked.windows)

  state : IsState (begin_of second)
  state = (histories_keep_trees w.opening (w.before ++ parts.walked.window) is.tree).0

  legal : IsLegal (begin_of second) parts.walked.later
  legal = subst (λ s. IsLegal s parts.walked.later) (sym begins_there)
      (IsLegal-back (begin_of w) parts.walked.window parts.walked.later (subst (IsLegal (begin_of w)) parts.walked.windows is.legal))

  last_nodes : (state_at second (length parts.walked.later)).nodes ≡ (end_of w).nodes
  last_nodes = ap (λ s. s.nodes) ((trees_begin_and_end (begin_of second) parts.walked.later).1 ∙ ends_there)

  -- all removals are those of clearing
  removals_there : removals w.lines ≡ removal_events parts.walked.later
  removals_there =
      let whole : removal_events w.window ≡ removals w.lines =
      ap removal_events (sym (all_own w.actor w.window quiet) ∙ is.own) ∙ sym (removals-events w.actor w.lines) in
      let halves : removal_events w.window ≡ removal_events parts.walked.window + removal_events parts.walked.later =
      ap removal_events parts.walked.windows ∙ removal_events-append parts.walked.window parts.walked.later in
      let front : removal_events parts.walked.window ≡ removal_events (events_of w.actor parts.walked.lines) =
      ap removal_events (sym (all_own w.actor parts.walked.window first_quiet) ∙ parts.walked.is_walk.own) in
      let lines : removals w.lines ≡ removal_events (events_of w.actor parts.walked.lines) + removal_events (events_of w.actor parts.walked.rest) =
      ap removals parts.walked.all_lines ∙ removals-events w.actor (parts.walked.lines ++ parts.walked.rest)
      ∙ ap removal_events (joined_events w.actor parts.walked.lines parts.walked.rest)
      ∙ removal_events-append (events_of w.actor parts.walked.lines) (events_of w.actor parts.walked.rest) in
      let none : removals w.lines ≡ removal_events (events_of w.actor parts.walked.rest) =
      ap removals parts.walked.all_lines
      ∙ walk_removes_none w.way target parts.walked.lines parts.walked.rest (walk.begins w.way w.path) (walk.found parts.handle parts.names) parts.walked.leads
      ∙ removals-events w.actor parts.walked.rest in
      omega (arith, whole, halves, front, lines, none)

  removes_all : OnlyTakesAway second dir target → (last : IsLastOnTarget second dir target)
      → (state_at second (length parts.walked.later)).nodes ≡ cleared (begin_of second).nodes dir target
  removes_all only last =
      cleared_at second state legal second_quiet dir target only last (length parts.walked.later) (slice_get_within parts.walked.later last.when _ last.event)

  -- each node at the end is as it was, or as it is where all is cleared
  pub partly : OnlyTakesAway second dir target → (x : ℕ)
      → (slice_get (end_of w).nodes x ≡ slice_get (begin_of w).nodes x) ⊎ (slice_get (end_of w).nodes x ≡ slice_get (cleared (begin_of w).nodes dir target) x)
  partly only x =
      subst (λ ns. (slice_get (end_of w).nodes x ≡ slice_get ns x) ⊎ (slice_get (end_of w).nodes x ≡ slice_get (cleared ns dir target) x)) same_nodes_there
      (subst (λ ns. (slice_get ns x ≡ slice_get (begin_of second).nodes x) ⊎ (slice_get ns x ≡ slice_get (cleared (begin_of second).nodes dir target) x)) last_nodes
      (partly_cleared second state legal second_quiet dir target only (length parts.walked.later) x))

  -- what is no directory has nothing to be cleared
  pub nothing_cleared : OnlyTakesAway second dir target → is_dir (begin_of w).nodes dir ≡ false → (end_of w).nodes ≡ (begin_of w).nodes
  nothing_cleared only no_dir =
      sym last_nodes ∙ none_taken second state legal second_quiet dir target only no_entry (length parts.walked.later) ∙ same_nodes_there
    where
      no_entry : (x : ℕ) → place_at (begin_of second).nodes x ≢ Some (entry dir target)
      no_entry x p = false≢true (sym (ap (λ ns. is_dir ns dir) same_nodes_there ∙ no_dir) ∙ state.tree.parents_are_dirs x (entry dir target) p)

  rows_fall : OnlyTakesAway second dir target
      → placed (begin_of second).nodes ≡ removal_events parts.walked.later + placed (state_at second (length parts.walked.later)).nodes
  rows_fall only = falls (λ t. placed (state_at second t).nodes) parts.walked.later (one_fewer second state legal second_quiet dir target only)

  abbrev goes : ℕ → Bool
  goes = is_at_or_below (begin_of second).nodes (child (begin_of second).nodes dir target)

  rows_cleared : OnlyTakesAway second dir target
      → placed (begin_of second).nodes ≡ cleared_rows (begin_of second).nodes dir target + placed (cleared (begin_of second).nodes dir target)
  rows_cleared only =
      placed-without goes 0 (begin_of second).nodes
      (λ x j e g. goes_stood second state legal second_quiet dir target only x (ap goes (omega arith) ∙ g))

  pub window_is : parts.walked.later ≡ events_of w.actor parts.walked.rest
  window_is = same_rest parts.walked.window parts.walked.later (events_of w.actor parts.walked.rest)
      (sym parts.walked.windows ∙ sym (all_own w.actor w.window quiet) ∙ is.own ∙ ap (events_of w.actor) parts.walked.all_lines
      ∙ joined_events w.actor parts.walked.lines parts.walked.rest
      ∙ ap (λ es. es ++ events_of w.actor parts.walked.rest) (sym parts.walked.is_walk.own ∙ all_own w.actor parts.walked.window first_quiet))

  -- what is no directory is never cleared
  in_directory : (count : ℕ) → LeadsTo (begins w.way target w.path) w.lines (removed count) → is_dir (begin_of w).nodes dir ≡ true
  in_directory count leads = on (is_dir (begin_of second).nodes dir) refl
    where
      cleared_there : LeadsTo (walked w.way target (walk.found parts.handle parts.names)) parts.walked.rest (removed count)
      cleared_there = after_walk w.way target parts.walked.lines parts.walked.rest (walk.begins w.way w.path) (walk.found parts.handle parts.names) (removed count) parts.walked.leads
          (subst (λ ls. LeadsTo (begins w.way target w.path) ls (removed count)) parts.walked.all_lines leads)

      open_there : held (begin_of second) w.actor parts.handle.number ≡ Some dir
      open_there = ap (λ s. held s w.actor parts.handle.number) begins_there ∙ parts.walked.headline.tells.new.is_open

      on : (b : Bool) → is_dir (begin_of second).nodes dir ≡ b → is_dir (begin_of w).nodes dir ≡ true
      on true q = ap (λ ns. is_dir ns dir) (sym same_nodes_there) ∙ q
      on false q = absurd (removes_none (begin_of second) w.actor parts.handle.number dir target open_there q _ count parts.walked.rest cleared_there
          (subst (IsLegal (begin_of second)) window_is legal))

  removed_so : (count : ℕ) → LeadsTo (begins w.way target w.path) w.lines (removed count) → OnlyTakesAway second dir target → IsLastOnTarget second dir target → count ≡ removals w.lines → QuietRemoved w target count
  removed_so count leads only last counted =
      let all = removes_all only last in
      let fall = rows_fall only in
      let clear = rows_cleared only in
      let same : placed (state_at second (length parts.walked.later)).nodes ≡ placed (cleared (begin_of second).nodes dir target) = ap placed all in
      let there = removals_there in
      let rows : count ≡ cleared_rows (begin_of second).nodes dir target = omega (arith, fall, clear, same, counted, there) in
      record {
        dir = dir;
        found = found;
        directory = in_directory count leads;
        nodes = sym last_nodes ∙ all ∙ ap (λ ns. cleared ns dir target) same_nodes_there;
        count_is = rows ∙ ap (λ ns. cleared_rows ns dir target) same_nodes_there;
      }

  no_directory : OnlyTakesAway second dir target → is_directory ((timeline second).object_of dir) ≡ false → QuietFailed w NotDir
  no_directory only none = record {
    nodes = sym last_nodes ∙ none_taken second state legal second_quiet dir target only no_entry (length parts.walked.later) ∙ same_nodes_there;
    why = inr (record { is_not_dir = refl; dir = dir; found = found; no_dir = ap (λ ns. is_dir ns dir) (sym same_nodes_there) ∙ no_dir });
  }
    where
      no_dir : is_dir (begin_of second).nodes dir ≡ false
      no_dir =
          ap is_directory (sym (objects second state legal second_quiet dir target only (length parts.walked.later) dir)
          ∙ ap (λ s. object_at s.nodes dir) (trees_begin_and_end (begin_of second) parts.walked.later).1) ∙ none

      no_entry : (x : ℕ) → place_at (begin_of second).nodes x ≢ Some (entry dir target)
      no_entry x p = false≢true (sym no_dir ∙ state.tree.parents_are_dirs x (entry dir target) p)

  given_up : (error : Errno) → OnlyTakesAway second dir target → TellsFault second dir error → is_short error ≡ false → QuietFailed w error
  given_up NotDir only fault enough = no_directory only fault
  given_up TooMany only fault enough = absurd (false≢true (sym enough))
  given_up Busy only fault enough = absurd (false≢true (sym enough))
  given_up NoMemory only fault enough = absurd (false≢true (sym enough))
  given_up BookFull only fault enough = absurd (false≢true (sym enough))
  given_up NotFound only fault enough = absurd fault
  given_up BadHandle only fault enough = absurd fault
  given_up Raced only fault enough = absurd fault
  given_up Exists only fault enough = absurd fault
  given_up CrossRoot only fault enough = absurd fault
  given_up IsDir only fault enough = absurd fault
  given_up Invalid only fault enough = absurd fault
  given_up TooLong only fault enough = absurd fault
  given_up NotEmpty only fault enough = absurd fault
  given_up Loop only fault enough = absurd fault

-- ---- the whole

no_want : (error : Errno) → is_short error ≡ false → is_want error ≡ false
no_want NotFound e = refl
no_want BadHandle e = refl
no_want Raced e = refl
no_want NoMemory e = e
no_want Busy e = refl
no_want Exists e = refl
no_want CrossRoot e = refl
no_want NotDir e = refl
no_want IsDir e = refl
no_want Invalid e = refl
no_want TooMany e = e
no_want BookFull e = e
no_want TooLong e = refl
no_want NotEmpty e = refl
no_want Loop e = refl

walk_failed : (w : WalkInHistory) (error : Errno) → IsWalkInHistory w → IsQuiet w → is_deepest w.way.goal ≡ false → TellsWalkFailed w error → is_short error ≡ false → QuietFailed w error
walk_failed w error is quiet shallow failure enough =
    let end = quiet_walks_mean w (walk.failed error) is failure.walked tt quiet (no_want error enough) in
    record { nodes = end.nodes; why = inl (fails_so w (whole_meaning w) error refl (end.means shallow)) }

quietly : (w : WalkInHistory) (target : List ℕ) (end : Turn) → IsWalkInHistory w → IsQuiet w → is_deepest w.way.goal ≡ false
    → LeadsTo (begins w.way target w.path) w.lines end → Tells w target end → IsQuietEnd w target end
quietly w target (more call) is quiet shallow leads tells = tt
quietly w target (removed count) is quiet shallow leads tells =
    removed_so w target is quiet shallow tells.parts count leads tells.entries tells.last tells.counted
quietly w target (failed error) is quiet shallow leads tells = on tells.why
  where
    on : TellsWalkFailed w error ⊎ TellsGivenUp w target error → is_short error ≡ false → QuietFailed w error
    on (inl failure) enough = walk_failed w error is quiet shallow failure enough
    on (inr given) enough = given_up w target is quiet shallow given.parts error given.entries given.fault enough

pub quiet_remove_all : QuietRemoveAll
quiet_remove_all w target end is shallow leads quiet = quietly w target end is quiet shallow leads (every_call_tells w target end is shallow leads)
