-- A window that begins with a walk: the walk's part of it, and what comes after it.
use Rattle.std.specs.Prelude.{◌≡◌, ◌≢◌, ℕ, zero, suc, ◌+◌, ◌<◌, ◌≤◌, List, [], ◌∷◌, ◌++◌, true, length, take, Option, Some, None, slice_get, refl}
use Rattle.std.proofs.Common.{sym, ap, subst, ◌∙◌, le_trans, not-suc-le-zero, le_of_suc-le-suc, add-zero, arith}
use Rattle.std.proofs.Math.Nat.{le-suc}
use Rattle.std.proofs.lemmas.List.{take-append-le}
use Rattle.std.proofs.lemmas.Bool.{false≢true}
use Rattle.std.proofs.lemmas.Option.{none-some, slice_get_within}
use Rattle.tree_model.specs.declared.answer.Event.{Event}
use Rattle.tree_model.specs.State.{State, is_dir}
use Rattle.tree_model.specs.Steps.{held}
use Rattle.tree_model.specs.History.{IsLegal, after_event, after_events}
use Rattle.tree_model.proofs.StepLaws.{others_handles_stay}
use Rattle.tree_model.proofs.HistoryLaws.{IsLegal-append, IsLegal-front, IsLegal-back, after_events-append}
use Rattle.step_resolver.specs.Trail.{is_by}
use Rattle.step_resolver.specs.Order.{Handle, Line, events_of}
use Rattle.step_resolver.specs.Order as walk
use Rattle.step_resolver.specs.Headline.{IsNewHandle}
use Rattle.step_resolver.specs.WalkHistory.{WalkInHistory, IsWalkInHistory, begin_of, end_of, state_at, timeline, own_events}
use Rattle.step_resolver.proofs.DrivenWalks.{joined_events}
use Rattle.step_resolver.proofs.Underway.LegalHistory.{IsRest, one_less, whole_rest, nothing_more, lived, HappensAlone, lines_happen_alone, lines_happen_from}
use Rattle.step_resolver.proofs.Ends.EveryWalk.{tree_laws}
use Rattle.step_resolver.proofs.Ends.WalksMean.{every_walk}
use Rattle.bulk_ops.specs.WalkFirst.{LeavesEntries, walk_part, rest_part, WalkedTo, after_walk}
use Rattle.bulk_ops.proofs.OwnEvents.{Cut, cut, own_both}

-- ---- a walk from a later moment before its own first event

module _ (w : WalkInHistory) (is : IsWalkInHistory w) (others onward : List Event) (whole : w.window ≡ others ++ onward) (none : own_events w.actor others ≡ []) where
  abbrev later : WalkInHistory
  later = rest_part w others onward w.lines

  begins_later : begin_of later ≡ after_events (begin_of w) others
  begins_later = after_events-append w.opening w.before others

  parted : IsLegal (begin_of w) (others ++ onward)
  parted = subst (IsLegal (begin_of w)) whole is.legal

  -- the events of others alone
  others_are : IsWalkInHistory (walk_part w others [])
  others_are = record {
    tree = is.tree;
    legal_before = is.legal_before;
    legal = IsLegal-front (begin_of w) others onward parted;
    own = none;
    root = is.root;
    root_is_dir = is.root_is_dir;
  }

  pub later_is : IsWalkInHistory later
  later_is = record {
    tree = is.tree;
    legal_before = IsLegal-append w.opening w.before others is.legal_before (IsLegal-front (begin_of w) others onward parted);
    legal = subst (λ s. IsLegal s onward) (sym begins_later) (IsLegal-back (begin_of w) others onward parted);
    own = sym (own_both w.actor others onward ∙ ap (λ es. es ++ own_events w.actor onward) none) ∙ sym (ap (own_events w.actor) whole) ∙ is.own;
    root = ap (λ (s : State). held s w.actor w.way.root) begins_later
        ∙ nothing_more others_handles_stay w.actor others (begin_of w) none w.way.root ∙ is.root;
    root_is_dir = ap (λ (s : State). is_dir s.nodes w.root) begins_later ∙ (lived tree_laws (walk_part w others []) others_are).root_is_dir;
  }

-- ---- the walk with which a window begins

module _ (w : WalkInHistory) (is : IsWalkInHistory w) (first rest : List Line) (whole : w.lines ≡ first ++ rest) where
  pub parts : Cut w.actor w.window (events_of w.actor first) (events_of w.actor rest)
  parts = cut w.actor w.window (events_of w.actor first) (events_of w.actor rest) (is.own ∙ ap (events_of w.actor) whole ∙ joined_events w.actor first rest)

  pub first_is : IsWalkInHistory (walk_part w parts.before first)
  first_is = record {
    tree = is.tree;
    legal_before = is.legal_before;
    legal = IsLegal-front (begin_of w) parts.before parts.after (subst (IsLegal (begin_of w)) parts.whole is.legal);
    own = parts.own_before;
    root = is.root;
    root_is_dir = is.root_is_dir;
  }

  -- the walk by the first of the lines
  abbrev pub walked_to : (end : walk.Turn) → walk.LeadsTo w.way (walk.begins w.way w.path) first end → WalkedTo w end
  walked_to end leads = record {
    window = parts.before;
    later = parts.after;
    windows = parts.whole;
    ends_in_own = parts.ends_in_own;
    lines = first;
    rest = rest;
    all_lines = whole;
    own_later = parts.own_after;
    leads = leads;
    is_walk = first_is;
    headline = every_walk (walk_part w parts.before first) end first_is leads;
    begun_later = λ others onward e none.
        every_walk (rest_part w others onward first) end (later_is (walk_part w parts.before first) first_is others onward e none) leads;
  }

-- ---- what comes after a walk

-- an own event is one of the window
pub own_within : (w : WalkInHistory) (t : ℕ) → (timeline w).is_own t ≡ true → t < length w.window
own_within w t own = on (slice_get w.window t) refl
  where
    on : (o : Option Event) → slice_get w.window t ≡ o → t < length w.window
    on None q = absurd (false≢true (sym (ap (is_by w.actor) q) ∙ own))
    on (Some event) q = slice_get_within w.window t event q

pub in_front : {A : Type 0} (xs ys : List A) (t : ℕ) → t < length xs → slice_get (xs ++ ys) t ≡ slice_get xs t
in_front [] ys t less = absurd (not-suc-le-zero less)
in_front (x ∷ xs) ys zero less = refl
in_front (x ∷ xs) ys (suc t) less = in_front xs ys t (le_of_suc-le-suc less)

module _ (w : WalkInHistory) (is : IsWalkInHistory w) (end : walk.Turn) (walked : WalkedTo w end) where
  legal_after : IsLegal (after_events (begin_of w) walked.window) walked.later
  legal_after = IsLegal-back (begin_of w) walked.window walked.later (subst (IsLegal (begin_of w)) walked.windows is.legal)

  -- the lines after it happen in the window after it
  pub happens_after : HappensAlone (after_walk walked) 0 walked.rest
  happens_after =
      lines_happen_alone others_handles_stay (after_walk walked)
      (subst (λ s. IsLegal s walked.later) (sym (after_events-append w.opening w.before walked.window)) legal_after) walked.own_later

  -- the events after it are what is left of the window then
  rest_from : (before after : List Event) (m n : ℕ) (s : State) → n ≡ m + length before → IsRest w m s (before ++ after) → IsRest w n (after_events s before) after
  rest_from [] after m n s e is_rest = subst (λ k. IsRest w k s after) (sym (e ∙ add-zero m)) is_rest
  rest_from (event ∷ before) after m n s e is_rest = rest_from before after (suc m) n (after_event s event) (omega (arith, e)) (one_less is_rest)

  pub is_rest : IsRest w (length walked.window) (after_events (begin_of w) walked.window) walked.later
  is_rest = rest_from walked.window walked.later 0 (length walked.window) (begin_of w) (omega arith)
      (subst (λ es. IsRest w 0 (begin_of w) es) walked.windows (whole_rest w))

  pub state_then : state_at w (length walked.window) ≡ after_events (begin_of w) walked.window
  state_then = is_rest.states (length walked.window) 0 (omega arith)

  -- they happen in the whole window, from its length on
  pub happens_on : HappensAlone w (length walked.window) walked.rest
  happens_on = lines_happen_from others_handles_stay w walked.rest walked.later (length walked.window) (after_events (begin_of w) walked.window)
      is_rest legal_after (λ h. ap (λ (s : State). held s w.actor h) (sym state_then)) walked.own_later

  -- the walk's part of the window is as it is by itself, so each own event in it leaves all entries
  pub same_nodes : (t : ℕ) → t ≤ length walked.window → (timeline w).nodes_at t ≡ (timeline (walk_part w walked.window walked.lines)).nodes_at t
  same_nodes t le = ap (λ (es : List Event). (after_events (begin_of w) es).nodes) (ap (take t) walked.windows ∙ take-append-le t walked.window walked.later le)

  pub leaves_so : (t : ℕ) → t < length walked.window → (timeline w).is_own t ≡ true → LeavesEntries w t
  leaves_so t less own =
      same_nodes (suc t) less
      ∙ walked.headline.leaves t (sym (ap (is_by w.actor) (ap (λ (es : List Event). slice_get es t) walked.windows ∙ in_front walked.window walked.later t less)) ∙ own)
      ∙ sym (same_nodes t (le_trans (le-suc t) less))

-- where it opened a handle

module _ (w : WalkInHistory) (is : IsWalkInHistory w) (handle : Handle) (end : walk.Turn) (walked : WalkedTo w end)
    (new : IsNewHandle (walk_part w walked.window walked.lines) handle) where
  begins_there : begin_of (after_walk walked) ≡ end_of (walk_part w walked.window walked.lines)
  begins_there = after_events-append w.opening w.before walked.window

  pub there : (k : ℕ) → held (begin_of (after_walk walked)) w.actor k ≡ held (end_of (walk_part w walked.window walked.lines)) w.actor k
  there k = ap (λ (s : State). held s w.actor k) begins_there

  -- the handle is open
  pub is_held : held (begin_of (after_walk walked)) w.actor handle.number ≡ Some handle.node
  is_held = there handle.number ∙ new.is_open

  -- so is what was open before
  pub stays_held : (k x : ℕ) → held (begin_of w) w.actor k ≡ Some x → held (begin_of (after_walk walked)) w.actor k ≡ Some x
  stays_held k x e = there k ∙ new.others k other ∙ e
    where
      other : k ≢ handle.number
      other q = none-some x (sym new.fresh ∙ ap (held (begin_of w) w.actor) (sym q) ∙ e)

  pub after_is : IsWalkInHistory (after_walk walked)
  after_is = record {
    tree = is.tree;
    legal_before = IsLegal-append w.opening w.before walked.window is.legal_before walked.is_walk.legal;
    legal = subst (λ s. IsLegal s walked.later) (sym begins_there)
        (IsLegal-back (begin_of w) walked.window walked.later (subst (IsLegal (begin_of w)) walked.windows is.legal));
    own = walked.own_later;
    root = stays_held w.way.root w.root is.root;
    root_is_dir = ap (λ (s : State). is_dir s.nodes w.root) begins_there
        ∙ (lived tree_laws (walk_part w walked.window walked.lines) walked.is_walk).root_is_dir;
  }
