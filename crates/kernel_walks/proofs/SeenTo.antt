-- A walk whose object was seen below the root is the first part of its window; and what comes after it.
use Rattle.std.specs.Prelude.{◌≡◌, ◌≢◌, ℕ, List, [], ◌∷◌, ◌++◌, reverse, Some, refl}
use Rattle.std.proofs.Common.{sym, ap, subst, ◌∙◌}
use Rattle.std.proofs.lemmas.Option.{none-some}
use Rattle.tree_model.specs.declared.answer.Event.{Event}
use Rattle.tree_model.specs.State.{State, is_dir}
use Rattle.tree_model.specs.Steps.{held}
use Rattle.tree_model.specs.History.{IsLegal, after_events}
use Rattle.tree_model.proofs.StepLaws.{others_handles_stay}
use Rattle.tree_model.proofs.HistoryLaws.{IsLegal-append, IsLegal-back, after_events-append}
use Rattle.step_resolver.specs.Headline.{IsNewHandle}
use Rattle.step_resolver.specs.Order.{Handle, Line, ending}
use Rattle.step_resolver.specs.Order as walk
use Rattle.step_resolver.specs.WalkHistory.{WalkInHistory, IsWalkInHistory, begin_of, end_of, own_events}
use Rattle.step_resolver.proofs.Underway.HandleCount.{one_more}
use Rattle.step_resolver.proofs.Underway.LegalHistory.{lived, HappensAlone, lines_happen_alone}
use Rattle.step_resolver.proofs.Ends.EveryWalk.{tree_laws}
use Rattle.bulk_ops.specs.WalkFirst.{walk_part, rest_part}
use Rattle.bulk_ops.proofs.WalkParts.{parts, first_is, later_is}
use Rattle.kernel_walks.specs.SeenBelow.{SeenBelow}
use Rattle.kernel_walks.specs.SeenTo.{SeenTo, after_seen, OneMoreHeld}
use Rattle.kernel_walks.proofs.AtQuestion.{found_asks, begins_not_found}
use Rattle.kernel_walks.proofs.SeenBelow.{asks, IsQuestion, seen_below}

-- ---- the walk

module _ (w : WalkInHistory) (is : IsWalkInHistory w) (was rest : List Line) (whole : w.lines ≡ was ++ rest) (handle : Handle) (names : List (List ℕ)) where
  -- by what is so of its part of the window, and of each that begins later
  abbrev seen_so : (told : List Line) → walk.LeadsTo w.way (walk.begins w.way w.path) told (walk.found handle names)
      → SeenBelow (walk_part w (parts w is was rest whole).before was) handle names
      → ((others onward : List Event) → (parts w is was rest whole).before ≡ others ++ onward → own_events w.actor others ≡ []
      → SeenBelow (rest_part w others onward was) handle names) → SeenTo w handle names
  seen_so told leads first later = record {
    window = (parts w is was rest whole).before;
    later = (parts w is was rest whole).after;
    windows = (parts w is was rest whole).whole;
    ends_in_own = (parts w is was rest whole).ends_in_own;
    lines = was;
    rest = rest;
    all_lines = whole;
    own_later = (parts w is was rest whole).own_after;
    told = told;
    leads = leads;
    is_walk = first_is w is was rest whole;
    seen = first;
    begun_later = later;
  }

  -- by its last question, to which the history has these names as the answer
  abbrev pub seen_at : (told front : List Line) (last : Line) (others : List (List ℕ)) → walk.LeadsTo w.way (walk.begins w.way w.path) told (walk.found handle names)
      → walk.LeadsTo w.way (walk.begins w.way w.path) front (walk.more (ending handle names [])) → IsQuestion w.way handle others last → was ≡ front ++ last ∷ [] → SeenTo w handle names
  seen_at told front last others leads led question was_so =
      seen_so told leads
      (seen_below (walk_part w (parts w is was rest whole).before was) (first_is w is was rest whole) front last handle names others was_so question led)
      (λ before onward e none. seen_below (rest_part w before onward was)
      (later_is (walk_part w (parts w is was rest whole).before was) (first_is w is was rest whole) before onward e none) front last handle names others was_so question led)

  -- the history has others' names there
  abbrev pub seen_by_kernel : (told front : List Line) (others : List (List ℕ)) → walk.LeadsTo w.way (walk.begins w.way w.path) told (walk.found handle names)
      → walk.LeadsTo w.way (walk.begins w.way w.path) front (walk.more (ending handle names [])) → was ≡ front ++ asks w.way handle others ∷ [] → SeenTo w handle names
  seen_by_kernel told front others leads led was_so = seen_at told front (asks w.way handle others) others leads led (refl, refl) was_so

  -- it was told all that the history has
  abbrev pub seen_by_steps : walk.LeadsTo w.way (walk.begins w.way w.path) was (walk.found handle names) → SeenTo w handle names
  seen_by_steps leads =
      let at = found_asks w.way handle names (walk.begins w.way w.path) was (begins_not_found w.way w.path) leads in
      seen_at was at.front at.last (reverse names) leads at.led at.question at.whole

-- ---- what comes after it

module _ (w : WalkInHistory) (is : IsWalkInHistory w) (handle : Handle) (names : List (List ℕ)) (seen : SeenTo w handle names) where
  legal_after : IsLegal (after_events (begin_of w) seen.window) seen.later
  legal_after = IsLegal-back (begin_of w) seen.window seen.later (subst (IsLegal (begin_of w)) seen.windows is.legal)

  -- the lines after it happen in the window after it
  pub happens_after : HappensAlone (after_seen seen) 0 seen.rest
  happens_after =
      lines_happen_alone others_handles_stay (after_seen seen)
      (subst (λ s. IsLegal s seen.later) (sym (after_events-append w.opening w.before seen.window)) legal_after) seen.own_later

  begins_there : begin_of (after_seen seen) ≡ end_of (walk_part w seen.window seen.lines)
  begins_there = after_events-append w.opening w.before seen.window

  pub there : (k : ℕ) → held (begin_of (after_seen seen)) w.actor k ≡ held (end_of (walk_part w seen.window seen.lines)) w.actor k
  there k = ap (λ (s : State). held s w.actor k) begins_there

  abbrev new : IsNewHandle (walk_part w seen.window seen.lines) handle
  new = seen.seen.opens.new

  -- the handle is open
  pub is_held : held (begin_of (after_seen seen)) w.actor handle.number ≡ Some handle.node
  is_held = there handle.number ∙ new.is_open

  -- so is what was open before
  pub stays_held : (k x : ℕ) → held (begin_of w) w.actor k ≡ Some x → held (begin_of (after_seen seen)) w.actor k ≡ Some x
  stays_held k x e = there k ∙ new.others k other ∙ e
    where
      other : k ≢ handle.number
      other q = none-some x (sym new.fresh ∙ ap (held (begin_of w) w.actor) (sym q) ∙ e)

  pub one_more_held : OneMoreHeld seen
  one_more_held = one_more w.actor (begin_of w).handles (begin_of (after_seen seen)).handles handle.number (λ k ne. there k ∙ new.others k ne)

  pub after_is : IsWalkInHistory (after_seen seen)
  after_is = record {
    tree = is.tree;
    legal_before = IsLegal-append w.opening w.before seen.window is.legal_before seen.is_walk.legal;
    legal = subst (λ s. IsLegal s seen.later) (sym begins_there) legal_after;
    own = seen.own_later;
    root = stays_held w.way.root w.root is.root;
    root_is_dir = ap (λ (s : State). is_dir s.nodes w.root) begins_there
        ∙ (lived tree_laws (walk_part w seen.window seen.lines) seen.is_walk).root_is_dir;
  }

  -- both end in the same tree
  pub ends_there : end_of (after_seen seen) ≡ end_of w
  ends_there =
      ap (λ s. after_events s seen.later) (after_events-append w.opening w.before seen.window)
      ∙ sym (after_events-append (begin_of w) seen.window seen.later) ∙ ap (after_events (begin_of w)) (sym seen.windows)
