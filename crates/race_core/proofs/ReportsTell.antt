-- The calls of an actor, and the walks in them, in a report.
use Rattle.std.proofs.Common.{◌≡◌, ◌⊎◌, ℕ, Bool, true, false, if◌then◌else◌, List, [], ◌∷◌, ◌++◌, Option, Some, None, reverse, refl, sym, ap, ◌∙◌, subst, inl, inr, append-nil, append_assoc}
use Rattle.std.proofs.lemmas.Bool.{false≢true}
use Rattle.std.proofs.lemmas.List.{reverse-reverse, map-append}
use Rattle.path_text.specs.declared.errno.Errno.{Errno}
use Rattle.path_text.specs.declared.errno.Errno.TheVariants.{NoMemory, BadHandle}
use Rattle.path_text.specs.Reading.{Reading}
use Rattle.path_text.specs.Text.{text_fault, reading_of}
use Rattle.tree_model.specs.declared.answer.Event.{Event}
use Rattle.tree_model.specs.History.{IsLegal, after_events}
use Rattle.tree_model.specs.Steps.{held}
use Rattle.tree_model.proofs.HistoryLaws.{IsLegal-front, IsLegal-back}
use Rattle.handles.specs.declared.owner.Owner.{Owner}
use Rattle.handles.specs.Objects.{StandingObject}
use Rattle.walk_plan.specs.declared.goal.Goal.{Goal}
use Rattle.walk_plan.specs.declared.goal.Goal.TheVariants.{Follow, NoFollow, Deepest}
use Rattle.step_resolver.specs.declared.walk.Root.{Root}
use Rattle.step_resolver.specs.Asked.{is_deepest}
use Rattle.step_resolver.specs.Order.{Way, Line, not_made, Turn, found, partial, failed, begins, events_of}
use Rattle.step_resolver.specs.Order as walk
use Rattle.step_resolver.specs.Headline.{EveryWalk}
use Rattle.step_resolver.specs.WalkHistory.{WalkInHistory, IsWalkInHistory, own_events}
use Rattle.bulk_ops.proofs.OwnEvents.{cut, own_both}
use Rattle.root_ops.specs.CallHistory.{IsCallInHistory, RepliesWith}
use Rattle.root_ops.specs.declared.aim.Aim.TheVariants.{Opens}
use Rattle.root_ops.specs.declared.below.Below.{Below}
use Rattle.root_ops.specs.declared.op.Op.{Op}
use Rattle.root_ops.specs.declared.op.Op.TheVariants.{Release}
use Rattle.root_ops.specs.declared.op.Request.{Request}
use Rattle.root_ops.specs.Order.{Reply, opened, link_text, done, count, stepped, kept, fault, releasing, CallTurn, more, ends, same_owner, starts, walked, unless_fault, walks, LeadsTo}
use Rattle.root_ops.specs.declared.reply.Reply.{Reply as Told}
use Rattle.root_ops.specs.declared.reply.Reply.TheVariants.{Opened, Text, Done, Count, Stepped, Kept, Fault}
use Rattle.root_ops.specs.EachCall.{EachCallTells}
use Rattle.root_ops.specs.FreeHandles.{FourAreEnough}
use Rattle.root_ops.specs.TurnView.{below_of}
use Rattle.root_ops.specs.View.{reply_view}
use Rattle.step_resolver.proofs.DrivenWalks.{joined_events}
use Rattle.root_ops.proofs.Handles.WalkParts.{HasRoot, IsEnded, walk_ends}
use Rattle.root_ops.proofs.Replies.{at_its_end, no_lines}
use Rattle.race_core.specs.declared.plan.ActorPlan.{ActorPlan}
use Rattle.race_core.specs.declared.plan.Planned.{Planned}
use Rattle.race_core.specs.declared.plan.Planned.TheVariants as planned
use Rattle.race_core.specs.OwnHistory.{NoneCloses, IsHistory}
use Rattle.race_core.specs.Turns.{request_of, outcome_of}
use Rattle.race_core.specs.WorldCalls.{WholeRun, opening_of, root_of, CallMade, IsMadeAs, kept_after, kept_after_all, AreMade, planned_of, outcomes_of, events_of_calls, ReleasesOwn, KeptAreReleased, ActorsCalls}
use Rattle.race_core.specs.WorldLaws.{IsWindow, CallsHaveWindows, walk_in, WalkTells, WalksInReports, call_in, CallTells, CallsInReports, FourAreEnoughInReports, IsResolve, way_of_resolve, walk_of_resolve, ResolveTells, ResolvesInReports, ResolvesAlone}
use Rattle.race_core.proofs.KeptOpen.{owners_are_one, asks_for_kept, done_at}
use Rattle.race_core.proofs.OwnHistory.{around, skip, none_first, root_at}
use Rattle.race_core.proofs.WorldSoFar.{calls_in_order}

-- ---- windows

module _ (r : WholeRun) (i : ℕ) (plan : ActorPlan) (of : ActorsCalls r i plan) (own before window after : List Event)
    (closes_own : ReleasesOwn (root_of r i).owner plan.calls) (is : IsWindow r i own before window after) where
  legal_whole : IsLegal (opening_of r) (before ++ (window ++ after))
  legal_whole = subst (IsLegal (opening_of r)) is.whole of.history.legal

  legal_before : IsLegal (opening_of r) before
  legal_before = IsLegal-front (opening_of r) before (window ++ after) legal_whole

  legal_in : IsLegal (after_events (opening_of r) before) window
  legal_in = IsLegal-front (after_events (opening_of r) before) window after (IsLegal-back (opening_of r) before (window ++ after) legal_whole)

  -- the root is open as the window begins
  has_root : (below : Below) → below.root ≡ root_of r i → HasRoot below of.node (after_events (opening_of r) before)
  has_root below same =
      let h = (root_of r i).handle in
      let spared : NoneCloses h (own_events i before ++ own_events i (window ++ after)) =
      subst (NoneCloses h) (ap (own_events i) is.whole ∙ own_both i before (window ++ after)) (of.spared closes_own) in
      let none = none_first h (own_events i before) (own_events i (window ++ after)) spared in
      root_at below (opening_of r) r.events before of.node (subst (λ (root : Root). IsHistory (opening_of r) r.events root of.node) (sym same) of.history)
      (subst (λ (root : Root). NoneCloses root.handle (own_events root.owner.actor before)) (sym same) none)

-- ---- walks

walk_tells : EveryWalk → (r : WholeRun) (i : ℕ) (plan : ActorPlan) (of : ActorsCalls r i plan) (way : Way) (path : Reading) (lines : List Line) (end : Turn)
    (before window after : List Event) → ReleasesOwn (root_of r i).owner plan.calls → way.root ≡ (root_of r i).handle
    → IsWindow r i (events_of i lines) before window after → walk.LeadsTo way (begins way path) lines end
    → WalkTells (walk_in r i of.node way path lines before window) end
walk_tells every r i plan of way path lines end before window after closes_own same_root is leads =
    let own = events_of i lines in
    let has = has_root r i plan of own before window after closes_own is (below_of (root_of r i) way.flags) refl in
    let there : IsWalkInHistory (walk_in r i of.node way path lines before window) = record {
      tree = of.history.tree;
      legal_before = legal_before r i plan of own before window after closes_own is;
      legal = legal_in r i plan of own before window after closes_own is;
      own = is.own;
      root = ap (held (after_events (opening_of r) before) i) same_root ∙ has.root;
      root_is_dir = has.root_is_dir;
    } in
    record { is_walk = there; leads = leads; headline = every (walk_in r i of.node way path lines before window) end there leads }

pub walks_in_reports : EveryWalk → WalksInReports
walks_in_reports every r i plan of way path lines end before window after closes_own same_root is leads =
    walk_tells every r i plan of way path lines end before window after closes_own same_root is leads

-- ---- calls

events_of_both : (a : ℕ) (calls others : List CallMade) → events_of_calls a (calls ++ others) ≡ events_of_calls a calls ++ events_of_calls a others
events_of_both a [] others = refl
events_of_both a (c ∷ calls) others =
    ap (λ es. events_of a c.lines ++ es) (events_of_both a calls others) ∙ sym (append_assoc (events_of a c.lines) (events_of_calls a calls) (events_of_calls a others))

-- a call among others was made as it asked
made_in : (root : Root) (standings : List (Option StandingObject)) (earlier : List CallMade) (c : CallMade) (later : List CallMade) → AreMade root standings (earlier ++ c ∷ later)
    → IsMadeAs root (request_of root (kept_after_all root.owner standings earlier) c.planned) c
made_in root standings [] c later made = made.0
made_in root standings (b ∷ earlier) c later made = made_in root (kept_after root.owner standings b) earlier c later made.1

not_done : (reply : Reply) → reply ≡ done → reply ≡ fault BadHandle → ⊥
not_done reply is_done is_fault = cc (is_done, is_fault)

-- a Release whose Close wasn't made is of what is the owner's, and fails
refused_release : (below : Below) (room : Bool) (standing : StandingObject) (reply : Reply) (others : List Line)
    → LeadsTo below (starts below room (Release standing)) (not_made BadHandle ∷ others) (ends reply) → (standing.owner ≡ below.root.owner) × (reply ≡ fault BadHandle)
refused_release below room standing reply others leads = by_room room leads
  where
    by_owner : (b : Bool) → same_owner standing.owner below.root.owner ≡ b → LeadsTo below (if b then more (releasing standing.handle) else ends (kept standing)) (not_made BadHandle ∷ others) (ends reply)
        → (standing.owner ≡ below.root.owner) × (reply ≡ fault BadHandle)
    by_owner true e led = (owners_are_one standing.owner below.root.owner e, sym (at_its_end below (fault BadHandle) reply others led.1))
    by_owner false e led = absurd led

    by_room : (b : Bool) → LeadsTo below (starts below b (Release standing)) (not_made BadHandle ∷ others) (ends reply) → (standing.owner ≡ below.root.owner) × (reply ≡ fault BadHandle)
    by_room true led = by_owner (same_owner standing.owner below.root.owner) refl led
    by_room false led = by_owner (same_owner standing.owner below.root.owner) refl led

module _ (r : WholeRun) (i : ℕ) (plan : ActorPlan) (of : ActorsCalls r i plan) (earlier : List CallMade) (c : CallMade) (later : List CallMade) (request : Request)
    (split : of.calls ≡ earlier ++ c ∷ later) where
  it_leads : request_of (root_of r i) (kept_after_all (root_of r i).owner [] earlier) c.planned ≡ Some request
      → LeadsTo (below_of (root_of r i) request.flags) (starts (below_of (root_of r i) request.flags) c.room request.op) c.lines (ends c.reply)
  it_leads asked =
      subst (λ (q : Option Request). IsMadeAs (root_of r i) q c) asked (made_in (root_of r i) [] earlier c later (subst (AreMade (root_of r i) []) split of.made))

  -- the Close of a Release that it asks for is made
  closes_what_is_open : ReleasesOwn (root_of r i).owner plan.calls → request_of (root_of r i) (kept_after_all (root_of r i).owner [] earlier) c.planned ≡ Some request
      → (standing : StandingObject) (others : List Line) → request.op ≡ Release standing → c.lines ≡ not_made BadHandle ∷ others → ⊥
  closes_what_is_open closes_own asked standing others is_op are =
      let planned_so : plan.calls ≡ planned_of earlier ++ c.planned ∷ planned_of later =
      sym of.planned ∙ ap planned_of split ∙ map-append (λ (b : CallMade). b.planned) earlier (c ∷ later) in
      let led = it_leads asked in
      let led_so : LeadsTo (below_of (root_of r i) request.flags) (starts (below_of (root_of r i) request.flags) c.room (Release standing)) (not_made BadHandle ∷ others) (ends c.reply) =
      subst (λ (ls : List Line). LeadsTo (below_of (root_of r i) request.flags) (starts (below_of (root_of r i) request.flags) c.room (Release standing)) ls (ends c.reply)) are
      (subst (λ (o : Op). LeadsTo (below_of (root_of r i) request.flags) (starts (below_of (root_of r i) request.flags) c.room o) c.lines (ends c.reply)) is_op led) in
      let refused_so = refused_release (below_of (root_of r i) request.flags) c.room standing c.reply others led_so in
      let under = asks_for_kept (root_of r i) (kept_after_all (root_of r i).owner [] earlier) (planned_of earlier) c.planned (planned_of later) request standing
      (subst (ReleasesOwn (root_of r i).owner) planned_so closes_own) asked is_op refused_so.0 in
      let is_done = done_at (root_of r i).owner [] earlier c later (subst (KeptAreReleased (root_of r i).owner []) split (of.released closes_own)) under.call standing under.planned under.there in
      not_done c.reply is_done refused_so.1

  call_tells : EachCallTells → (reply : Told) (before window after : List Event) → ReleasesOwn (root_of r i).owner plan.calls
      → request_of (root_of r i) (kept_after_all (root_of r i).owner [] earlier) c.planned ≡ Some request → reply_view reply ≡ c.reply
      → IsWindow r i (events_of i c.lines) before window after → CallTells (call_in r i of.node c request before window) reply
  call_tells each reply before window after closes_own asked is_reply is =
      let own = events_of i c.lines in
      let below = below_of (root_of r i) request.flags in
      let the_call = call_in r i of.node c request before window in
      let has = has_root r i plan of own before window after closes_own is below refl in
      let placed : IsCallInHistory the_call = record {
        tree = of.history.tree;
        legal_before = legal_before r i plan of own before window after closes_own is;
        legal = legal_in r i plan of own before window after closes_own is;
        own = is.own;
        root = has.root;
        root_is_dir = has.root_is_dir;
      } in
      let replies : RepliesWith the_call (reply_view reply) =
      subst (λ (o : Reply). LeadsTo below (starts below c.room request.op) c.lines (ends o)) (sym is_reply) (it_leads asked) in
      record {
        is_call = placed;
        replies = replies;
        tells = each the_call reply placed replies;
        closes = λ standing others is_op are. absurd (closes_what_is_open closes_own asked standing others is_op are);
      }

-- a reply as a program gets it: what was opened is the owner's
told_as : (owner : Owner) (reply : Reply) → (told : Told) × (reply_view told ≡ reply)
told_as owner (opened handle names) = (
  Opened (record { owner = owner; handle = handle.number; node = handle.node; kind = handle.kind; names = reverse names }),
  ap (opened handle) (reverse-reverse names),
)
told_as owner (link_text text) = (Text text, refl)
told_as owner done = (Done, refl)
told_as owner (count n) = (Count n, refl)
told_as owner (stepped answer) = (Stepped answer, refl)
told_as owner (kept standing) = (Kept standing, refl)
told_as owner (fault error) = (Fault error, refl)

pub calls_have_windows : CallsHaveWindows
calls_have_windows r i plan of earlier c later split =
    let its_own = of.own ∙ ap (events_of_calls i) split ∙ events_of_both i earlier (c ∷ later) in
    let parts = around i r.events (events_of_calls i earlier) (events_of i c.lines) (events_of_calls i later) its_own in
    let skipped = skip i parts.window in
    let told = told_as (root_of r i).owner c.reply in
    record {
      before = parts.before ++ skipped.others;
      window = skipped.rest;
      after = parts.after;
      is_window = record {
        whole = parts.whole ∙ ap (λ es. parts.before ++ (es ++ parts.after)) skipped.whole
            ∙ ap (λ es. parts.before ++ es) (append_assoc skipped.others skipped.rest parts.after)
            ∙ sym (append_assoc parts.before skipped.others (skipped.rest ++ parts.after));
        own = skipped.same_own ∙ parts.own_window;
      };
      own_before = own_both i parts.before skipped.others ∙ ap (λ es. own_events i parts.before ++ es) skipped.none_own
          ∙ append-nil (own_events i parts.before) ∙ parts.own_before;
      first = skipped.first;
      reply = told.0;
      is_reply = told.1;
    }

pub calls_in_reports : EachCallTells → CallsInReports
calls_in_reports each r i plan of earlier c later request reply before window after closes_own split asked is_reply is =
    call_tells r i plan of earlier c later request split each reply before window after closes_own asked is_reply is

pub four_are_enough : EachCallTells → FourAreEnough → FourAreEnoughInReports
four_are_enough each enough r i plan of earlier c later request reply before window after closes_own split asked is_reply is few free too_many =
    let told = calls_in_reports each r i plan of earlier c later request reply before window after closes_own split asked is_reply is in
    enough (call_in r i of.node c request before window) reply told.is_call told.replies few free too_many

-- ---- one Resolve

starts_so : (below : Below) (op : Op) (goal : Goal) (path : List ℕ) → IsResolve op goal path
    → (starts below true op ≡ unless_fault (text_fault path) (walks below (Opens goal) (reading_of path)))
    × (starts below false op ≡ unless_fault (text_fault path) (ends (fault NoMemory)))
starts_so below op Follow path is = (ap (starts below true) is, ap (starts below false) is)
starts_so below op NoFollow path is = (ap (starts below true) is, ap (starts below false) is)
starts_so below op Deepest path is = absurd is

shallow : (op : Op) (goal : Goal) (path : List ℕ) → IsResolve op goal path → is_deepest goal ≡ false
shallow op Follow path is = refl
shallow op NoFollow path is = refl
shallow op Deepest path is = absurd is

module _ (every : EveryWalk) (r : WholeRun) (i : ℕ) (plan : ActorPlan) (of : ActorsCalls r i plan) (c : CallMade) (request : Request) (goal : Goal) (path : List ℕ)
    (before window after : List Event) (closes_own : ReleasesOwn (root_of r i).owner plan.calls) (is : IsWindow r i (events_of i c.lines) before window after)
    (whole_goal : is_deepest goal ≡ false) where
  abbrev below : Below
  below = below_of (root_of r i) request.flags

  abbrev way : Way
  way = way_of_resolve r i request goal

  abbrev the_walk : WalkInHistory
  the_walk = walk_of_resolve r i of.node c request goal path before window

  abbrev Says : Reply → Type 0
  Says told = ResolveTells the_walk c path (outcome_of told)

  -- the walk's lines are all that the call was told
  walk_so : (first rest : List Line) (end : Turn) (reply : Reply) → c.lines ≡ first ++ rest → walk.LeadsTo way (begins way (reading_of path)) first end
      → LeadsTo below (ends reply) rest (ends c.reply) → WalkTells the_walk end
  walk_so first rest end reply whole leads onward =
      let all_first : c.lines ≡ first = whole ∙ ap (λ ls. first ++ ls) (no_lines below reply c.reply rest onward) ∙ append-nil first in
      walk_tells every r i plan of way (reading_of path) c.lines end before window after closes_own refl is
      (subst (λ ls. walk.LeadsTo way (begins way (reading_of path)) ls end) (sym all_first) leads)

  by_end : (room : Bool) (first rest : List Line) (end : Turn) → c.lines ≡ first ++ rest → walk.LeadsTo way (begins way (reading_of path)) first end → IsEnded end
      → LeadsTo below (walked below room (Opens goal) end) rest (ends c.reply) → Says c.reply
  by_end room first rest (walk.more w) whole leads ended onward = absurd ended
  by_end room first rest (found handle names) whole leads ended onward =
      let tells = walk_so first rest (found handle names) (opened handle names) whole leads onward in
      subst Says (at_its_end below (opened handle names) c.reply rest onward)
      (handle.number, subst (λ (ns : List (List ℕ)). WalkTells the_walk (found handle ns)) (sym (reverse-reverse names)) tells)
  by_end room first rest (partial handle names others) whole leads ended onward =
      let two = cut i window (events_of i first) (events_of i rest) (is.own ∙ ap (events_of i) whole ∙ joined_events i first rest) in
      let in_first : IsWindow r i (events_of i first) before two.before (two.after ++ after) = record {
        whole = is.whole ∙ ap (λ es. before ++ (es ++ after)) two.whole ∙ ap (λ es. before ++ es) (append_assoc two.before two.after after);
        own = two.own_before;
      } in
      let tells = walk_tells every r i plan of way (reading_of path) first (partial handle names others) before two.before (two.after ++ after) closes_own refl in_first leads in
      absurd (false≢true (sym whole_goal ∙ tells.headline.tells.goal))
  by_end room first rest (failed error) whole leads ended onward =
      let tells = walk_so first rest (failed error) (fault error) whole leads onward in
      subst Says (at_its_end below (fault error) c.reply rest onward) (inr tells)

  at_once : (error : Errno) → (text_fault path ≡ Some error) ⊎ ((c.room ≡ false) × (error ≡ NoMemory)) → LeadsTo below (ends (fault error)) c.lines (ends c.reply) → Says c.reply
  at_once error why leads =
      subst Says (at_its_end below (fault error) c.reply c.lines leads) (inl (record { why = why; no_step = no_lines below (fault error) c.reply c.lines leads }))

  by_text : (why : Option Errno) → text_fault path ≡ why
      → LeadsTo below (unless_fault why (walks below (Opens goal) (reading_of path))) c.lines (ends c.reply) → Says c.reply
  by_text (Some error) e leads = at_once error (inl e) leads
  by_text None e leads =
      let walked_on = walk_ends below (Opens goal) c.reply c.lines true (begins way (reading_of path)) leads in
      by_end walked_on.room walked_on.first walked_on.rest walked_on.end walked_on.whole walked_on.leads walked_on.ended walked_on.onward

  by_want : (why : Option Errno) → text_fault path ≡ why → c.room ≡ false → LeadsTo below (unless_fault why (ends (fault NoMemory))) c.lines (ends c.reply) → Says c.reply
  by_want (Some error) e lacks leads = at_once error (inl e) leads
  by_want None e lacks leads = at_once NoMemory (inr (lacks, refl)) leads

  resolve_says : (op : Op) → IsResolve op goal path → (room : Bool) → c.room ≡ room → LeadsTo below (starts below room op) c.lines (ends c.reply) → Says c.reply
  resolve_says op asks true is leads =
      by_text (text_fault path) refl (subst (λ (t : CallTurn). LeadsTo below t c.lines (ends c.reply)) (starts_so below op goal path asks).0 leads)
  resolve_says op asks false is leads =
      by_want (text_fault path) refl is (subst (λ (t : CallTurn). LeadsTo below t c.lines (ends c.reply)) (starts_so below op goal path asks).1 leads)

pub resolves_in_reports : EveryWalk → ResolvesInReports
resolves_in_reports every r i plan of earlier c later request goal path before window after closes_own split asks is_op is =
    let asked = ap (request_of (root_of r i) (kept_after_all (root_of r i).owner [] earlier)) asks in
    resolve_says every r i plan of c request goal path before window after closes_own is
    (shallow request.op goal path is_op) request.op is_op c.room refl (it_leads r i plan of earlier c later request split asked)

-- an actor's only call
only_call : (calls : List CallMade) (p : Planned) → planned_of calls ≡ p ∷ [] → (c : CallMade) × ((calls ≡ c ∷ []) × (c.planned ≡ p))
only_call [] p e = cc (e)
only_call (c ∷ []) p e = let same : c.planned ≡ p = cc (e) in (c, (refl, same))
only_call (b ∷ c ∷ calls) p e = cc (e)

no_release : (op : Op) (goal : Goal) (path : List ℕ) (standing : StandingObject) → IsResolve op goal path → op ≡ Release standing → ⊥
no_release op Follow path standing is e = cc (is, e)
no_release op NoFollow path standing is e = cc (is, e)
no_release op Deepest path standing is e = is

pub resolves_alone : EveryWalk → ResolvesAlone
resolves_alone every r i plan request goal path run there calls is_op =
    let of = calls_in_order r i plan run there in
    let one = only_call of.calls (planned.Call request) (of.planned ∙ calls) in
    let closes_own : ReleasesOwn (root_of r i).owner plan.calls =
    subst (ReleasesOwn (root_of r i).owner) (sym calls) ((λ standing other. absurd (no_release request.op goal path standing is_op other)), tt) in
    let all_own : own_events i r.events ≡ events_of i one.0.lines = of.own ∙ ap (events_of_calls i) one.1.0 ∙ append-nil (events_of i one.0.lines) in
    record {
      of = of;
      call = one.0;
      only = one.1.0;
      replied = of.replies ∙ ap (λ cs. Some (outcomes_of cs)) one.1.0;
      tells = λ before window after is. resolves_in_reports every r i plan of [] one.0 [] request goal path before window after closes_own one.1.0 one.1.1 is_op
          (record { whole = is.whole; own = is.own ∙ all_own });
    }
