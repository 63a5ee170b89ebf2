-- An actor's calls so far, and what a turn makes of them.
use Rattle.std.proofs.Common.{◌≡◌, ◌≢◌, ◌⊎◌, ℕ, List, [], ◌∷◌, ◌++◌, Bool, true, false, Option, Some, None, not, refl, sym, ap, subst, ◌∙◌, inl, inr, append-nil, append_assoc}
use Rattle.std.specs.Option.{option_map}
use Rattle.std.proofs.lemmas.Bool.{false≢true}
use Rattle.std.proofs.lemmas.List.{map-append}
use Rattle.std.proofs.lemmas.Option.{none-some, same_Some}
use Rattle.path_text.specs.declared.errno.Errno.{Errno}
use Rattle.path_text.specs.declared.errno.Errno.TheVariants.{BadHandle}
use Rattle.tree_model.specs.declared.answer.Answer.{Answer}
use Rattle.tree_model.specs.declared.answer.Answer.TheVariants.{Refused}
use Rattle.tree_model.specs.declared.answer.Event.{Event}
use Rattle.tree_model.specs.StepWith.{StepWith}
use Rattle.tree_model.specs.declared.step.StepOf.TheVariants as steps
use Rattle.tree_model.specs.State.{State}
use Rattle.handles.specs.declared.owner.Owner.{Owner}
use Rattle.handles.specs.Objects.{StandingObject}
use Rattle.step_resolver.specs.declared.walk.Root.{Root}
use Rattle.step_resolver.specs.Order.{Line, answered, no_room, not_made, events_of}
use Rattle.step_resolver.specs.WalkHistory.{own_events}
use Rattle.step_resolver.proofs.Underway.WalkInvariant.{IsNotIn}
use Rattle.root_ops.specs.declared.aim.Wanted.TheVariants as wants
use Rattle.root_ops.specs.declared.below.Below.{Below}
use Rattle.root_ops.specs.declared.op.Op.TheVariants.{Release}
use Rattle.root_ops.specs.declared.op.Request.{Request}
use Rattle.root_ops.specs.Order.{Reply, done, fault, Doing, releasing, CallTurn, more, ends, reply_to, starts, take, due, IsUnmade, calls as calls_below, LeadsTo}
use Rattle.root_ops.specs.TurnView.{below_of}
use Rattle.root_ops.specs.View.{CallView}
use Rattle.step_resolver.proofs.DrivenWalks.{joined_events}
use Rattle.root_ops.proofs.Refusals.{refusal_needs_no_room, unmade}
use Rattle.step_machine.proofs.Runs.{leads_on}
use Rattle.race_core.specs.declared.plan.Planned.{Planned}
use Rattle.race_core.specs.declared.plan.Planned.TheVariants as plans
use Rattle.race_core.specs.declared.seat.Seat.{Seat}
use Rattle.race_core.specs.Book.{BookedHistory, tree_now, is_close, closes_nothing, answer_now, booked}
use Rattle.race_core.specs.Ledgers.{LedgerView}
use Rattle.race_core.specs.OwnHistory.{NoneCloses}
use Rattle.race_core.specs.Turns.{Luck, Stepped, stepped_by, standing_under, request_of, left_by, opened_by, outcome_of, comes, ended, begins, begins_next, begun, goes_on, turned}
use Rattle.race_core.specs.WorldCalls.{CallMade, IsMadeAs, kept_after, kept_after_all, AreMade, planned_of, outcomes_of, events_of_calls, ReleasesOwn, KeptAreReleased}
use Rattle.race_core.proofs.Booked.{close_done}
use Rattle.race_core.proofs.HeldByCalls.{opened_by_reply, CallHolds, TurnHolds, started, unmoved, holds_on, closes_open, all_more, turn_holds_more}
use Rattle.race_core.proofs.HeldOpen.{AllOpen}
use Rattle.race_core.proofs.KeptOpen.{IsOpen, kept_handles, release_of, owners_are_one, owned_at, all_owned, open_left, released_at, IsHeld, IsFreed, Spares, no_close, another_close, spares_first, held_moves, kept_still, kept_then, release_begins, done_more, asks_for_kept}
use Rattle.race_core.proofs.OwnHistory.{none_both}
use Rattle.race_core.proofs.BookMoves.{StepEffect, was_made, was_not, was_shut, effect_of, open_among_others, tree_booked, booked_moves, own_more, own_stays, BookMoves, same as book_same, one_more as book_more}

-- ---- one call more

made_more : (root : Root) (standings : List (Option StandingObject)) (calls : List CallMade) (c : CallMade) → AreMade root standings calls
    → IsMadeAs root (request_of root (kept_after_all root.owner standings calls) c.planned) c → AreMade root standings (calls ++ c ∷ [])
made_more root standings [] c made is = (is, tt)
made_more root standings (b ∷ calls) c made is = (made.0, made_more root (kept_after root.owner standings b) calls c made.1 is)

kept_more : (owner : Owner) (standings : List (Option StandingObject)) (calls : List CallMade) (c : CallMade)
    → kept_after_all owner standings (calls ++ c ∷ []) ≡ kept_after owner (kept_after_all owner standings calls) c
kept_more owner standings [] c = refl
kept_more owner standings (b ∷ calls) c = kept_more owner (kept_after owner standings b) calls c

events_more : (a : ℕ) (calls : List CallMade) (c : CallMade) → events_of_calls a (calls ++ c ∷ []) ≡ events_of_calls a calls ++ events_of a c.lines
events_more a [] c = append-nil (events_of a c.lines)
events_more a (b ∷ calls) c =
    ap (λ es. events_of a b.lines ++ es) (events_more a calls c) ∙ sym (append_assoc (events_of a b.lines) (events_of_calls a calls) (events_of a c.lines))

planned_more : (calls : List CallMade) (c : CallMade) (others : List Planned) → planned_of calls ++ c.planned ∷ others ≡ planned_of (calls ++ c ∷ []) ++ others
planned_more calls c others =
    sym (ap (λ ps. ps ++ others) (map-append (λ (b : CallMade). b.planned) calls (c ∷ [])) ∙ append_assoc (planned_of calls) (c.planned ∷ []) others)

outcomes_more : (calls : List CallMade) (c : CallMade) → outcomes_of calls ++ outcome_of c.reply ∷ [] ≡ outcomes_of (calls ++ c ∷ [])
outcomes_more calls c = sym (map-append (λ (b : CallMade). outcome_of b.reply) calls (c ∷ []))

-- ---- the calls so far

-- the plan closes only what its calls opened
abbrev pub IsOwn : List Planned → LedgerView → Type 0
IsOwn plan ledger = ReleasesOwn ledger.root.owner plan

-- the actor's root, and what its calls keep
abbrev pub spared_in : LedgerView → List ℕ
spared_in ledger = ledger.root.handle ∷ kept_handles ledger.standings

-- what a call under way holds, and what it may close
abbrev pub HeldIn : List Planned → BookedHistory → LedgerView → ℕ → Type 0
HeldIn plan book ledger = IsHeld (IsOwn plan ledger) (tree_now book) ledger.root.owner.actor (spared_in ledger)

abbrev pub FreedIn : List Planned → BookedHistory → LedgerView → ℕ → Type 0
FreedIn plan book ledger = IsFreed (IsOwn plan ledger) (tree_now book) ledger.root.owner.actor (spared_in ledger)

-- the actor's root and what its calls keep are open, and none of its events so far closes the root
pub record AreSpared (book : BookedHistory) (ledger : LedgerView) : Type 0 where
  pub are_open : AllOpen (IsOpen (tree_now book) ledger.root.owner.actor) (spared_in ledger)
  pub root : NoneCloses ledger.root.handle (own_events ledger.root.owner.actor book.events)

module _ (plan : List Planned) (book : BookedHistory) (ledger : LedgerView) (calls : List CallMade) where
  abbrev actor : ℕ
  actor = ledger.root.owner.actor

  abbrev kept_so_far : List (Option StandingObject)
  kept_so_far = kept_after_all ledger.root.owner [] calls

  -- no call is under way
  pub record IsIdle : Type 0 where
    pub planned : plan ≡ planned_of calls ++ ledger.to_come
    pub standings : ledger.standings ≡ kept_so_far
    pub own : own_events actor book.events ≡ events_of_calls actor calls
    pub spared : IsOwn plan ledger → AreSpared book ledger

  -- the next call has come to this turn
  pub record IsComing (below : Below) (turn : CallTurn) : Type 0 where
    pub next : Planned
    pub request : Request
    pub room : Bool
    pub lines : List Line
    pub planned : plan ≡ planned_of calls ++ next ∷ ledger.to_come
    pub asked : request_of ledger.root kept_so_far next ≡ Some request
    pub standings : ledger.standings ≡ left_by next kept_so_far
    pub is_below : below ≡ below_of ledger.root request.flags
    pub leads : LeadsTo below (starts below room request.op) lines turn
    pub own : own_events actor book.events ≡ events_of_calls actor calls ++ events_of actor lines
    pub holds : TurnHolds (HeldIn plan book ledger) (FreedIn plan book ledger) turn
    pub spared : IsOwn plan ledger → AreSpared book ledger
    pub releases : IsOwn plan ledger → (call : ℕ) (standing : StandingObject) → next ≡ plans.Release call → standing_under kept_so_far call ≡ Some standing
        → (turn ≡ more (releasing standing.handle)) ⊎ (turn ≡ ends done)

  abbrev pub IsAt : Option CallView → Type 0
  IsAt None = IsIdle
  IsAt (Some call) = IsComing call.below (more call.doing)

-- The calls that have ended, and the one under way with its lines so far.
pub record SoFar (plan : List Planned) (book : BookedHistory) (ledger : LedgerView) (doing : Option CallView) : Type 0 where
  pub calls : List CallMade
  pub made : AreMade ledger.root [] calls
  pub outcomes : ledger.outcomes ≡ outcomes_of calls
  pub released : IsOwn plan ledger → KeptAreReleased ledger.root.owner [] calls
  pub at : IsAt plan book ledger calls doing

abbrev pub SeatSoFar : List Planned → BookedHistory → Seat → Type 0
SeatSoFar plan book seat = SoFar plan book seat.ledger seat.doing

-- ---- a call's end

module _ (plan : List Planned) (book : BookedHistory) (ledger : LedgerView) (calls : List CallMade) (made : AreMade ledger.root [] calls) (outcomes : ledger.outcomes ≡ outcomes_of calls)
    (released : IsOwn plan ledger → KeptAreReleased ledger.root.owner [] calls) where
  -- a Release of what was kept has come to its end
  is_done : (h : ℕ) (turn : CallTurn) (reply : Reply) → turn ≡ ends reply → (turn ≡ more (releasing h)) ⊎ (turn ≡ ends done) → reply ≡ done
  is_done h turn reply e (inl more_is) = cc (e, more_is)
  is_done h turn reply e (inr is) = cc (e, is)

  spared_then : (reply : Reply) → AllOpen (HeldIn plan book ledger) (opened_by_reply reply) → IsOwn plan ledger
      → AreSpared book ledger → AreSpared book (ended ledger.root.owner ledger reply)
  spared_then reply new own spared = record {
    are_open = kept_then (IsOwn plan ledger) (tree_now book) ledger.root.owner.actor ledger.root.handle ledger.root.owner ledger.standings reply new own spared.are_open;
    root = spared.root;
  }

  settle_below : (flags_below : Below) (turn : CallTurn) (c : IsComing plan book ledger calls flags_below turn) → flags_below ≡ below_of ledger.root c.request.flags
      → (reply : Reply) → turn ≡ ends reply → SeatSoFar plan book (comes ledger (below_of ledger.root c.request.flags) (ends reply))
  settle_below below turn c same reply e =
      let call : CallMade = record { planned = c.next; room = c.room; lines = c.lines; reply = reply } in
      let led : LeadsTo (below_of ledger.root c.request.flags) (starts (below_of ledger.root c.request.flags) c.room c.request.op) c.lines (ends reply) =
      subst (λ (b : Below). LeadsTo b (starts b c.room c.request.op) c.lines (ends reply)) same (subst (λ (t : CallTurn). LeadsTo below (starts below c.room c.request.op) c.lines t) e c.leads) in
      record {
        calls = calls ++ call ∷ [];
        made = made_more ledger.root [] calls call made (subst (λ (r : Option Request). IsMadeAs ledger.root r call) (sym c.asked) led);
        outcomes = ap (λ os. os ++ outcome_of reply ∷ []) outcomes ∙ outcomes_more calls call;
        released = λ own. done_more ledger.root.owner [] calls call (released own)
            (λ k standing is there. is_done standing.handle turn reply e (c.releases own k standing is there));
        at = record {
          planned = c.planned ∙ planned_more calls call ledger.to_come;
          standings = ap (λ ss. ss ++ opened_by ledger.root.owner reply ∷ []) c.standings ∙ sym (kept_more ledger.root.owner [] calls call);
          own = c.own ∙ sym (events_more ledger.root.owner.actor calls call);
          spared = λ own. spared_then reply (subst (λ (t : CallTurn). TurnHolds (HeldIn plan book ledger) (FreedIn plan book ledger) t) e c.holds) own (c.spared own);
        };
      }

  pub settle : (below : Below) (turn : CallTurn) → IsComing plan book ledger calls below turn → SeatSoFar plan book (comes ledger below turn)
  settle below (more doing) c = record { calls = calls; made = made; outcomes = outcomes; released = released; at = c }
  settle below (ends reply) c =
      subst (λ (b : Below). SeatSoFar plan book (comes ledger b (ends reply))) (sym c.is_below) (settle_below below (ends reply) c c.is_below reply refl)

-- ---- a call's start

module _ (plan : List Planned) (book : BookedHistory) (ledger : LedgerView) (room : Bool) (calls : List CallMade) (made : AreMade ledger.root [] calls) (outcomes : ledger.outcomes ≡ outcomes_of calls)
    (released : IsOwn plan ledger → KeptAreReleased ledger.root.owner [] calls) (idle : IsIdle plan book ledger calls) where
  abbrev going_on : Planned → List Planned → LedgerView
  going_on next others = record ledger { to_come = others; standings = left_by next ledger.standings }

  -- what is to be released is kept no more, and stays open until its Close
  left_spared : (next : Planned) (others : List Planned) → IsOwn plan ledger → AreSpared book (going_on next others)
  left_spared next others own = record {
    are_open = open_left (IsOpen (tree_now book) ledger.root.owner.actor) ledger.root.handle next ledger.standings (idle.spared own).are_open;
    root = (idle.spared own).root;
  }

  may_release : (next : Planned) (others : List Planned) (request : Request) (standing : StandingObject) → plan ≡ planned_of calls ++ next ∷ others
      → request_of ledger.root ledger.standings next ≡ Some request → request.op ≡ Release standing → standing.owner ≡ ledger.root.owner
      → FreedIn plan book (going_on next others) standing.handle
  may_release next others request standing e asked is_op mine own =
      let under = asks_for_kept ledger.root ledger.standings (planned_of calls) next others request standing (subst (ReleasesOwn ledger.root.owner) e own) asked is_op mine in
      subst (λ (p : Planned). IsOpen (tree_now book) ledger.root.owner.actor standing.handle × IsNotIn standing.handle (spared_in (going_on p others))) (sym under.planned)
      (released_at (IsOpen (tree_now book) ledger.root.owner.actor) ledger.root.handle ledger.standings under.call standing (idle.spared own).are_open under.there)

  -- a Release of what is kept asks for it
  asks_for : (next : Planned) (call : ℕ) (standing : StandingObject) → next ≡ plans.Release call → standing_under (kept_after_all ledger.root.owner [] calls) call ≡ Some standing
      → request_of ledger.root ledger.standings next ≡ Some (release_of standing)
  asks_for next call standing is there =
      ap (request_of ledger.root ledger.standings) is
      ∙ ap (option_map release_of) (ap (λ ss. standing_under ss call) idle.standings ∙ there)

  release_starts : (next : Planned) (request : Request) (call : ℕ) (standing : StandingObject) → request_of ledger.root ledger.standings next ≡ Some request
      → next ≡ plans.Release call → standing_under (kept_after_all ledger.root.owner [] calls) call ≡ Some standing
      → starts (below_of ledger.root request.flags) room request.op ≡ more (releasing standing.handle)
  release_starts next request call standing asked is there =
      let same : release_of standing ≡ request = same_Some _ request (sym (asks_for next call standing is there) ∙ asked) in
      ap (λ (r : Request). starts (below_of ledger.root request.flags) room r.op) (sym same)
      ∙ release_begins (below_of ledger.root request.flags) room standing (owned_at ledger.root.owner (kept_after_all ledger.root.owner [] calls) call standing (all_owned ledger.root.owner calls [] tt) there)

  begun_as : (next : Planned) (others : List Planned) → ledger.to_come ≡ next ∷ others → (request : Option Request) → request_of ledger.root ledger.standings next ≡ request
      → SeatSoFar plan book (begins room (going_on next others) request)
  begun_as next others e None asked =
      let call : CallMade = record { planned = next; room = room; lines = []; reply = fault BadHandle } in
      let names_none : request_of ledger.root (kept_after_all ledger.root.owner [] calls) next ≡ None = ap (λ ss. request_of ledger.root ss next) (sym idle.standings) ∙ asked in
      record {
        calls = calls ++ call ∷ [];
        made = made_more ledger.root [] calls call made (subst (λ (r : Option Request). IsMadeAs ledger.root r call) (sym names_none) (refl, refl));
        outcomes = ap (λ os. os ++ outcome_of (fault BadHandle) ∷ []) outcomes ∙ outcomes_more calls call;
        released = λ own. done_more ledger.root.owner [] calls call (released own)
            (λ k standing is there. absurd (none-some _ (sym asked ∙ asks_for next k standing is there)));
        at = record {
          planned = idle.planned ∙ ap (λ ps. planned_of calls ++ ps) e ∙ planned_more calls call others;
          standings = ap (λ ss. left_by next ss ++ None ∷ []) idle.standings ∙ sym (kept_more ledger.root.owner [] calls call);
          own = idle.own ∙ sym (append-nil (events_of_calls ledger.root.owner.actor calls)) ∙ sym (events_more ledger.root.owner.actor calls call);
          spared = λ own. spared_then plan book (going_on next others) calls made outcomes released (fault BadHandle) tt own (left_spared next others own);
        };
      }
  begun_as next others e (Some request) asked =
      let below = below_of ledger.root request.flags in
      settle plan book (going_on next others) calls made outcomes released below (starts below room request.op) (record {
        next = next;
        request = request;
        room = room;
        lines = [];
        planned = idle.planned ∙ ap (λ ps. planned_of calls ++ ps) e;
        asked = ap (λ ss. request_of ledger.root ss next) (sym idle.standings) ∙ asked;
        standings = ap (left_by next) idle.standings;
        is_below = refl;
        leads = refl;
        own = idle.own ∙ sym (append-nil (events_of_calls ledger.root.owner.actor calls));
        holds = started (HeldIn plan book (going_on next others)) (FreedIn plan book (going_on next others)) below room request.op
            (λ standing is_op same. may_release next others request standing (idle.planned ∙ ap (λ ps. planned_of calls ++ ps) e) asked is_op (owners_are_one standing.owner ledger.root.owner same));
        spared = left_spared next others;
        releases = λ own call standing is there. inl (release_starts next request call standing asked is there);
      })

  begun_next : (to_come : List Planned) → ledger.to_come ≡ to_come → SeatSoFar plan book (begins_next room ledger to_come)
  begun_next [] e = record { calls = calls; made = made; outcomes = outcomes; released = released; at = idle }
  begun_next (next ∷ others) e = begun_as next others e (request_of ledger.root ledger.standings next) refl

  pub idle_begins : SeatSoFar plan book (begins_next room ledger ledger.to_come)
  idle_begins = begun_next ledger.to_come refl

begins_so_far : (plan : List Planned) (book : BookedHistory) (room : Bool) (ledger : LedgerView) (doing : Option CallView) → SoFar plan book ledger doing
    → SeatSoFar plan book (begun room ledger doing)
begins_so_far plan book room ledger None far = idle_begins plan book ledger room far.calls far.made far.outcomes far.released far.at
begins_so_far plan book room ledger (Some call) far = far

-- ---- a call's step

module _ (plan : List Planned) (book : BookedHistory) (ledger : LedgerView) (calls : List CallMade) (room : Bool) (below : Below) (doing : Doing) (c : IsComing plan book ledger calls below (more doing)) where
  abbrev a : ℕ
  a = ledger.root.owner.actor

  abbrev step : StepWith ℕ
  step = due below doing

  abbrev next_book : BookedHistory
  next_book = booked book a step

  -- it closes neither the root nor what is kept
  spares : IsOwn plan ledger → Spares (spared_in ledger) step
  spares own = on (is_close step) refl
    where
      by : (k : ℕ) → step ≡ steps.Close k → (IsUnmade below doing BadHandle × FreedIn plan book ledger k) ⊎ HeldIn plan book ledger k → Spares (spared_in ledger) step
      by k is (inl freed) = another_close k is (freed.1 own).1
      by k is (inr holds) = another_close k is (holds.1 own)

      on : (b : Bool) → is_close step ≡ b → Spares (spared_in ledger) step
      on true e =
          let shuts = closes_open (HeldIn plan book ledger) (FreedIn plan book ledger) below doing e c.holds in
          by shuts.0 shuts.1.0 shuts.1.1
      on false e = no_close e

  -- the Close of a Release is of what is open
  may_close : IsOwn plan ledger → (h : ℕ) → doing ≡ releasing h → IsOpen (tree_now book) a h
  may_close own h e =
      let freed : FreedIn plan book ledger h = subst (λ (d : Doing). CallHolds (HeldIn plan book ledger) (FreedIn plan book ledger) d) e c.holds in
      (freed own).0

  is_releasing : (h : ℕ) → (more doing ≡ more (releasing h)) ⊎ (more doing ≡ ends done) → doing ≡ releasing h
  is_releasing h (inl e) = cc (e)
  is_releasing h (inr e) = cc (e)

  release_ends : (b : Bool) (h : ℕ) → doing ≡ releasing h → IsOpen (tree_now book) a h → take below b doing (answer_now book a step) ≡ ends done
  release_ends b h e is =
      ap (λ (d : Doing). take below b d (answer_now book a (due below d))) e ∙ ap (λ (v : Answer). ends (reply_to wants.Done v)) (close_done (tree_now book) a h is)

  abbrev Comes : Stepped → Type 0
  Comes s = IsComing plan s.book ledger calls below (take below room doing s.answer)

  abbrev event : Event
  event = record { actor = a; step = step; answer = answer_now book a step }

  made_line : (b : Bool) (line : Line) → events_of a (line ∷ []) ≡ event ∷ [] → LeadsTo below (more doing) (line ∷ []) (take below b doing (answer_now book a step))
      → IsComing plan (booked book a step) ledger calls below (take below b doing (answer_now book a step))
  made_line b line is_event leads = record {
    next = c.next;
    request = c.request;
    room = c.room;
    lines = c.lines ++ line ∷ [];
    planned = c.planned;
    asked = c.asked;
    standings = c.standings;
    is_below = c.is_below;
    leads = leads_on (calls_below below) c.lines (starts below c.room c.request.op) (more doing) (line ∷ []) _ c.leads leads;
    own = own_more a book.events event refl ∙ ap (λ es. es ++ event ∷ []) c.own ∙ append_assoc (events_of_calls a calls) (events_of a c.lines) (event ∷ [])
        ∙ ap (λ es. events_of_calls a calls ++ (events_of a c.lines ++ es)) (sym is_event) ∙ ap (λ es. events_of_calls a calls ++ es) (sym (joined_events a c.lines (line ∷ [])));
    holds = holds_on (HeldIn plan book ledger) (HeldIn plan next_book ledger) (answer_now book a step) (FreedIn plan book ledger) (FreedIn plan next_book ledger) below b doing
        (held_moves (IsOwn plan ledger) (tree_now book) (tree_now next_book) a (spared_in ledger) step (answer_now book a step) (booked_moves book a step) (λ own. (c.spared own).are_open)) c.holds;
    spared = λ own. record {
      are_open = kept_still (IsOwn plan ledger) (tree_now book) (tree_now next_book) a (spared_in ledger) step (answer_now book a step) (booked_moves book a step) (spares own) (c.spared own).are_open;
      root = subst (NoneCloses ledger.root.handle) (sym (own_more a book.events event refl))
          (none_both ledger.root.handle (own_events a book.events) (event ∷ []) (c.spared own).root (spares_first ledger.root.handle (kept_handles ledger.standings) step (spares own), tt));
    };
    releases = λ own call standing is there.
        let releases_it = is_releasing standing.handle (c.releases own call standing is there) in
        inr (release_ends b standing.handle releases_it (may_close own standing.handle releases_it));
  }

  made_by : (b : Bool) → IsComing plan (booked book a step) ledger calls below (take below b doing (answer_now book a step))
  made_by true = made_line true (answered step (answer_now book a step)) refl (refl, refl)
  made_by false = made_line false (no_room step (answer_now book a step)) refl (refl, refl)

  left_out : (error : Errno) → IsUnmade below doing error → (IsOwn plan ledger → (h : ℕ) → doing ≡ releasing h → ⊥) → IsComing plan book ledger calls below (take below room doing (Refused error))
  left_out error why never = record {
    next = c.next;
    request = c.request;
    room = c.room;
    lines = c.lines ++ not_made error ∷ [];
    planned = c.planned;
    asked = c.asked;
    standings = c.standings;
    is_below = c.is_below;
    leads = leads_on (calls_below below) c.lines (starts below c.room c.request.op) (more doing) (not_made error ∷ []) _ c.leads (why, sym (refusal_needs_no_room below room doing error));
    own = c.own ∙ ap (λ es. events_of_calls a calls ++ es) (sym (append-nil (events_of a c.lines)) ∙ sym (joined_events a c.lines (not_made error ∷ [])));
    holds = holds_on (HeldIn plan book ledger) (HeldIn plan book ledger) (Refused error) (FreedIn plan book ledger) (FreedIn plan book ledger) below room doing
        (unmoved (HeldIn plan book ledger) step error) c.holds;
    spared = c.spared;
    releases = λ own call standing is there. absurd (never own standing.handle (is_releasing standing.handle (c.releases own call standing is there)));
  }

  is_no_close : (s : StepWith ℕ) → is_close s ≡ false → (h : ℕ) → s ≡ steps.Close h → ⊥
  is_no_close s e h same = false≢true (sym e ∙ ap is_close same)

  closes_some : (s : StepWith ℕ) → closes_nothing (tree_now book) a s ≡ true → is_close s ≡ true
  closes_some (steps.Open h n) e = absurd (false≢true e)
  closes_some (steps.Dup h) e = absurd (false≢true e)
  closes_some (steps.Parent h) e = absurd (false≢true e)
  closes_some (steps.ReadLink h) e = absurd (false≢true e)
  closes_some (steps.NameBelow r h) e = absurd (false≢true e)
  closes_some (steps.List h) e = absurd (false≢true e)
  closes_some (steps.Close h) e = refl
  closes_some (steps.MakeDir h n) e = absurd (false≢true e)
  closes_some (steps.MakeFile h n) e = absurd (false≢true e)
  closes_some (steps.MakeLink h n text) e = absurd (false≢true e)
  closes_some (steps.RemoveFile h n) e = absurd (false≢true e)
  closes_some (steps.RemoveDir h n) e = absurd (false≢true e)
  closes_some (steps.Rename h n k m mode) e = absurd (false≢true e)

  closes_what_is_open : (h : ℕ) → closes_nothing (tree_now book) a step ≡ true → step ≡ steps.Close h → IsOpen (tree_now book) a h → ⊥
  closes_what_is_open h nothing is open_here = false≢true (sym (ap not open_here) ∙ sym (ap (closes_nothing (tree_now book) a) is) ∙ nothing)

  shut_why : closes_nothing (tree_now book) a step ≡ true → (h : ℕ) → step ≡ steps.Close h
      → (IsUnmade below doing BadHandle × FreedIn plan book ledger h) ⊎ HeldIn plan book ledger h → IsUnmade below doing BadHandle
  shut_why nothing h is (inl why) = why.0
  shut_why nothing h is (inr holds) = absurd (closes_what_is_open h nothing is holds.0)

  by_effect : (s : Stepped) → StepEffect book a step s → Comes s
  by_effect s (was_made is) = subst Comes (sym is) (made_by room)
  by_effect s (was_not error want none is) =
      subst Comes (sym is) (left_out error (unmade below doing error want none) (λ own h e. is_no_close step none h (ap (due below) e)))
  by_effect s (was_shut nothing is) =
      let shuts = closes_open (HeldIn plan book ledger) (FreedIn plan book ledger) below doing (closes_some step nothing) c.holds in
      subst Comes (sym is)
      (left_out BadHandle (shut_why nothing shuts.0 shuts.1.0 shuts.1.1) (λ own h e. closes_what_is_open h nothing (ap (due below) e) (may_close own h e)))

  pub steps_on : (luck : Bool) → IsComing plan (stepped_by luck book a step).book ledger calls below (take below room doing (stepped_by luck book a step).answer)
  steps_on luck = by_effect (stepped_by luck book a step) (effect_of book a step luck)

goes_on_so_far : (plan : List Planned) (luck room : Bool) (book : BookedHistory) (ledger : LedgerView) (doing : Option CallView) → SoFar plan book ledger doing
    → SeatSoFar plan (goes_on luck room book ledger doing).book (goes_on luck room book ledger doing).seat
goes_on_so_far plan luck room book ledger None far = far
goes_on_so_far plan luck room book ledger (Some call) far =
    settle plan (stepped_by luck book ledger.root.owner.actor (due call.below call.doing)).book ledger far.calls far.made far.outcomes far.released call.below
    (take call.below room call.doing (stepped_by luck book ledger.root.owner.actor (due call.below call.doing)).answer)
    (steps_on plan book ledger far.calls room call.below call.doing far.at luck)

-- a turn of the actor's own
pub turns_so_far : (plan : List Planned) (luck : Luck) (book : BookedHistory) (ledger : LedgerView) (doing : Option CallView) → SoFar plan book ledger doing
    → SeatSoFar plan (turned luck book ledger doing).book (turned luck book ledger doing).seat
turns_so_far plan luck book ledger doing far =
    let seat = begun luck.start ledger doing in
    goes_on_so_far plan luck.step luck.room book seat.ledger seat.doing (begins_so_far plan book luck.start ledger doing far)

-- ---- another's turn

module _ (plan : List Planned) (book : BookedHistory) (b : ℕ) (step : StepWith ℕ) (ledger : LedgerView) (calls : List CallMade) (other : b ≢ ledger.root.owner.actor) where
  still_own : own_events ledger.root.owner.actor (booked book b step).events ≡ own_events ledger.root.owner.actor book.events
  still_own = own_stays ledger.root.owner.actor book.events _ other

  still_open : (h : ℕ) → IsOpen (tree_now book) ledger.root.owner.actor h → IsOpen (tree_now (booked book b step)) ledger.root.owner.actor h
  still_open h is =
      subst (λ (t : State). IsOpen t ledger.root.owner.actor h) (sym (tree_booked book b step)) (open_among_others (tree_now book) b ledger.root.owner.actor step (λ e. other (sym e)) h is)

  still_spared : AreSpared book ledger → AreSpared (booked book b step) ledger
  still_spared is = record {
    are_open = all_more (IsOpen (tree_now book) ledger.root.owner.actor) (IsOpen (tree_now (booked book b step)) ledger.root.owner.actor) still_open (spared_in ledger) is.are_open;
    root = subst (NoneCloses ledger.root.handle) (sym still_own) is.root;
  }

  at_among_others : (doing : Option CallView) → IsAt plan book ledger calls doing → IsAt plan (booked book b step) ledger calls doing
  at_among_others None is = record {
    planned = is.planned;
    standings = is.standings;
    own = still_own ∙ is.own;
    spared = λ own. still_spared (is.spared own);
  }
  at_among_others (Some call) is = record {
    next = is.next;
    request = is.request;
    room = is.room;
    lines = is.lines;
    planned = is.planned;
    asked = is.asked;
    standings = is.standings;
    is_below = is.is_below;
    leads = is.leads;
    own = still_own ∙ is.own;
    holds = turn_holds_more (HeldIn plan book ledger) (HeldIn plan (booked book b step) ledger) (λ h held_so. (still_open h held_so.0, held_so.1))
        (FreedIn plan book ledger) (FreedIn plan (booked book b step) ledger) (λ h freed own. (still_open h (freed own).0, (freed own).1))
        (more call.doing) is.holds;
    spared = λ own. still_spared (is.spared own);
    releases = is.releases;
  }

-- another's turn leaves them as they are
pub so_far_among_others : (plan : List Planned) (book : BookedHistory) (b : ℕ) (new : BookedHistory) (ledger : LedgerView) (doing : Option CallView) → b ≢ ledger.root.owner.actor
    → BookMoves book b new → SoFar plan book ledger doing → SoFar plan new ledger doing
so_far_among_others plan book b new ledger doing other (book_same is) far = subst (λ (k : BookedHistory). SoFar plan k ledger doing) (sym is) far
so_far_among_others plan book b new ledger doing other (book_more made_step is) far =
    subst (λ (k : BookedHistory). SoFar plan k ledger doing) (sym is)
    (record { calls = far.calls; made = far.made; outcomes = far.outcomes; released = far.released; at = at_among_others plan book b made_step ledger far.calls other doing far.at })
