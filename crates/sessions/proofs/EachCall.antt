-- One session's call in a closed history.
use Rattle.std.proofs.Common.{◌≡◌, ◌⊎◌, ◌==◌, ℕ, Bool, true, false, if◌then◌else◌, None, List, [], ◌∷◌, ◌++◌, sym, ap, ◌∙◌, subst, inl, inr, append_assoc, eq-eqb}
use Rattle.std.proofs.lemmas.Bool.{false≢true}
use Rattle.path_text.specs.declared.errno.Errno.TheVariants.{BadHandle}
use Rattle.tree_model.specs.declared.answer.Event.{Event}
use Rattle.tree_model.specs.State.{State}
use Rattle.tree_model.specs.Steps.{held}
use Rattle.handles.specs.Objects.{StandingObject}
use Rattle.step_resolver.specs.Order.{Line, not_made, events_of}
use Rattle.step_resolver.specs.WalkHistory.{own_events}
use Rattle.event_log.specs.Handles.{open_after}
use Rattle.root_ops.specs.declared.below.Below.{Below}
use Rattle.root_ops.specs.declared.op.Op.{Op}
use Rattle.root_ops.specs.declared.op.Op.TheVariants.{Release}
use Rattle.root_ops.specs.declared.op.Request.{Request}
use Rattle.root_ops.specs.declared.reply.Reply.{Reply as Told}
use Rattle.root_ops.specs.CallHistory.{CallInHistory, begin_of, IsCallInHistory}
use Rattle.root_ops.specs.EachCall.{EachCallTells as CallsOfRootsTell}
use Rattle.root_ops.specs.Order.{Reply, kept, fault, more, ends, releasing, same_owner, starts, LeadsTo}
use Rattle.root_ops.specs.Quiet.{ClosesWhatIsOpen}
use Rattle.root_ops.specs.TurnView.{below_of}
use Rattle.root_ops.specs.View.{reply_view}
use Rattle.race_core.specs.OwnHistory.{NoneCloses, IsHistory, Around}
use Rattle.sessions.specs.Call.{root_of, Called, ReleaseTells}
use Rattle.sessions.specs.EachCall.{IsWindow, call_in, OpenedSince, TellsIn, CallTells, EachCallTells}
use Rattle.sessions.specs.Session.{SessionView, leaves_open}
use Rattle.sessions.proofs.LeftOpen.{closed_in_history}
use Rattle.sessions.proofs.Threads.{calls_stand_in_order, call_is_there}

-- ---- a Release whose Close was left out

module _ (below : Below) (standing : StandingObject) (others : List Line) (reply : Reply) where
  fails : (lines : List Line) → LeadsTo below (ends (fault BadHandle)) lines (ends reply) → reply ≡ fault BadHandle
  fails [] leads = cc (leads)
  fails (line ∷ lines) leads = absurd leads

  by_owner : (same : Bool) → LeadsTo below (if same then more (releasing standing.handle) else ends (kept standing)) (not_made BadHandle ∷ others) (ends reply)
      → reply ≡ fault BadHandle
  by_owner true leads = fails others leads.1
  by_owner false leads = absurd leads

  left_out : (room : Bool) → LeadsTo below (starts below room (Release standing)) (not_made BadHandle ∷ others) (ends reply) → reply ≡ fault BadHandle
  left_out true leads = by_owner (same_owner standing.owner below.root.owner) leads
  left_out false leads = by_owner (same_owner standing.owner below.root.owner) leads

not_held : (opening : State) (a root h : ℕ) → (h ≡ root) ⊎ (held opening a h ≡ None) → (root == h) ≡ false → held opening a h ≡ None
not_held opening a root h (inl same) other = absurd (false≢true (sym other ∙ eq-eqb root h (sym same)))
not_held opening a root h (inr none) other = none

-- ---- the call

module _ (opening : State) (events : List Event) (session after : SessionView) (request : Request) (reply : Told) (node : ℕ)
    (is : IsHistory opening events (root_of session) node) (none : NoneCloses session.root session.log) (called : Called session request after reply) where
  abbrev a : ℕ
  a = session.owner.actor

  abbrev lines : List Line
  lines = called.made.lines

  abbrev below : Below
  below = below_of (root_of session) request.flags

  module _ (before window rest : List Event) (placed : IsWindow events session lines before window rest) where
    abbrev the_call : CallInHistory
    the_call = call_in opening session request node called.made.room lines before window

    there : IsCallInHistory the_call
    there = call_is_there the_call events rest is placed.whole (subst (NoneCloses session.root) (sym placed.own_before) none) placed.own

    -- what the session's log doesn't leave open isn't open as the window begins
    closed_before : (standing : StandingObject) → (standing.handle ≡ session.root) ⊎ (held opening a standing.handle ≡ None)
        → leaves_open session.root session.log standing.handle ≡ false → held (begin_of the_call) a standing.handle ≡ None
    closed_before standing since out =
        closed_in_history a standing.handle before opening there.legal_before (session.root == standing.handle)
        (not_held opening a session.root standing.handle since) (ap (open_after standing.handle (session.root == standing.handle)) placed.own_before ∙ out)

    closes_what_is_open : OpenedSince the_call → ClosesWhatIsOpen the_call
    closes_what_is_open since standing others is_op are =
        let leads : LeadsTo below (starts below called.made.room (Release standing)) (not_made BadHandle ∷ others) (ends (reply_view reply)) =
        subst (λ (ls : List Line). LeadsTo below (starts below called.made.room (Release standing)) ls (ends (reply_view reply))) are
        (subst (λ (op : Op). LeadsTo below (starts below called.made.room op) lines (ends (reply_view reply))) is_op called.made.leads) in
        let told : ReleaseTells session standing (fault BadHandle) =
        subst (ReleaseTells session standing) (left_out below standing others (reply_view reply) called.made.room leads) (called.released standing is_op) in
        closed_before standing (since standing is_op) told.1

    tells_in : CallsOfRootsTell → TellsIn the_call reply
    tells_in tell =
        let told = tell the_call reply there called.made.leads in
        record {
          is_call = there;
          replies = called.made.leads;
          tells = told;
          quiet = λ quiet since. told.quiet quiet (closes_what_is_open since);
        }

  module _ (later : List Event) (own : own_events a events ≡ after.log ++ later) where
    logged : after.log ≡ session.log ++ events_of a lines
    logged = ap (λ (s : SessionView). s.log) called.marked ∙ ap (λ (s : SessionView). s.log) called.made.logged

    stands : Around a events session.log (events_of a lines) later
    stands =
        calls_stand_in_order a events session.log (events_of a lines) later (own ∙ ap (λ es. es ++ later) logged ∙ append_assoc session.log (events_of a lines) later)

    call_tells : CallsOfRootsTell → CallTells opening events session request node called.made.room lines reply
    call_tells tell = record {
      later = later;
      stands = stands;
      each = λ before window rest placed. tells_in before window rest placed tell;
    }

pub each_call_tells_in_threads : CallsOfRootsTell → EachCallTells
each_call_tells_in_threads tell opening events session after request reply node later is none called own =
    call_tells opening events session after request reply node is none called later own tell
