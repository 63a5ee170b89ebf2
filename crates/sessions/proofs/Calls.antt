-- A call that is driven is led on by its lines.
use Rattle.std.proofs.Common.{◌≡◌, ◌⊎◌, ℕ, Bool, true, false, if◌then◌else◌, Some, List, [], ◌∷◌, ◌++◌, refl, sym, ap, ◌∙◌, subst, inl, inr, append-nil, append_assoc}
use Rattle.path_text.specs.declared.errno.Errno.{Errno}
use Rattle.path_text.specs.declared.errno.Errno.TheVariants.{BadHandle}
use Rattle.tree_model.specs.declared.answer.Answer.{Answer}
use Rattle.tree_model.specs.declared.answer.Answer.TheVariants.{Done, Refused}
use Rattle.tree_model.specs.declared.answer.Event.{Event}
use Rattle.tree_model.specs.declared.step.StepOf.TheVariants.{Close}
use Rattle.step_resolver.specs.Order.{answered, no_room, not_made, events_of}
use Rattle.root_ops.specs.declared.below.Below.{Below}
use Rattle.handles.specs.Objects.{StandingObject}
use Rattle.root_ops.specs.declared.op.Op.{Op}
use Rattle.root_ops.specs.declared.op.Op.TheVariants.{Release, Resolve}
use Rattle.root_ops.specs.declared.aim.Wanted.TheVariants as wants
use Rattle.root_ops.specs.Order.{kept, same_owner, starts, Doing, releasing, CallTurn, more, ends, due, reply_to, take, calls, IsUnmade}
use Rattle.root_ops.specs.declared.op.Request.{Request as RequestTo}
use Rattle.root_ops.specs.declared.reply.Reply.{Reply as Told}
use Rattle.root_ops.specs.TurnView.{below_of, StartsTo, TakesTo}
use Rattle.root_ops.specs.View.{CallView, reply_view, IsOwned}
use Rattle.step_resolver.proofs.DrivenWalks.{joined_events}
use Rattle.root_ops.proofs.Refusals.{refusal_needs_no_room}
use Rattle.step_machine.proofs.Runs.{leads_on}
use Rattle.sessions.specs.Session.{SessionView, leaves_open}
use Rattle.sessions.specs.Call.{logs, logs_step, actor_of, root_of, released_by, IsAnswer, Leads, LeadsFirst, Made, EndsRelease}

-- ---- step by step

module _ (below : Below) (old new : SessionView) (doing : Doing) (answer : Answer) (to : CallTurn) where
  made : (room : Bool) → to ≡ take below room doing answer
      → new ≡ logs old (record { actor = actor_of old; step = due below doing; answer = answer } ∷ [])
      → Leads below old (more doing) new to
  made true taken logged =
      record { lines = answered (due below doing) answer ∷ []; leads = (refl, sym taken); logged = logged }
  made false taken logged =
      record { lines = no_room (due below doing) answer ∷ []; leads = (refl, sym taken); logged = logged }

  left_out : (room : Bool) (error : Errno) → to ≡ take below room doing answer → IsUnmade below doing error
      → answer ≡ Refused error → new ≡ logs old []
      → Leads below old (more doing) new to
  left_out room error taken why is_refused logged = record {
    lines = not_made error ∷ [];
    leads = (why, sym (taken ∙ ap (take below room doing) is_refused ∙ refusal_needs_no_room below room doing error));
    logged = logged;
  }

  pub advanced : IsAnswer below doing old new answer → TakesTo below doing answer to
      → Leads below old (more doing) new to
  advanced (inl is) taken = made taken.0 taken.1 is
  advanced (inr is) taken =
      left_out taken.0 is.0 taken.1 is.1.0 is.1.1.0
      (is.1.1.1 ∙ ap (λ (log : List Event). record
      { owner = old.owner; root = old.root; log = log; marked = old.marked }) (sym (append-nil old.log)))

-- what was logged first, and then what was logged after it
logged_on : (first second third : SessionView) (es fs : List Event) → second ≡ logs first es → third ≡ logs second fs
    → third ≡ logs first (es ++ fs)
logged_on first second third es fs one two =
    two ∙ ap (λ (s : SessionView). logs s fs) one
    ∙ ap (λ (log : List Event). record { owner = first.owner; root = first.root; log = log; marked = first.marked })
    (append_assoc first.log es fs)

pub led_on : (below : Below) (first second third : SessionView) (from mid to : CallTurn)
    → Leads below first from second mid → Leads below second mid third to → Leads below first from third to
led_on below first second third from mid to one two =
    let same_actor : actor_of second ≡ actor_of first = ap actor_of one.logged in
    let later = subst (λ (a : ℕ). third ≡ logs second (events_of a two.lines)) same_actor two.logged in
    record {
      lines = one.lines ++ two.lines;
      leads = leads_on (calls below) one.lines from mid two.lines to one.leads two.leads;
      logged = logged_on first second third (events_of (actor_of first) one.lines)
          (events_of (actor_of first) two.lines) one.logged later
          ∙ ap (logs first) (sym (joined_events (actor_of first) one.lines two.lines));
    }

-- on by what a call that is below the same root was led by
pub passed_on : (v below : Below) (first second third : SessionView) (from mid to : CallTurn) → v ≡ below
    → Leads below first from second mid → Leads v second mid third to → Leads below first from third to
passed_on v below first second third from mid to same one two =
    led_on below first second third from mid to one (subst (λ (b : Below). Leads b second mid third to) same two)

-- by one answer more, which the call takes
pub taken_on : (below : Below) (first second third : SessionView) (from to : CallTurn) (old new : CallView)
    (answer : Answer) → old.below ≡ below → new ≡ old
    → Leads below first from second (more old.doing) → IsAnswer old.below old.doing second third answer
    → TakesTo new.below new.doing answer to → Leads below first from third to
taken_on below first second third from to old new answer same still one is taken =
    let at : TakesTo old.below old.doing answer to =
    subst (λ (c : CallView). TakesTo c.below c.doing answer to) still taken in
    passed_on old.below below first second third from (more old.doing) to same one
    (advanced old.below second third old.doing answer to is at)

-- what was to be released was closed, or wasn't open
pub gives_back : (below : Below) (old new : SessionView) (doing : Doing) (h : ℕ) (answer : Answer) (to : CallTurn)
    → doing ≡ releasing h
    → ((new ≡ logs_step old (Close h) Done) × (answer ≡ Done))
    ⊎ ((new ≡ old) × (answer ≡ Refused BadHandle) × (leaves_open old.root old.log h ≡ false))
    → TakesTo below doing answer to
    → Leads below old (more doing) new to
gives_back below old new doing h answer to is_release told taken =
    advanced below old new doing answer to
    (subst (λ (d : Doing). IsAnswer below d old new answer) (sym is_release) (on told)) taken
  where
    on : ((new ≡ logs_step old (Close h) Done) × (answer ≡ Done))
        ⊎ ((new ≡ old) × (answer ≡ Refused BadHandle) × (leaves_open old.root old.log h ≡ false))
        → IsAnswer below (releasing h) old new answer
    on (inl is) = inl (is.0 ∙ ap (logs_step old (Close h)) (sym is.1))
    on (inr is) = inr (BadHandle, (refl, (is.1, is.0)))

-- and so a Release replies
pub release_ends : (below : Below) (old new : SessionView) (doing : Doing) (h : ℕ) (answer : Answer) (to : CallTurn)
    (standing : StandingObject) → doing ≡ releasing h → standing.handle ≡ h
    → ((new ≡ logs_step old (Close h) Done) × (answer ≡ Done))
    ⊎ ((new ≡ old) × (answer ≡ Refused BadHandle) × (leaves_open old.root old.log h ≡ false))
    → TakesTo below doing answer to
    → EndsRelease old standing to
release_ends below old new doing h answer to standing is_release same told taken =
    let turn : to ≡ ends (reply_to wants.Done answer) = taken.1
    ∙ ap (λ (d : Doing). take below taken.0 d answer) is_release in
    subst (EndsRelease old standing) (sym turn) (on told)
  where
    on : ((new ≡ logs_step old (Close h) Done) × (answer ≡ Done))
        ⊎ ((new ≡ old) × (answer ≡ Refused BadHandle) × (leaves_open old.root old.log h ≡ false))
        → EndsRelease old standing (ends (reply_to wants.Done answer))
    on (inl is) = subst (λ (v : Answer). EndsRelease old standing (ends (reply_to wants.Done v))) (sym is.1) tt
    on (inr is) =
        subst (λ (v : Answer). EndsRelease old standing (ends (reply_to wants.Done v))) (sym is.1)
        (refl, ap (leaves_open old.root old.log) same ∙ is.2)

-- ---- the whole call

releases_by : (same : Bool) (standing : StandingObject) (doing : Doing)
    → more doing ≡ (if same then more (releasing standing.handle) else ends (kept standing))
    → doing ≡ releasing standing.handle
releases_by true standing doing e = cc (e)
releases_by false standing doing e = cc (e)

begins_releasing : (below : Below) (room : Bool) (standing : StandingObject) (doing : Doing)
    → more doing ≡ starts below room (Release standing) → doing ≡ releasing standing.handle
begins_releasing below true standing doing e = releases_by (same_owner standing.owner below.root.owner) standing doing e
begins_releasing below false standing doing e =
    releases_by (same_owner standing.owner below.root.owner) standing doing e

-- the call of a Release begins with its Close
pub is_releasing : (below : Below) (op : Op) (h : ℕ) (doing : Doing) → released_by op ≡ Some h
    → StartsTo below op (more doing) → doing ≡ releasing h
is_releasing below (Release standing) h doing is begun = begins_releasing below begun.0 standing doing begun.1 ∙ cc (is)
is_releasing below (Resolve path) h doing is begun = cc (is)
is_releasing below op h doing is begun = cc (is)

-- what is to be released is the handle with which it begins
pub releases_handle : (op : Op) (standing : StandingObject) (h : ℕ) → op ≡ Release standing → released_by op ≡ Some h
    → standing.handle ≡ h
releases_handle op standing h is_op is =
    let same : Some standing.handle ≡ Some h = subst (λ (o : Op). released_by o ≡ Some h) is_op is in
    cc (same)

pub made_on : (request : RequestTo) (v : Below) (old mid new : SessionView) (doing : Doing) (reply : Told)
    → v ≡ below_of (root_of old) request.flags
    → LeadsFirst (below_of (root_of old) request.flags) request.op old mid (more doing)
    → Leads v mid (more doing) new (ends (reply_view reply))
    → IsOwned v.root.owner reply → Made old request new reply
made_on request v old mid new doing reply same first led owned =
    let below = below_of (root_of old) request.flags in
    let onward : Leads below mid (more doing) new (ends (reply_view reply)) =
    subst (λ (b : Below). Leads b mid (more doing) new (ends (reply_view reply))) same led in
    let whole = led_on below old mid new (starts below first.room request.op) (more doing)
    (ends (reply_view reply)) first.led onward in
    record {
      room = first.room;
      lines = whole.lines;
      leads = whole.leads;
      logged = whole.logged;
      owned = subst (λ (b : Below). IsOwned b.root.owner reply) same owned;
    }
