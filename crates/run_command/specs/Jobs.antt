-- What `inroot run` writes: how each job of the script ended, as workers served them, and how many events the closed
-- service has.
use Rattle.std.specs.Prelude.{⊤, ◌≡◌, ◌≢◌, ◌<◌, ◌⊎◌, ℕ, List, [], ◌∷◌, ◌++◌, length, map, replicate, slice_get, slice_set, codes, decimal, false, Option, Some, None, Result, Err, MatchResult, IsOkAnd}
use Rattle.std.specs.List.{filter_map}
use Rattle.std.specs.Io.KnownBytes.{Keeps}
use Rattle.path_text.specs.declared.errno.Errno.TheVariants.{Invalid}
use Rattle.handles.specs.Objects.{StandingObject}
use Rattle.root_ops.specs.declared.op.Op.TheVariants.{Release}
use Rattle.root_ops.specs.declared.op.Request.{Request}
use Rattle.root_ops.specs.declared.reply.Reply.{Reply}
use Rattle.root_ops.specs.declared.reply.Reply.TheVariants as reply
use Rattle.race_core.specs.declared.plan.Planned.TheVariants as planned
use Rattle.race_core.specs.declared.report.Outcome.{Outcome}
use Rattle.race_core.specs.declared.report.Outcome.TheVariants as outcome
use Rattle.report_text.specs.Report.{reply_lines}
use Rattle.sessions.specs.declared.close.CloseCause.{CloseCause}
use Rattle.sessions.specs.declared.close.CloseCause.TheVariants as close
use Rattle.sessions.specs.declared.open.OpenCause.{OpenCause}
use Rattle.sessions.specs.declared.open.OpenCause.TheVariants as opening
use Rattle.sessions.specs.Close.{StoppedView, IsClosable, IsClosed, IsCause}
use Rattle.sessions.specs.Open.{opening_cause, IsOpened}
use Rattle.sessions.specs.Service.{ServiceView}
use Rattle.sessions.specs.Session.{SessionView, leaves_open}
use Rattle.tree_model.specs.declared.answer.Event.{Event}
use Rattle.tree_model.specs.State.{State}
use Rattle.workers.specs.declared.serving.ServeCause.{ServeCause}
use Rattle.workers.specs.declared.serving.ServeCause.TheVariants as serve
use Rattle.workers.specs.declared.told.Numbered.{Numbered}
use Rattle.workers.specs.Serve.{IsServed, IsRefused}
use Rattle.workers.specs.Work.{Calls}
use Rattle.scripts.specs.declared.calls.Purpose.TheVariants.{Jobs}
use Rattle.scripts.specs.declared.fault.RunFault.{RunFault}
use Rattle.scripts.specs.declared.fault.RunFault.TheVariants.{Script, ReadFailed, WriteFailed, NoMemory, BookFull}
use Rattle.scripts.specs.declared.fault.ScriptFault.{ScriptFault}
use Rattle.run_command.specs.declared.jobs.JobsFault.{JobsFault}
use Rattle.run_command.specs.declared.jobs.JobsFault.TheVariants.{Run, Service}
use Rattle.run_command.specs.declared.jobs.ServiceFault.{ServiceFault}
use Rattle.run_command.specs.declared.jobs.ServiceFault.TheVariants as service_fault
use Rattle.run_command.specs.declared.jobs.TheConstants.{TAG}
use Rattle.scripts.specs.declared.turns.TurnOrder.TheVariants.{OfScript}
use Rattle.scripts.specs.Fault.{check_of}
use Rattle.scripts.specs.Writing.{tree_of, Wrote}
use Rattle.scripts.specs.Scenario.{Said, said_as, first_root, first_calls}

-- what is said of jobs by a script: the first check that fails, a step or a release of the first actor among them
abbrev pub jobs_said : List ℕ → Result Said ScriptFault
jobs_said input = said_as Jobs OfScript input

-- ---- the service

-- each worker's root is the first actor's
abbrev pub worker_roots : ℕ → Said → List (List (List ℕ))
worker_roots workers said = replicate workers (first_root said.plans)

-- A service over the script's tree, with a session for each worker at the first actor's root; and a job for each of
-- that actor's calls, in their order.
pub record IsBegun (workers : ℕ) (said : Said) (service : ServiceView) (sessions : List SessionView)
    (jobs : List Request) : Type 0 where
  pub calls : map planned.Call jobs ≡ first_calls said.plans
  pub room : opening_cause (tree_of said) (worker_roots workers said) said.lines ≡ None
  pub opened : IsOpened (tree_of said) (worker_roots workers said) TAG said.lines service sessions

-- ---- what the replies leave open

abbrev pub opened_by : Reply → Option StandingObject
opened_by (reply.Opened standing) = Some standing
opened_by (reply.Text text) = None
opened_by reply.Done = None
opened_by (reply.Count count) = None
opened_by (reply.Stepped answer) = None
opened_by (reply.Kept standing) = None
opened_by (reply.Fault error) = None

-- what was opened, in the order of the jobs
abbrev pub opened_in : List Reply → List StandingObject
opened_in replies = filter_map opened_by replies

abbrev pub release_of : StandingObject → Request
release_of standing = record { op = Release standing; flags = record { beneath = false; no_links = false } }

-- the object is that of a session of the service
abbrev pub IsOurs : ServiceView → StandingObject → Type 0
IsOurs service standing = (standing.owner.tag ≡ service.tag) × (standing.owner.actor < service.count)

-- these are the service's sessions, each in the place of its number
pub record AreInPlace (service : ServiceView) (sessions : List SessionView) : Type 0 where
  pub all : length sessions ≡ service.count
  pub each : (i : ℕ) (session : SessionView) → slice_get sessions i ≡ Some session
      → session.owner ≡ record { tag = service.tag; actor = i }

-- the Release was made, and the handle closed; or by the session's own log it was closed before
abbrev pub IsClosedOnce : SessionView → StandingObject → Reply → Type 0
IsClosedOnce session standing told =
    (told ≡ reply.Done) ⊎ (leaves_open session.root session.log standing.handle ≡ false)

-- the session that opened the object is called to release it, which closes it, and the others stay
pub record IsReleased (service : ServiceView) (standing : StandingObject)
    (before after : List SessionView) : Type 0 where
  pub session : SessionView
  pub there : slice_get before standing.owner.actor ≡ Some session
  pub called : SessionView
  pub told : Reply
  pub call : Calls service session (release_of standing) called told
  pub closed : IsClosedOnce session standing told
  pub after_it : after ≡ slice_set before standing.owner.actor called

-- one object after another
abbrev pub AreReleased : ServiceView → List StandingObject → List SessionView → List SessionView → Type 0
AreReleased service [] before after = after ≡ before
AreReleased service (standing ∷ others) before after = (between : List SessionView)
    × (IsReleased service standing before between × AreReleased service others between after)

-- ---- its end

-- the jobs are served, and what their replies opened is released
pub record AreDone (workers : ℕ) (said : Said) (replies : List Reply) (service : ServiceView)
    (sessions : List SessionView) : Type 0 where
  pub at_first : List SessionView
  pub jobs : List Request
  pub begun : IsBegun workers said service at_first jobs
  pub served : List SessionView
  pub are_served : IsServed service jobs at_first served replies
  pub released : AreReleased service (opened_in replies) served sessions

-- the service out of its lock
pub record IsStopped (service : ServiceView) (stopped : StoppedView) : Type 0 where
  pub tag : stopped.tag ≡ service.tag
  pub count : stopped.count ≡ service.count
  pub lines : stopped.lines ≡ service.lines
  pub opening : stopped.opening ≡ service.opening

-- the service closes with this history
pub record Closes (service : ServiceView) (sessions : List SessionView) (events : List Event) : Type 0 where
  pub stopped : StoppedView
  pub is_stopped : IsStopped service stopped
  pub closable : IsClosable stopped sessions
  pub tree : State
  pub opening : State
  pub closed : IsClosed stopped sessions tree events opening

-- the jobs are done, and the service is closed
pub record AreOver (workers : ℕ) (said : Said) (replies : List Reply) (events : List Event) : Type 0 where
  pub service : ServiceView
  pub sessions : List SessionView
  pub done : AreDone workers said replies service sessions
  pub closes : Closes service sessions events

-- ---- what is written

abbrev pub outcome_of : Reply → Outcome
outcome_of (reply.Opened standing) = outcome.Opened standing.node standing.kind standing.names
outcome_of (reply.Text text) = outcome.Text text
outcome_of reply.Done = outcome.Done
outcome_of (reply.Count count) = outcome.Count count
outcome_of (reply.Stepped answer) = outcome.Stepped answer
outcome_of (reply.Kept standing) = outcome.Fault Invalid
outcome_of (reply.Fault error) = outcome.Fault error

-- closed E
abbrev pub closed_line : ℕ → List ℕ
closed_line events = codes "closed " ++ (decimal events ++ codes "\n")

-- reply 0 J REPLY for each job J; then how many events there were
abbrev pub jobs_text : List Reply → ℕ → List ℕ
jobs_text replies events = reply_lines (map outcome_of replies ∷ []) ++ closed_line events

-- the text of the jobs that the script says, served to their end
pub record IsJobsText (workers : ℕ) (said : Said) (text : List ℕ) : Type 0 where
  pub replies : List Reply
  pub events : List Event
  pub over : AreOver workers said replies events
  pub is : text ≡ jobs_text replies (length events)

-- ---- why it isn't

-- a service with these roots is refused for its lines or for want of memory
abbrev pub CanRefuse : OpenCause → Type 0
CanRefuse opening.BookFull = ⊤
CanRefuse opening.NoMemory = ⊤
CanRefuse other = ⊥

abbrev pub told_of_opening : OpenCause → RunFault
told_of_opening opening.BookFull = BookFull
told_of_opening other = NoMemory

-- some workers, and few of them, serve all or leave it for one of these
abbrev pub CanUnserve : ServeCause → Type 0
CanUnserve serve.NoWorkers = ⊥
CanUnserve serve.TooManyWorkers = ⊥
CanUnserve other = ⊤

abbrev pub told_of_serving : ServeCause → JobsFault
told_of_serving (serve.Doubled job) = Service (service_fault.Doubled job)
told_of_serving (serve.Lost job) = Service (service_fault.Lost job)
told_of_serving other = Run NoMemory

-- the workers answered a job twice, or left it over
pub record RefusesToServe (service : ServiceView) (jobs : List Request) (before : List SessionView)
    (cause : ServeCause) : Type 0 where
  pub lists : List (List Numbered)
  pub after : List SessionView
  pub refused : IsRefused service jobs before cause lists after

-- which is told; or there was no memory
abbrev pub IsUnserved : ServiceView → List Request → List SessionView → JobsFault → Type 0
IsUnserved service jobs before (Service (service_fault.Doubled job)) =
    RefusesToServe service jobs before (serve.Doubled job)
IsUnserved service jobs before (Service (service_fault.Lost job)) = RefusesToServe service jobs before (serve.Lost job)
IsUnserved service jobs before (Service other) = ⊥
IsUnserved service jobs before (Run NoMemory) = ⊤
IsUnserved service jobs before (Run other) = ⊥

abbrev pub told_of_closing : CloseCause → ServiceFault
told_of_closing (close.Stranger place) = service_fault.Stranger place
told_of_closing (close.Missing number) = service_fault.Missing number
told_of_closing close.Opening = service_fault.Opening
told_of_closing (close.Mismatch number) = service_fault.Mismatch number

-- the book has no line for each worker's root
abbrev pub HasFewLines : ℕ → Said → Type 0
HasFewLines workers said = said.lines < workers

-- the script's jobs aren't served
pub record AreUnserved (workers : ℕ) (said : Said) (cause : ServeCause) : Type 0 where
  pub service : ServiceView
  pub at_first : List SessionView
  pub jobs : List Request
  pub begun : IsBegun workers said service at_first jobs
  pub refuses : RefusesToServe service jobs at_first cause

-- the service doesn't close
pub record RefusesToClose (service : ServiceView) (sessions : List SessionView) (cause : CloseCause) : Type 0 where
  pub stopped : StoppedView
  pub is_stopped : IsStopped service stopped
  pub is_cause : IsCause stopped sessions cause

-- the script's jobs are done, but not over
pub record AreUnclosed (workers : ℕ) (said : Said) (cause : CloseCause) : Type 0 where
  pub replies : List Reply
  pub service : ServiceView
  pub sessions : List SessionView
  pub done : AreDone workers said replies service sessions
  pub refuses : RefusesToClose service sessions cause

abbrev pub IsServiceFault : ℕ → Said → ServiceFault → Type 0
IsServiceFault workers said (service_fault.Doubled job) = AreUnserved workers said (serve.Doubled job)
IsServiceFault workers said (service_fault.Lost job) = AreUnserved workers said (serve.Lost job)
IsServiceFault workers said (service_fault.Stranger place) = AreUnclosed workers said (close.Stranger place)
IsServiceFault workers said (service_fault.Missing number) = AreUnclosed workers said (close.Missing number)
IsServiceFault workers said service_fault.Opening = AreUnclosed workers said close.Opening
IsServiceFault workers said (service_fault.Mismatch number) = AreUnclosed workers said (close.Mismatch number)

-- why jobs whose script's checks have passed have no text
abbrev pub IsNoService : ℕ → Said → JobsFault → Type 0
IsNoService workers said (Run (Script fault)) = ⊥
IsNoService workers said (Run ReadFailed) = ⊥
IsNoService workers said (Run WriteFailed) = ⊥
IsNoService workers said (Run NoMemory) = ⊤
IsNoService workers said (Run BookFull) = HasFewLines workers said
IsNoService workers said (Service fault) = IsServiceFault workers said fault

-- a fault is the script's; or its book is too small; or the service's; or a growth was refused; or a write
-- of such a text, which isn't empty
abbrev pub IsJobsFaultOf : ℕ → Result Said ScriptFault → JobsFault → Type 0
IsJobsFaultOf workers said (Run (Script fault)) = said ≡ Err (check_of fault)
IsJobsFaultOf workers said (Run ReadFailed) = ⊥
IsJobsFaultOf workers said (Run WriteFailed) =
    IsOkAnd said (λ s. (text : List ℕ) × IsJobsText workers s text × (text ≢ []))
IsJobsFaultOf workers said (Run NoMemory) = ⊤
IsJobsFaultOf workers said (Run BookFull) = IsOkAnd said (HasFewLines workers)
IsJobsFaultOf workers said (Service fault) = IsOkAnd said (λ s. IsServiceFault workers s fault)

-- The text of the script's jobs, served by so many workers, was written, and nothing else; or it failed as it
-- should, and but for a writer that failed nothing was written.
abbrev pub IsJobs : {T : Type 0} → ℕ → Result Said ScriptFault → Option (List ℕ) → Option (List ℕ)
    → Result T JobsFault → Type 0
IsJobs workers said old new result = MatchResult result
    (λ _. Wrote (IsJobsText workers) said old new)
    (λ fault. IsJobsFaultOf workers said fault × (fault ≢ Run WriteFailed → Keeps old new))
