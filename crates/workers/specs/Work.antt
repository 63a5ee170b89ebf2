-- What a worker does: it answers jobs, each by a call of its own session.
use Rattle.std.specs.Prelude.{◌≡◌, ◌⊎◌, ◌++◌, List, [], ◌∷◌, map, true, false, Some, slice_get}
use Rattle.path_text.specs.declared.errno.Errno.{Errno}
use Rattle.path_text.specs.declared.errno.Errno.TheVariants.{Invalid, NoMemory}
use Rattle.root_ops.specs.Copies.{is_release}
use Rattle.root_ops.specs.declared.op.Request.{Request}
use Rattle.root_ops.specs.declared.reply.Reply.{Reply}
use Rattle.root_ops.specs.declared.reply.Reply.TheVariants.{Fault}
use Rattle.sessions.specs.Call.{Called, is_of, turned_away}
use Rattle.sessions.specs.Service.{ServiceView}
use Rattle.sessions.specs.Session.{SessionView}
use Rattle.workers.specs.declared.told.Numbered.{Numbered}

-- a session with what it was told
pub record WorkerView : Type 0 where
  pub session : SessionView
  pub told : List Numbered

-- one call of the session, as `Session::call` states it
abbrev pub Calls : ServiceView → SessionView → Request → SessionView → Reply → Type 0
Calls service before request after reply =
    (is_of service before ≡ true → Called before request after reply)
    × (is_of service before ≡ false → (after ≡ before) × (reply ≡ turned_away request.op))

-- a fault, and no call
abbrev pub Faults : Errno → SessionView → SessionView → Reply → Type 0
Faults error before after reply = (after ≡ before) × (reply ≡ Fault error)

-- A Release is told Invalid, since what it holds stays the caller's. Any other request is one call with it, or
-- NoMemory where it couldn't be copied.
abbrev pub Answers : ServiceView → SessionView → Request → SessionView → Reply → Type 0
Answers service before request after reply =
    (is_release request.op ≡ true → Faults Invalid before after reply)
    × (is_release request.op ≡ false → Calls service before request after reply ⊎ Faults NoMemory before after reply)

-- the reply is to the job of its number
pub record AnswersJob (service : ServiceView) (jobs : List Request) (before : SessionView) (numbered : Numbered)
    (after : SessionView) : Type 0 where
  pub request : Request
  pub job_is : slice_get jobs numbered.job ≡ Some request
  pub answers : Answers service before request after numbered.reply

-- these replies, one after another, from one state of the session to the other
abbrev pub Works : ServiceView → List Request → SessionView → List Numbered → SessionView → Type 0
Works service jobs before [] after = after ≡ before
Works service jobs before (numbered ∷ told) after = (between : SessionView)
    × (AnswersJob service jobs before numbered between × Works service jobs between told after)

-- the worker was told more
pub record WorksOn (service : ServiceView) (jobs : List Request) (old new : WorkerView) : Type 0 where
  pub more : List Numbered
  pub told : new.told ≡ old.told ++ more
  pub works : Works service jobs old.session more new.session

-- before its first job
abbrev pub idle : SessionView → WorkerView
idle session = record { session = session; told = [] }

abbrev pub sessions_of : List WorkerView → List SessionView
sessions_of workers = map (λ worker. worker.session) workers

abbrev pub lists_of : List WorkerView → List (List Numbered)
lists_of workers = map (λ worker. worker.told) workers
