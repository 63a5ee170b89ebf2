-- What serving a list of jobs comes to.
use Rattle.std.specs.Prelude.{◌≡◌, ℕ, ◌⊎◌, ◌==◌, ◌<◌, ◌≤◌, List, [], ◌∷◌, length, count_by, Option, Some, slice_get, if◌then◌else◌}
use Rattle.std.specs.List.{flat_map}
use Rattle.root_ops.specs.declared.op.Request.{Request}
use Rattle.root_ops.specs.declared.reply.Reply.{Reply}
use Rattle.sessions.specs.Service.{ServiceView}
use Rattle.sessions.specs.Session.{SessionView}
use Rattle.workers.specs.declared.serving.ServeCause.{ServeCause}
use Rattle.workers.specs.declared.serving.ServeCause.TheVariants.{NoWorkers, TooManyWorkers, NoMemory, Doubled, Lost}
use Rattle.workers.specs.declared.serving.TheConstants.{WORKERS_MAX}
use Rattle.workers.specs.declared.told.Numbered.{Numbered}
use Rattle.workers.specs.Work.{Works}

-- all that the workers were told, one worker after another
abbrev pub joined : List (List Numbered) → List Numbered
joined lists = flat_map (λ told. told) lists

-- how many of the replies are to a job
abbrev pub replies_to : ℕ → List Numbered → ℕ
replies_to job told = count_by (λ numbered. numbered.job == job) told

-- the last reply to a job, or what was there before
abbrev pub last_to : ℕ → Option Reply → List Numbered → Option Reply
last_to job before [] = before
last_to job before (numbered ∷ told) = last_to job (if numbered.job == job then Some numbered.reply else before) told

-- each session worked, and there is no other
abbrev pub AllWork : ServiceView → List Request → List SessionView → List (List Numbered) → List SessionView → Type 0
AllWork service jobs [] [] [] = Unit {0}
AllWork service jobs (before ∷ befores) (told ∷ lists) (after ∷ afters) =
    Works service jobs before told after × AllWork service jobs befores lists afters
AllWork service jobs befores lists afters = ⊥

-- as many sessions as there may be workers
abbrev pub HasWorkers : List SessionView → Type 0
HasWorkers sessions = (0 < length sessions) × (length sessions ≤ WORKERS_MAX)

-- each job below a number has one reply
abbrev pub AllOnce : List (List Numbered) → ℕ → Type 0
AllOnce lists jobs = (job : ℕ) → job < jobs → replies_to job (joined lists) ≡ 1

-- Each session worked, and comes back in its place. Each job has one reply of all that the workers were told, and
-- that is the one in the job's place.
pub record IsServed (service : ServiceView) (jobs : List Request) (before after : List SessionView)
    (replies : List Reply) : Type 0 where
  pub workers : HasWorkers before
  pub lists : List (List Numbered)
  pub work : AllWork service jobs before lists after
  pub once : AllOnce lists (length jobs)
  pub in_place : (i : ℕ) (numbered : Numbered) → slice_get (joined lists) i ≡ Some numbered
      → slice_get replies numbered.job ≡ Some numbered.reply
  pub as_many : length replies ≡ length jobs

-- ---- why it isn't served

abbrev pub IsDoubled : List (List Numbered) → ℕ → Type 0
IsDoubled lists job = 1 < replies_to job (joined lists)

abbrev pub IsLost : List (List Numbered) → ℕ → Type 0
IsLost lists job = replies_to job (joined lists) ≡ 0

-- the least number below a bound of which it holds
abbrev pub IsFirst : (ℕ → Type 0) → ℕ → ℕ → Type 0
IsFirst P bound k = (k < bound) × (P k × ((j : ℕ) → j < k → P j → ⊥))

abbrev pub NoneBelow : (ℕ → Type 0) → ℕ → Type 0
NoneBelow P bound = (k : ℕ) → k < bound → P k → ⊥

-- why no worker starts
abbrev pub IsCauseBefore : List SessionView → ServeCause → Type 0
IsCauseBefore sessions NoWorkers = sessions ≡ []
IsCauseBefore sessions TooManyWorkers = WORKERS_MAX < length sessions
IsCauseBefore sessions NoMemory = HasWorkers sessions
IsCauseBefore sessions (Doubled job) = ⊥
IsCauseBefore sessions (Lost job) = ⊥

-- why what the workers were told isn't one reply to each job: the first that was answered twice, or else the first
-- that wasn't
abbrev pub IsCauseAfter : List (List Numbered) → ℕ → ServeCause → Type 0
IsCauseAfter lists jobs NoWorkers = ⊥
IsCauseAfter lists jobs TooManyWorkers = ⊥
IsCauseAfter lists jobs NoMemory = ⊥
IsCauseAfter lists jobs (Doubled job) = IsFirst (IsDoubled lists) jobs job
IsCauseAfter lists jobs (Lost job) = NoneBelow (IsDoubled lists) jobs × IsFirst (IsLost lists) jobs job

-- no worker started, and the sessions are as they came
abbrev pub AsTheyCame : List SessionView → List (List Numbered) → List SessionView → Type 0
AsTheyCame before lists after = (lists ≡ []) × (after ≡ before)

-- the sessions worked, and come back in their places
abbrev pub AfterWork : ServiceView → List Request → List SessionView → List (List Numbered) → List SessionView → Type 0
AfterWork service jobs before lists after = HasWorkers before × AllWork service jobs before lists after

abbrev pub IsRefused : ServiceView → List Request → List SessionView → ServeCause → List (List Numbered)
    → List SessionView → Type 0
IsRefused service jobs before cause lists after =
    (IsCauseBefore before cause × AsTheyCame before lists after)
    ⊎ (AfterWork service jobs before lists after × IsCauseAfter lists (length jobs) cause)
