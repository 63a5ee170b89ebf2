-- How a world is made: the actors' roots are granted one after another, and a book is opened over the tree then.
use Rattle.std.specs.Prelude.{◌≡◌, ◌≤◌, ◌<◌, ℕ, suc, List, [], ◌∷◌, ◌++◌, ◌⊎◌, false, length, None, Result, Ok, Err}
use Rattle.std.specs.Global.{Vec}
use Rattle.path_text.specs.declared.errno.Errno.{Errno}
use Rattle.path_text.specs.declared.errno.Errno.TheVariants as errno
use Rattle.tree_model.specs.State.{State}
use Rattle.tree_model.specs.StepLaws.{open_count}
use Rattle.tree_model.specs.Steps.{grants}
use Rattle.step_resolver.specs.declared.walk.Root.{Root}
use Rattle.race_core.specs.declared.book.TheConstants.{LINES_MAX}
use Rattle.race_core.specs.declared.opening.RootRefusal.{RootRefusal}
use Rattle.race_core.specs.declared.opening.TheConstants.{ACTORS_MAX}
use Rattle.race_core.specs.declared.plan.ActorPlan.{ActorPlan}
use Rattle.race_core.specs.declared.report.WorldFault.{WorldFault}
use Rattle.race_core.specs.declared.report.WorldFault.TheVariants as fault
use Rattle.race_core.specs.declared.seat.Seat.{Seat}
use Rattle.race_core.specs.Book.{opened_book, MayRefuse}
use Rattle.race_core.specs.Ledgers.{LedgerView}
use Rattle.race_core.specs.Turns.{opened_ledger}
use Rattle.race_core.specs.Worlds.{WorldView}

-- the root of the actor of that number, by the next handle
abbrev pub root_in : State → ℕ → Root
root_in s i = record { owner = record { tag = 0; actor = i }; handle = length s.handles }

-- the tree with the roots granted, and the actors' ledgers
pub record Granted : Type 0 where
  pub tree : State
  pub ledgers : List LedgerView

abbrev pub Grants : Type 0
Grants = Result Granted RootRefusal

-- the ledger of one actor before those of the others
abbrev pub before : LedgerView → Grants → Grants
before ledger (Ok granted) = Ok (record { tree = granted.tree; ledgers = ledger ∷ granted.ledgers })
before ledger (Err refusal) = Err refusal

-- onward from the tree with that root granted, unless it was refused
abbrev pub onward_from : ℕ → Result State Errno → (State → Grants) → Grants
onward_from i (Ok granted) onward = onward granted
onward_from i (Err error) onward = Err (record { at = i; cause = error })

-- the roots of these actors, numbered from i on, or the first that isn't granted
abbrev pub granted : State → ℕ → List ActorPlan → Grants
granted s i [] = Ok (record { tree = s; ledgers = [] })
granted s i (plan ∷ plans) =
    onward_from i (grants s i plan.root)
    (λ t. before (opened_ledger (root_in s i) plan.calls) (granted t (suc i) plans))

-- these ledgers before those of the others
abbrev pub after_these : List LedgerView → Grants → Grants
after_these ledgers (Ok granted) = Ok (record { tree = granted.tree; ledgers = ledgers ++ granted.ledgers })
after_these ledgers (Err refusal) = Err refusal

-- nobody has begun a call
abbrev pub seats_of : List LedgerView → List Seat
seats_of [] = []
seats_of (ledger ∷ ledgers) = record { ledger = ledger; doing = None } ∷ seats_of ledgers

-- ---- what becomes of it

pub record IsOpened (s : State) (plans : List ActorPlan) (lines : ℕ) (w : WorldView) : Type 0 where
  pub few : length plans ≤ ACTORS_MAX
  pub roots : Granted
  pub are_granted : granted s 0 plans ≡ Ok roots
  pub bounded : lines ≤ LINES_MAX
  pub enough : open_count roots.tree ≤ lines
  pub is : w ≡ record { book = opened_book roots.tree lines; seats = seats_of roots.ledgers; spent = false }

-- the roots are granted, and then the book isn't opened for that
pub record IsNotBooked (s : State) (plans : List ActorPlan) (lines : ℕ) (cause : Errno) : Type 0 where
  pub few : length plans ≤ ACTORS_MAX
  pub roots : Granted
  pub are_granted : granted s 0 plans ≡ Ok roots
  pub why : MayRefuse roots.tree lines cause

-- the root of the actor of that number is the first that isn't granted, for that cause
pub record IsRefusedAt (s : State) (plans : List ActorPlan) (i : ℕ) (cause : Errno) : Type 0 where
  pub few : length plans ≤ ACTORS_MAX
  pub refused : granted s 0 plans ≡ Err (record { at = i; cause = cause })

abbrev pub Opens : State → List ActorPlan → ℕ → Result WorldView WorldFault → Type 0
Opens s plans lines (Ok w) = IsOpened s plans lines w
Opens s plans lines (Err fault.TooManyActors) = ACTORS_MAX < length plans
Opens s plans lines (Err (fault.RootNotFound i)) = IsRefusedAt s plans i errno.NotFound
Opens s plans lines (Err (fault.RootNotDir i)) = IsRefusedAt s plans i errno.NotDir
Opens s plans lines (Err (fault.TooMany i)) = IsRefusedAt s plans i errno.TooMany
Opens s plans lines (Err (fault.NoSuchActor i)) = ⊥
Opens s plans lines (Err fault.Invalid) = IsNotBooked s plans lines errno.Invalid
Opens s plans lines (Err fault.BookFull) = IsNotBooked s plans lines errno.BookFull
Opens s plans lines (Err fault.NoMemory) = length plans ≤ ACTORS_MAX

-- that root was granted, or the refusal is told, or there was no memory
abbrev pub GrantsOne : State → ℕ → ActorPlan → State → Result LedgerView Errno → Type 0
GrantsOne s i plan t (Ok ledger) = (grants s i plan.root ≡ Ok t) × (ledger ≡ opened_ledger (root_in s i) plan.calls)
GrantsOne s i plan t (Err error) = (error ≡ errno.NoMemory) ⊎ (grants s i plan.root ≡ Err error)

-- the roots were granted, or the first refusal is told, or there was no memory
abbrev pub GrantsTo : State → List ActorPlan → State → Result (List LedgerView) RootRefusal → Type 0
GrantsTo s plans t (Ok ledgers) = granted s 0 plans ≡ Ok (record { tree = t; ledgers = ledgers })
GrantsTo s plans t (Err refusal) = (refusal.cause ≡ errno.NoMemory) ⊎ (granted s 0 plans ≡ Err refusal)

-- the ledgers of a `Vec`
abbrev pub ledgers_of : Result (Vec LedgerView) RootRefusal → Result (List LedgerView) RootRefusal
ledgers_of (Ok ledgers) = Ok ledgers.items
ledgers_of (Err refusal) = Err refusal

-- ---- what a world tells of a refusal

abbrev pub root_fault_by : ℕ → Errno → WorldFault
root_fault_by i errno.NotFound = fault.RootNotFound i
root_fault_by i errno.NotDir = fault.RootNotDir i
root_fault_by i errno.TooMany = fault.TooMany i
root_fault_by i other = fault.NoMemory

abbrev pub root_fault : RootRefusal → WorldFault
root_fault refusal = root_fault_by refusal.at refusal.cause

abbrev pub book_fault : Errno → WorldFault
book_fault errno.Invalid = fault.Invalid
book_fault errno.BookFull = fault.BookFull
book_fault other = fault.NoMemory
