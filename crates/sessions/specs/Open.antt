-- Opening a service: which handles are granted, and why it is refused.
use Rattle.std.specs.Prelude.{◌≡◌, ℕ, suc, ◌<◌, List, [], ◌∷◌, length, slice_get, nat_lt, if◌then◌else◌, Option, Some, None, Result, Ok, Err}
use Rattle.path_text.specs.declared.errno.Errno.{Errno}
use Rattle.path_text.specs.declared.errno.Errno.TheVariants as errors
use Rattle.race_core.specs.declared.book.TheConstants.{LINES_MAX}
use Rattle.tree_model.specs.State.{State, TOP}
use Rattle.tree_model.specs.Steps.{held, grants, directory_at}
use Rattle.tree_model.specs.StepLaws.{open_count}
use Rattle.sessions.specs.declared.open.OpenCause.{OpenCause}
use Rattle.sessions.specs.declared.open.OpenCause.TheVariants.{TooManySessions, RootNotFound, RootNotDir, TooMany, Invalid, BookFull, NoMemory}
use Rattle.sessions.specs.declared.open.TheConstants.{SESSIONS_MAX}
use Rattle.sessions.specs.Service.{ServiceView}
use Rattle.sessions.specs.Session.{SessionView, begun}

-- ---- why it is refused

-- why the root at a place is refused
abbrev pub root_cause : ℕ → Errno → OpenCause
root_cause i errors.NotFound = RootNotFound i
root_cause i errors.NotDir = RootNotDir i
root_cause i errors.TooMany = TooMany i
root_cause i other = NoMemory

abbrev pub refused_book : Errno → OpenCause
refused_book errors.Invalid = Invalid
refused_book errors.BookFull = BookFull
refused_book other = NoMemory

-- how it goes on after a grant to actor i
abbrev pub after_grant : (State → Result State OpenCause) → ℕ → Result State Errno → Result State OpenCause
after_grant go i (Err error) = Err (root_cause i error)
after_grant go i (Ok t) = go t

-- the tree with a handle on each of these roots, granted in their order to actors counted from i; or why the first
-- is refused
abbrev pub granted : State → ℕ → List (List (List ℕ)) → Result State OpenCause
granted s i [] = Ok s
granted s i (names ∷ roots) = after_grant (λ t. granted t (suc i) roots) i (grants s i names)

-- why a book of that many lines is refused
abbrev pub book_cause : State → ℕ → Option OpenCause
book_cause s lines = if nat_lt LINES_MAX lines then Some Invalid
    else (if nat_lt lines (open_count s) then Some BookFull else None)

abbrev pub cause_after : Result State OpenCause → ℕ → Option OpenCause
cause_after (Err cause) lines = Some cause
cause_after (Ok s) lines = book_cause s lines

-- why a service isn't opened, want of memory apart; None where it is
abbrev pub opening_cause : State → List (List (List ℕ)) → ℕ → Option OpenCause
opening_cause s roots lines =
    if nat_lt SESSIONS_MAX (length roots) then Some TooManySessions else cause_after (granted s 0 roots) lines

-- the tree has its nodes and its open handles as they were
abbrev pub IsAsItWas : State → State → Type 0
IsAsItWas s t = (t.nodes ≡ s.nodes) × ((a h : ℕ) → held t a h ≡ held s a h)

-- sessions counted from i, whose roots' handles count from h
abbrev pub first_sessions : ℕ → ℕ → ℕ → List (List (List ℕ)) → List SessionView
first_sessions tag i h [] = []
first_sessions tag i h (names ∷ roots) =
    begun (record { tag = tag; actor = i }) h ∷ first_sessions tag (suc i) (suc h) roots

-- the tree is as it was before these sessions' roots were granted, one after another
abbrev pub TakesBack : List SessionView → State → State → Type 0
TakesBack sessions old new = (s : State) (tag i : ℕ) (roots : List (List (List ℕ))) → granted s i roots ≡ Ok old
    → sessions ≡ first_sessions tag i (length s.handles) roots → IsAsItWas s new

-- ---- what is opened

-- the session of a number is new, and its handle is open on the directory at these names from the top
pub record HasRoot (s opening : State) (tag i : ℕ) (names : List (List ℕ))
    (session : Option SessionView) : Type 0 where
  pub handle : ℕ
  pub node : ℕ
  pub is_new : session ≡ Some (begun (record { tag = tag; actor = i }) handle)
  pub directory : directory_at s.nodes TOP names ≡ Ok node
  pub is_open : held opening i handle ≡ Some node

-- One session for each root, with an empty log. The opening is the tree with the roots granted, in their order, and
-- with nothing else: the nodes, and the handles from before, are as they were.
pub record IsOpened (s : State) (roots : List (List (List ℕ))) (tag lines : ℕ) (service : ServiceView)
    (sessions : List SessionView) : Type 0 where
  pub same_tag : service.tag ≡ tag
  pub count : service.count ≡ length roots
  pub same_lines : service.lines ≡ lines
  pub is_granted : granted s 0 roots ≡ Ok service.opening
  pub are_first : sessions ≡ first_sessions tag 0 (length s.handles) roots
  pub one_each : length sessions ≡ length roots
  pub nodes : service.opening.nodes ≡ s.nodes
  pub others : (a h : ℕ) → h < length s.handles → held service.opening a h ≡ held s a h
  pub each : (i : ℕ) (names : List (List ℕ)) → slice_get roots i ≡ Some names
      → HasRoot s service.opening tag i names (slice_get sessions i)
