-- Closing a service: what the book's history and the sessions' logs are to each other.
use Rattle.std.specs.Prelude.{◌≡◌, ℕ, zero, suc, ◌<◌, ◌==◌, ◌||◌, Bool, true, false, not, List, take, length, slice_get, nat_lt, if◌then◌else◌, Option, Some, None}
use Rattle.std.specs.List.{list_any}
use Rattle.tree_model.specs.declared.answer.Event.{Event}
use Rattle.tree_model.specs.History.{IsLegal, after_events}
use Rattle.tree_model.specs.State.{State}
use Rattle.step_resolver.specs.WalkHistory.{own_events}
use Rattle.race_core.specs.Book.{BookedHistory, free_lines}
use Rattle.sessions.specs.declared.close.CloseCause.{CloseCause}
use Rattle.sessions.specs.declared.close.CloseCause.TheVariants.{Stranger, Missing, Opening, Mismatch}
use Rattle.sessions.specs.Session.{SessionView}

-- a service out of its lock
pub record StoppedView : Type 0 where
  pub book : BookedHistory
  pub tag : ℕ
  pub count : ℕ
  pub lines : ℕ
  pub opening : State

abbrev pub or_else : Option ℕ → Option ℕ → Option ℕ
or_else (Some i) other = Some i
or_else None other = other

-- the least number below a bound at which the test is true
abbrev pub least : (ℕ → Bool) → ℕ → Option ℕ
least test zero = None
least test (suc n) = or_else (least test n) (if test n then Some n else None)

-- ---- the causes

-- none of the service's sessions, or of a number that one of these has
abbrev pub is_strange : StoppedView → List SessionView → SessionView → Bool
is_strange z before s = not (s.owner.tag == z.tag) || not (nat_lt s.owner.actor z.count)
    || list_any (λ t. t.owner.actor == s.owner.actor) before

abbrev pub is_strange_at : StoppedView → List SessionView → Option SessionView → Bool
is_strange_at z before None = false
is_strange_at z before (Some s) = is_strange z before s

-- the session at a place is strange, or has the number of one before it
abbrev pub is_stranger : StoppedView → List SessionView → ℕ → Bool
is_stranger z ss p = is_strange_at z (take p ss) (slice_get ss p)

-- no session has the number
abbrev pub is_missing : List SessionView → ℕ → Bool
is_missing ss i = not (list_any (λ s. s.owner.actor == i) ss)

-- each event is of a session's number
abbrev pub AllKnown : ℕ → List Event → Type 0
AllKnown count events = (t : ℕ) (event : Event) → slice_get events t ≡ Some event → event.actor < count

-- the book was opened on the service's tree with its lines, and has its sessions' events alone
abbrev pub HasItsHistory : StoppedView → Type 0
HasItsHistory z = (z.opening ≡ z.book.opening) × ((z.lines ≡ z.book.lines) × AllKnown z.count z.book.events)

-- the log is the session's own events, each once and in their order; and it is marked only where the book is full
abbrev pub IsFit : StoppedView → SessionView → Type 0
IsFit z s = (s.log ≡ own_events s.owner.actor z.book.events) × (s.marked ≡ true → free_lines z.book < 2)

-- where there is a session, and it has the number
abbrev pub FitsAt : StoppedView → ℕ → Option SessionView → Type 0
FitsAt z i None = Unit {0}
FitsAt z i (Some s) = s.owner.actor ≡ i → IsFit z s

-- each session of a number is fit
abbrev pub AllFit : StoppedView → List SessionView → ℕ → Type 0
AllFit z ss i = (p : ℕ) → FitsAt z i (slice_get ss p)

-- the least number whose session isn't
abbrev pub FirstUnfit : StoppedView → List SessionView → ℕ → Type 0
FirstUnfit z ss i = (i < z.count) × ((AllFit z ss i → ⊥) × ((j : ℕ) → j < i → AllFit z ss j))

abbrev pub NoneStrange : StoppedView → List SessionView → Type 0
NoneStrange z ss = least (is_stranger z ss) (length ss) ≡ None

abbrev pub NoneMissing : StoppedView → List SessionView → Type 0
NoneMissing z ss = least (is_missing ss) z.count ≡ None

-- a cause holds, and none that comes before it
abbrev pub IsCause : StoppedView → List SessionView → CloseCause → Type 0
IsCause z ss (Stranger p) = least (is_stranger z ss) (length ss) ≡ Some p
IsCause z ss (Missing i) = NoneStrange z ss × (least (is_missing ss) z.count ≡ Some i)
IsCause z ss Opening = NoneStrange z ss × (NoneMissing z ss × (HasItsHistory z → ⊥))
IsCause z ss (Mismatch i) = NoneStrange z ss × (NoneMissing z ss × (HasItsHistory z × FirstUnfit z ss i))

-- no cause holds
pub record IsClosable (z : StoppedView) (ss : List SessionView) : Type 0 where
  pub none_strange : NoneStrange z ss
  pub none_missing : NoneMissing z ss
  pub history : HasItsHistory z
  pub fit : (i : ℕ) → i < z.count → AllFit z ss i

-- ---- a closed service

-- The history is legal from the opening, and the tree its last; each session's log is its own events, and there are
-- no others; and each number has its session.
pub record IsClosed (z : StoppedView) (ss : List SessionView) (tree : State) (events : List Event)
    (opening : State) : Type 0 where
  pub same_opening : opening ≡ z.opening
  pub legal : IsLegal opening events
  pub last : tree ≡ after_events opening events
  pub own : (p : ℕ) (s : SessionView) → slice_get ss p ≡ Some s → s.log ≡ own_events s.owner.actor events
  pub known : AllKnown z.count events
  pub all_there : (i : ℕ) → i < z.count
      → (p : ℕ) × ((s : SessionView) × ((slice_get ss p ≡ Some s) × (s.owner.actor ≡ i)))
