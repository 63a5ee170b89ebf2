-- What holds of histories: statements of laws.
use Rattle.std.specs.Prelude.{◌≡◌, ◌≢◌, ◌↔◌, ℕ, suc, ◌+◌, ◌≤◌, List, [], ◌∷◌, ◌++◌, take, drop, length, slice_get, Some}
use Rattle.std.specs.List.{All}
use Rattle.tree_model.specs.declared.answer.Event.{Event}
use Rattle.tree_model.specs.declared.inode.Object.{Object}
use Rattle.tree_model.specs.History.{after_event, after_events, IsLegal, tree_at}
use Rattle.tree_model.specs.State.{State, object_at}
use Rattle.tree_model.specs.Steps.{outcome, held}
use Rattle.tree_model.specs.Trees.{IsState}

-- a history is legal exactly where each event's answer is that of the step table at its moment
abbrev pub LegalAtEachMoment : Type 0
LegalAtEachMoment = (s : State) (events : List Event)
    → IsLegal s events
    ↔ ((m : ℕ) (event : Event) → slice_get events m ≡ Some event
    → event.answer ≡ (outcome (tree_at s events m) event.actor event.step).answer)

-- and each event leads from the tree at its moment to that at the next
abbrev pub EventsLeadOn : Type 0
EventsLeadOn = (s : State) (events : List Event) (m : ℕ) (event : Event) → slice_get events m ≡ Some event
    → tree_at s events (suc m) ≡ after_event (tree_at s events m) event

-- the first tree is the opening one, and the last is that after all events
abbrev pub TreesBeginAndEnd : Type 0
TreesBeginAndEnd = (s : State) (events : List Event)
    → (tree_at s events 0 ≡ s) × (tree_at s events (length events) ≡ after_events s events)

-- two histories make one where the second begins at the tree that the first leaves
abbrev pub LegalHistoriesJoin : Type 0
LegalHistoriesJoin = (s : State) (first second : List Event)
    → (IsLegal s (first ++ second) ↔ (IsLegal s first × IsLegal (after_events s first) second))
    × (after_events s (first ++ second) ≡ after_events (after_events s first) second)

-- a legal history goes on by one event exactly where that has the step table's answer
abbrev pub LegalGoesOn : Type 0
LegalGoesOn = (s : State) (events : List Event) (event : Event)
    → IsLegal s (events ++ event ∷ [])
    ↔ (IsLegal s events × (event.answer ≡ (outcome (after_events s events) event.actor event.step).answer))

-- a legal history is legal up to each moment, and from each moment on
abbrev pub LegalWhenCut : Type 0
LegalWhenCut = (s : State) (events : List Event) (m : ℕ) → IsLegal s events
    → IsLegal s (take m events) × IsLegal (tree_at s events m) (drop m events)

-- at each moment there is a tree
abbrev pub HistoriesKeepTrees : Type 0
HistoriesKeepTrees = (s : State) (events : List Event) → IsState s
    → IsState (after_events s events) × ((m : ℕ) → IsState (tree_at s events m))

-- what a node is at one moment it is at all later ones
abbrev pub ObjectsStayForGood : Type 0
ObjectsStayForGood = (s : State) (events : List Event) (m k x : ℕ) (object : Object) → m ≤ k
    → object_at (tree_at s events m).nodes x ≡ Some object → object_at (tree_at s events k).nodes x ≡ Some object

-- a history has at most one new node, and one new number of a handle, for each of its events
abbrev pub NumbersGrowByEvents : Type 0
NumbersGrowByEvents = (s : State) (events : List Event)
    → (length (after_events s events).nodes ≤ length s.nodes + length events)
    × (length (after_events s events).handles ≤ length s.handles + length events)

-- while only others take steps, an actor's handles stay
abbrev pub HandlesStayAmongOthers : Type 0
HandlesStayAmongOthers = (s : State) (events : List Event) (b : ℕ) → All (λ event. event.actor ≢ b) events
    → (h : ℕ) → held (after_events s events) b h ≡ held s b h
