-- What holds of every step on a tree: the words that the laws' statements use, and the statements.
use Rattle.std.specs.Prelude.{◌≡◌, ◌≢◌, ℕ, suc, ◌+◌, ◌≤◌, ◌==◌, Bool, true, false, List, length, Some, None, is_some, Ok}
use Rattle.std.specs.List.{count_by}
use Rattle.std.specs.Option.{option_map}
use Rattle.tree_model.specs.declared.answer.Answer.{Answer}
use Rattle.tree_model.specs.declared.answer.Answer.TheVariants.{Opened, Text, Names, NotBelow, Listed, Done, Refused}
use Rattle.tree_model.specs.declared.inode.Object.{Object}
use Rattle.tree_model.specs.declared.step.Kind.{Kind}
use Rattle.tree_model.specs.StepWith.{StepWith}
use Rattle.tree_model.specs.declared.step.StepOf.TheVariants.{Open, Dup, Parent, ReadLink, NameBelow, List as ListNames, Close, MakeDir, MakeFile, MakeLink, RemoveFile, RemoveDir, Rename}
use Rattle.tree_model.specs.declared.tree.TheConstants.{HANDLES_MAX, NUMBERS_MAX}
use Rattle.tree_model.specs.State.{State, object_at}
use Rattle.tree_model.specs.Steps.{outcome, held, held_count, kind_of, with_handle, grants}
use Rattle.tree_model.specs.Trees.{IsState}

-- ---- kinds of answers and steps

-- the answers that come with no change of the tree
abbrev pub only_tells : Answer → Bool
only_tells (Opened h x kind) = false
only_tells (Text text) = true
only_tells (Names names) = true
only_tells NotBelow = true
only_tells (Listed names) = true
only_tells Done = false
only_tells (Refused error) = true

-- the steps on entries; the others are on handles, or tell something
abbrev pub is_on_entries : StepWith ℕ → Bool
is_on_entries (Open h n) = false
is_on_entries (Dup h) = false
is_on_entries (Parent h) = false
is_on_entries (ReadLink h) = false
is_on_entries (NameBelow r h) = false
is_on_entries (ListNames h) = false
is_on_entries (Close h) = false
is_on_entries (MakeDir h n) = true
is_on_entries (MakeFile h n) = true
is_on_entries (MakeLink h n text) = true
is_on_entries (RemoveFile h n) = true
is_on_entries (RemoveDir h n) = true
is_on_entries (Rename h n k m mode) = true

-- the step is the Close of that handle
abbrev pub is_close_of : ℕ → StepWith ℕ → Bool
is_close_of k (Close h) = h == k
is_close_of k (Open h n) = false
is_close_of k (Dup h) = false
is_close_of k (Parent h) = false
is_close_of k (ReadLink h) = false
is_close_of k (NameBelow r h) = false
is_close_of k (ListNames h) = false
is_close_of k (MakeDir h n) = false
is_close_of k (MakeFile h n) = false
is_close_of k (MakeLink h n text) = false
is_close_of k (RemoveFile h n) = false
is_close_of k (RemoveDir h n) = false
is_close_of k (Rename h n m p mode) = false

-- how many handles are open
abbrev pub open_count : State → ℕ
open_count s = count_by is_some s.handles

-- how many handles a step with this answer has opened, and how many it has closed
abbrev pub opened_count : Answer → ℕ
opened_count (Opened h x kind) = 1
opened_count answer = 0

abbrev pub closed_count : Answer → StepWith ℕ → ℕ
closed_count Done (Close h) = 1
closed_count answer step = 0

-- no number is too large, and no actor has too many handles open
pub record IsWithinLimits (s : State) : Type 0 where
  pub nodes : length s.nodes ≤ NUMBERS_MAX
  pub handles : length s.handles ≤ NUMBERS_MAX
  pub held : (a : ℕ) → held_count s a ≤ HANDLES_MAX

-- ---- the laws

-- every step of every actor leads from a tree to a tree
abbrev pub StepsKeepTrees : Type 0
StepsKeepTrees = (s : State) (a : ℕ) (step : StepWith ℕ) → IsState s → IsState (outcome s a step).after

-- so does a handle that is granted
abbrev pub GrantsKeepTrees : Type 0
GrantsKeepTrees = (s t : State) (a : ℕ) (names : List (List ℕ)) → IsState s → grants s a names ≡ Ok t → IsState t

-- a refused step changes nothing, and neither does one that is answered with a text, names or a listing
abbrev pub TellingChangesNothing : Type 0
TellingChangesNothing = (s : State) (a : ℕ) (step : StepWith ℕ) → only_tells (outcome s a step).answer ≡ true
    → (outcome s a step).after ≡ s

-- a step that isn't on entries leaves the nodes
abbrev pub NodesAreLeft : Type 0
NodesAreLeft = (s : State) (a : ℕ) (step : StepWith ℕ) → is_on_entries step ≡ false
    → (outcome s a step).after.nodes ≡ s.nodes

-- a step on entries leaves the handles
abbrev pub HandlesAreLeft : Type 0
HandlesAreLeft = (s : State) (a : ℕ) (step : StepWith ℕ) → is_on_entries step ≡ true
    → (outcome s a step).after.handles ≡ s.handles

-- there are never fewer nodes, nor fewer numbers of handles
abbrev pub NumbersGrow : Type 0
NumbersGrow = (s : State) (a : ℕ) (step : StepWith ℕ)
    → (length s.nodes ≤ length (outcome s a step).after.nodes)
    × (length s.handles ≤ length (outcome s a step).after.handles)

-- and a step brings at most one of each
abbrev pub NumbersGrowByOne : Type 0
NumbersGrowByOne = (s : State) (a : ℕ) (step : StepWith ℕ)
    → (length (outcome s a step).after.nodes ≤ suc (length s.nodes))
    × (length (outcome s a step).after.handles ≤ suc (length s.handles))

-- a node stays what it is
abbrev pub ObjectsStay : Type 0
ObjectsStay = (s : State) (a : ℕ) (step : StepWith ℕ) (x : ℕ) (object : Object)
    → object_at s.nodes x ≡ Some object → object_at (outcome s a step).after.nodes x ≡ Some object

-- a step of one actor leaves the others' handles
abbrev pub OthersHandlesStay : Type 0
OthersHandlesStay = (s : State) (a : ℕ) (step : StepWith ℕ) (b h : ℕ) → b ≢ a
    → held (outcome s a step).after b h ≡ held s b h

-- an open handle stays open on its node, but for the one that is closed
abbrev pub OwnHandlesStay : Type 0
OwnHandlesStay = (s : State) (a : ℕ) (step : StepWith ℕ) (h x : ℕ)
    → held s a h ≡ Some x → is_close_of h step ≡ false → held (outcome s a step).after a h ≡ Some x

-- a closed handle is open to nobody
abbrev pub ClosedIsClosed : Type 0
ClosedIsClosed = (s : State) (a h : ℕ) → (outcome s a (Close h)).answer ≡ Done → (b : ℕ)
    → held (outcome s a (Close h)).after b h ≡ None

-- what is opened is open from then on, at the next number, on the node that was answered, which is what was answered
abbrev pub OpenedIsOpen : Type 0
OpenedIsOpen = (s : State) (a : ℕ) (step : StepWith ℕ) (h x : ℕ) (kind : Kind)
    → (outcome s a step).answer ≡ Opened h x kind
    → (h ≡ length s.handles) × (held (outcome s a step).after a h ≡ Some x)
    × ((outcome s a step).after ≡ with_handle s a x)
    × (option_map kind_of (object_at s.nodes x) ≡ Some kind)

-- the actor's open handles, and all open handles, are one more for each that was opened and one fewer for each that
-- was closed
abbrev pub HandlesAreCounted : Type 0
HandlesAreCounted = (s : State) (a : ℕ) (step : StepWith ℕ)
    → (held_count (outcome s a step).after a + closed_count (outcome s a step).answer step
    ≡ held_count s a + opened_count (outcome s a step).answer)
    × (open_count (outcome s a step).after + closed_count (outcome s a step).answer step
    ≡ open_count s + opened_count (outcome s a step).answer)

-- and the others' stay as many
abbrev pub OthersCountsStay : Type 0
OthersCountsStay = (s : State) (a : ℕ) (step : StepWith ℕ) (b : ℕ) → b ≢ a
    → held_count (outcome s a step).after b ≡ held_count s b

-- no step leads past the limits
abbrev pub LimitsAreKept : Type 0
LimitsAreKept = (s : State) (a : ℕ) (step : StepWith ℕ) → IsWithinLimits s → IsWithinLimits (outcome s a step).after
