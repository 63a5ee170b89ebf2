-- A walk that is driven to its end on a tree, where nobody else acts meanwhile.
use Rattle.std.specs.Prelude.{◌≡◌, ◌≢◌, ℕ, suc, ◌+◌, ◌≤◌, ◌<◌, ◌⊎◌, List, [], ◌∷◌, Bool, true, false, length, reverse, unwrap_or, Some, None, Result, Ok, Err}
use Rattle.path_text.specs.declared.errno.Errno.{Errno}
use Rattle.path_text.specs.declared.errno.Errno.TheVariants.{NoMemory}
use Rattle.path_text.specs.declared.flags.Flags.{Flags}
use Rattle.path_text.specs.Reading.{Reading}
use Rattle.tree_model.specs.declared.inode.Inode.{Inode}
use Rattle.tree_model.specs.declared.inode.Object.{Object}
use Rattle.tree_model.specs.declared.tree.TheConstants.{HANDLES_MAX, NUMBERS_MAX}
use Rattle.tree_model.specs.State.{State, TOP, Stands, object_at, is_dir}
use Rattle.tree_model.specs.Steps.{held, held_count, kind_of}
use Rattle.tree_model.specs.Trees.{IsState}
use Rattle.tree_model.specs.History.{IsLegal, after_events}
use Rattle.handles.specs.declared.owner.Owner.{Owner}
use Rattle.handles.specs.Objects.{StandingObject}
use Rattle.walk_plan.specs.declared.goal.Goal.{Goal}
use Rattle.step_resolver.specs.Asked.{asked, follows, is_deepest}
use Rattle.step_resolver.specs.Meaning.{Ground, Meant, object, fails, reading_means}
use Rattle.step_resolver.specs.Deepest.{Deep, whole, up_to, none, reading_deepest}
use Rattle.step_resolver.specs.TurnView.{STEPS_MAX}
use Rattle.step_resolver.specs.Order.{Way, Turn, Line, answered, no_room, not_made, events_of, LeadsTo, steps_left_at}
use Rattle.step_resolver.specs.declared.driver.Resolved.{Resolved}
use Rattle.step_resolver.specs.declared.driver.Resolved.TheVariants.{Found, Partial}

-- ---- before

-- the node that the actor holds by this handle
abbrev pub node_of : State → ℕ → ℕ → ℕ
node_of s a h = unwrap_or (held s a h) TOP

-- A tree in which the actor holds the directory r by this handle. It may open two handles more, and numbers are left
-- for what a walk opens.
pub record IsReady (s : State) (a h r : ℕ) : Type 0 where
  pub tree : IsState s
  pub held : held s a h ≡ Some r
  pub directory : is_dir s.nodes r ≡ true
  pub few : suc (held_count s a) < HANDLES_MAX
  pub numbers : length s.handles + STEPS_MAX < NUMBERS_MAX

-- ---- on the way

-- no step was left out but for want of memory
abbrev pub IsWithoutBook : List Line → Type 0
IsWithoutBook [] = Unit {0}
IsWithoutBook (answered step answer ∷ lines) = IsWithoutBook lines
IsWithoutBook (no_room step answer ∷ lines) = IsWithoutBook lines
IsWithoutBook (not_made error ∷ lines) = (error ≡ NoMemory) × IsWithoutBook lines

-- there are lines that lead from one turn to the other, and the actor's steps among them from one tree to the other,
-- which has the same nodes
pub record Drives (way : Way) (a : ℕ) (s : State) (from : Turn) (t : State) (to : Turn) : Type 0 where
  pub lines : List Line
  pub leads : LeadsTo way from lines to
  pub legal : IsLegal s (events_of a lines)
  pub after : after_events s (events_of a lines) ≡ t
  pub nodes : t.nodes ≡ s.nodes
  pub without_book : IsWithoutBook lines
  pub fewer : length lines + steps_left_at to ≤ steps_left_at from

-- ---- at the end

-- the object x, by what it is and the names at which it stands below the root
pub record IsObject (nodes : List Inode) (r x : ℕ) (standing : StandingObject) : Type 0 where
  pub node : standing.node ≡ x
  pub what : Object
  pub is_what : object_at nodes x ≡ Some what
  pub kind : standing.kind ≡ kind_of what
  pub names : Stands nodes r x (reverse standing.names)

-- what came of a path is what it means: its object or its error; unless there was no memory
abbrev pub Resolves : List Inode → ℕ → Meant → Result Resolved Errno → Type 0
Resolves nodes r (object x b reads) (Ok (Found standing)) = IsObject nodes r x standing
Resolves nodes r (object x b reads) (Ok (Partial standing rest)) = ⊥
Resolves nodes r (object x b reads) (Err error) = error ≡ NoMemory
Resolves nodes r (fails cause reads) (Ok resolved) = ⊥
Resolves nodes r (fails cause reads) (Err error) = (error ≡ NoMemory) ⊎ (error ≡ cause)

-- and so for the deepest directory, with the parts from the first missing name on
abbrev pub ResolvesDeep : List Inode → ℕ → Deep → Result Resolved Errno → Type 0
ResolvesDeep nodes r (whole x b reads) (Ok (Found standing)) = IsObject nodes r x standing
ResolvesDeep nodes r (whole x b reads) (Ok (Partial standing rest)) = ⊥
ResolvesDeep nodes r (whole x b reads) (Err error) = error ≡ NoMemory
ResolvesDeep nodes r (up_to x b missing reads) (Ok (Found standing)) = ⊥
ResolvesDeep nodes r (up_to x b missing reads) (Ok (Partial standing rest)) =
    IsObject nodes r x standing × (asked true rest ≡ missing)
ResolvesDeep nodes r (up_to x b missing reads) (Err error) = error ≡ NoMemory
ResolvesDeep nodes r (none cause reads) (Ok resolved) = ⊥
ResolvesDeep nodes r (none cause reads) (Err error) = (error ≡ NoMemory) ⊎ (error ≡ cause)

-- the tree's nodes as they stand, below the directory that the actor holds by this handle
abbrev pub ground_at : State → ℕ → ℕ → Flags → Ground
ground_at s a h flags = record { nodes = s.nodes; root = node_of s a h; flags = flags }

-- what comes of a path for a goal: for the deepest directory, or for the whole path
abbrev pub ResolvesFor : Bool → Ground → Reading → Goal → Result Resolved Errno → Type 0
ResolvesFor true g path goal result = ResolvesDeep g.nodes g.root (reading_deepest g path) result
ResolvesFor false g path goal result = Resolves g.nodes g.root (reading_means g path (follows goal)) result

abbrev pub ResolvesBelow : State → ℕ → ℕ → Reading → Goal → Flags → Result Resolved Errno → Type 0
ResolvesBelow s a h path goal flags result = ResolvesFor (is_deepest goal) (ground_at s a h flags) path goal result

abbrev pub standing_of : Resolved → StandingObject
standing_of (Found standing) = standing
standing_of (Partial standing rest) = standing

-- the actor's open handles are those from before; after an object was found one more, on the object
abbrev pub LeavesOwn : State → ℕ → State → Result Resolved Errno → Type 0
LeavesOwn s a t (Ok resolved) =
    (held t a (standing_of resolved).handle ≡ Some (standing_of resolved).node)
    × (held s a (standing_of resolved).handle ≡ None)
    × ((h : ℕ) → h ≢ (standing_of resolved).handle → held t a h ≡ held s a h)
LeavesOwn s a t (Err error) = (h : ℕ) → held t a h ≡ held s a h

-- and the handles of all others stay
pub record LeavesHandles (s : State) (a : ℕ) (t : State) (result : Result Resolved Errno) : Type 0 where
  pub own : LeavesOwn s a t result
  pub others : (b : ℕ) → b ≢ a → (h : ℕ) → held t b h ≡ held s b h

abbrev pub opened_count : Result Resolved Errno → ℕ
opened_count (Ok resolved) = 1
opened_count (Err error) = 0

-- the tree is one again, with at most so many more handles open, and so many more numbers given out
pub record LeavesRoom (s : State) (a : ℕ) (t : State) (result : Result Resolved Errno) : Type 0 where
  pub tree : IsState t
  pub few : held_count t a ≤ opened_count result + held_count s a
  pub numbers : length t.handles ≤ length s.handles + STEPS_MAX

-- what was opened is this owner's
abbrev pub IsOwned : Owner → Result Resolved Errno → Type 0
IsOwned owner (Ok resolved) = (standing_of resolved).owner ≡ owner
IsOwned owner (Err error) = Unit {0}
