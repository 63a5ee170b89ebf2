-- What a contract sees of a walk: the order's walk, read off its plan and what it holds.
use Rattle.std.specs.Prelude.{◌≡◌, ◌≤◌, ◌<◌, ℕ, ◌-◌, List, [], ◌∷◌, Bool, true, false, not, length, reverse, Option, Some, None, IsSome, IsTrue}
use Rattle.std.specs.Option.{option_to_list}
use Rattle.path_text.specs.declared.errno.Errno.{Errno}
use Rattle.path_text.specs.declared.errno.Errno.TheVariants.{Raced, BadHandle}
use Rattle.path_text.specs.declared.flags.Flags.{Flags}
use Rattle.path_text.specs.declared.name.TheConstants.{NAME_MAX}
use Rattle.path_text.specs.declared.part.Part.{Part}
use Rattle.path_text.specs.declared.part.Part.TheVariants as part
use Rattle.tree_model.specs.declared.answer.Answer.{Answer}
use Rattle.tree_model.specs.declared.answer.Answer.TheVariants.{Opened, Text, Names, NotBelow, Listed, Done, Refused}
use Rattle.handles.specs.declared.owner.Owner.{Owner}
use Rattle.handles.specs.Objects.{ReachedObject}
use Rattle.walk_plan.specs.declared.goal.Goal.{Goal}
use Rattle.walk_plan.specs.Plan.{PlanState, IsNameAnd, next_part, is_own, is_name, stayed}
use Rattle.walk_plan.specs.Plan as plan
use Rattle.step_resolver.specs.Asked.{AskedPart, asked, followed, follows}
use Rattle.step_resolver.specs.Order.{Way, Handle, Position, root_itself, holds, Todo, todo, After, gives, onward, judges, Walking, opening, reading, rising, judging, duping, ending, closing, Turn, is_dir_kind, is_dir_position, names_of, goes_on, enters}
use Rattle.step_resolver.specs.declared.walk.Root.{Root}
use Rattle.step_resolver.specs.declared.course.Course.{Course}
use Rattle.step_resolver.specs.declared.pending.AfterClose.{AfterClose}
use Rattle.step_resolver.specs.declared.pending.AfterClose.TheVariants.{Gives, Onward, Judges}
use Rattle.step_resolver.specs.declared.pending.Pending.{Pending}
use Rattle.step_resolver.specs.declared.pending.Pending.TheVariants.{Opening, Reading, Rising, Judging, Duping, Ending, Closing}

-- whose walk it is, what stays the same for it, and what is due
pub record WalkView : Type 0 where
  pub owner : Owner
  pub way : Way
  pub walking : Walking

abbrev pub way_from : Root → Goal → Flags → Way
way_from root goal flags = record { root = root.handle; goal = goal; flags = flags }

abbrev pub way_of : Root → PlanState → Way
way_of root p = way_from root p.goal p.flags

-- ---- what is held

abbrev pub handle_of : ReachedObject → Handle
handle_of r = record { number = r.handle; node = r.node; kind = r.kind }

-- the place, at these names from the root down
abbrev pub place_of : Option ReachedObject → List (List ℕ) → Position
place_of None names = root_itself
place_of (Some held) names = holds (handle_of held) (reverse names)

abbrev pub numbers_of : Option ReachedObject → List ℕ
numbers_of None = []
numbers_of (Some held) = held.handle ∷ []

abbrev pub is_directory_at : Option ReachedObject → Bool
is_directory_at None = true
is_directory_at (Some held) = is_dir_kind held.kind

-- ---- what the plan has to do

-- the caller's own parts to come
abbrev pub own_to_come : PlanState → List AskedPart
own_to_come p = asked (follows p.goal) p.own

abbrev pub todo_of : PlanState → Todo
todo_of p = todo (followed p.inner) (own_to_come p) p.links_left

-- the bytes of the name that the next part is
abbrev pub name_in : Option Part → List ℕ
name_in None = []
name_in (Some part.Cur) = []
name_in (Some part.Up) = []
name_in (Some (part.Named n)) = n

-- at this part the walk stays where it is: at `.`, and at `..` in the root where it may
abbrev pub stays_at : Option Part → List (List ℕ) → Flags → Bool
stays_at None names flags = false
stays_at (Some part.Cur) names flags = true
stays_at (Some part.Up) [] flags = not flags.beneath
stays_at (Some part.Up) (n ∷ names) flags = false
stays_at (Some (part.Named n)) names flags = false

abbrev pub stays : PlanState → Bool
stays p = stays_at (next_part p) p.names p.flags

-- From a directory at the names passed, the walk goes on with either plan in the same way.
pub record SameCourse (p q : PlanState) : Type 0 where
  pub names : q.names ≡ p.names
  pub goal : q.goal ≡ p.goal
  pub flags : q.flags ≡ p.flags
  pub same : (way : Way) (position : Position) → way.flags ≡ p.flags → is_dir_position position ≡ true
      → names_of position ≡ reverse p.names → goes_on way position (todo_of q) ≡ goes_on way position (todo_of p)

-- what was opened is entered, with room for one more name or without
abbrev pub EntersBy : Way → Position → List ℕ → Handle → Todo → Turn → Type 0
EntersBy way position n new rest turn = (room : Bool) × (turn ≡ enters way room position n new rest)

-- ---- the walk

-- the walk at what is held, where something is
abbrev pub at_held : Option ReachedObject → (ReachedObject → Walking) → Walking
at_held None step = duping []
at_held (Some held) step = step held

abbrev pub after_of : PlanState → Option ReachedObject → AfterClose → After
after_of p place (Gives error) = gives error
after_of p place Onward = onward (place_of place p.names) (todo_of p)
after_of p None Judges = gives BadHandle
after_of p (Some held) Judges = judges (handle_of held) (reverse p.names) (todo_of p)

abbrev pub walking_of : PlanState → Option ReachedObject → Pending → Walking
walking_of p place Opening =
    opening (place_of place p.names) (is_own p) (plan.follows_next_link p) (name_in (next_part p)) (todo_of (stayed p))
walking_of p place (Reading link) =
    reading (place_of place p.names) (handle_of link) (todo_of (record (stayed p) { links_left = p.links_left - 1 }))
walking_of p place Rising = at_held place (λ held. rising (handle_of held) (reverse p.names) (todo_of p))
walking_of p place Judging = at_held place (λ held. judging (handle_of held) (reverse p.names) (todo_of p))
walking_of p place Duping = duping (own_to_come p)
walking_of p place Ending = at_held place (λ held. ending (handle_of held) (reverse p.names) (own_to_come p))
walking_of p place (Closing first second after) = closing first (option_to_list second) (after_of p place after)

abbrev pub view_of : Course → Option ReachedObject → Pending → WalkView
view_of course place pending =
    record {
      owner = course.root.owner;
      way = way_of course.root course.plan;
      walking = walking_of course.plan place pending;
    }

-- ---- what every walk keeps

-- what is held is this owner's
abbrev pub IsHeldBy : Owner → Option ReachedObject → Type 0
IsHeldBy owner None = Unit {0}
IsHeldBy owner (Some held) = held.owner ≡ owner

-- no name was passed where nothing is held
abbrev pub IsPlace : List (List ℕ) → Option ReachedObject → Type 0
IsPlace names None = names ≡ []
IsPlace names (Some held) = Unit {0}

abbrev pub IsAfter : List (List ℕ) → Option ReachedObject → AfterClose → Type 0
IsAfter names place (Gives error) = place ≡ None
IsAfter names place Onward = IsPlace names place
IsAfter names place Judges = IsSome place

-- the next part is a name that can be looked up
abbrev pub IsAtName : PlanState → Type 0
IsAtName p = IsNameAnd (next_part p) (λ n. length n ≤ NAME_MAX)

-- a link at the next part may be followed
pub record MayFollow (p : PlanState) : Type 0 where
  pub named : IsTrue (is_name (next_part p))
  pub allowed : p.flags.no_links ≡ false
  pub left : 0 < p.links_left

abbrev pub IsPending : PlanState → Option ReachedObject → Pending → Type 0
IsPending p place Opening = IsPlace p.names place × IsAtName p
IsPending p place (Reading link) = IsPlace p.names place × MayFollow p
IsPending p place Rising = IsSome place
IsPending p place Judging = IsSome place
IsPending p place Duping = (place ≡ None) × (p.names ≡ []) × (p.inner ≡ [])
IsPending p place Ending = IsSome place × (p.inner ≡ [])
IsPending p place (Closing first second after) = IsAfter p.names place after

-- the step holds no link
abbrev pub HoldsNoLink : Pending → Type 0
HoldsNoLink Opening = Unit {0}
HoldsNoLink (Reading link) = ⊥
HoldsNoLink Rising = Unit {0}
HoldsNoLink Judging = Unit {0}
HoldsNoLink Duping = Unit {0}
HoldsNoLink Ending = Unit {0}
HoldsNoLink (Closing first second after) = Unit {0}

-- no handle is held while the step is made
abbrev pub HoldsNothing : Option ReachedObject → Pending → Type 0
HoldsNothing place pending = (place ≡ None) × HoldsNoLink pending

-- the last check is due
abbrev pub is_ending : Pending → Bool
is_ending Opening = false
is_ending (Reading link) = false
is_ending Rising = false
is_ending Judging = false
is_ending Duping = false
is_ending Ending = true
is_ending (Closing first second after) = false

-- ---- the same of a course

abbrev pub course_way : Course → Way
course_way course = way_of course.root course.plan

abbrev pub position_at : Course → Option ReachedObject → Position
position_at course place = place_of place course.plan.names

-- ---- what is due, and what answers come to

-- why a check of a place failed: other names, or none
abbrev pub check_refusal : Answer → Errno
check_refusal (Names told) = Raced
check_refusal NotBelow = Raced
check_refusal (Opened h x kind) = BadHandle
check_refusal (Text text) = BadHandle
check_refusal (Listed names) = BadHandle
check_refusal Done = BadHandle
check_refusal (Refused error) = error
