-- What a walk along a path still has to do (path_resolution(7); POSIX.1, 4.16 Pathname Resolution; openat2(2)).
use Rattle.std.specs.Prelude.{◌≡◌, ◌≤◌, ℕ, ◌+◌, ◌-◌, ◌*◌, ◌==◌, List, [], ◌∷◌, ◌++◌, length, take, Bool, true, false, not, ◌&&◌, ◌||◌, if◌then◌else◌, Option, Some, None}
use Rattle.path_text.specs.declared.errno.Errno.{Errno}
use Rattle.path_text.specs.declared.errno.Errno.TheVariants.{Loop, CrossRoot}
use Rattle.path_text.specs.declared.flags.Flags.{Flags}
use Rattle.path_text.specs.declared.part.Part.{Part}
use Rattle.path_text.specs.declared.part.Part.TheVariants.{Cur, Up, Named}
use Rattle.path_text.specs.declared.path.TheConstants.{PARTS_MAX}
use Rattle.path_text.specs.Reading.{Reading}
use Rattle.path_text.specs.Text.{text_fault, reading_of, begins_with_slash}
use Rattle.walk_plan.specs.declared.goal.Goal.{Goal}
use Rattle.walk_plan.specs.declared.goal.Goal.TheVariants.{Follow, NoFollow, Deepest}
use Rattle.walk_plan.specs.declared.plan.TheConstants.{LINKS_MAX}

pub record PlanState : Type 0 where
  -- the parts of links' texts, which come before the caller's own
  pub inner : List Part
  -- the parts of the caller's own path
  pub own : List Part
  -- the names passed, from the root to the place that the walk has come to, the outermost first
  pub names : List (List ℕ)
  pub links_left : ℕ
  pub goal : Goal
  pub flags : Flags

-- What every plan keeps: a path has at most 2,048 parts, and each link that was followed brought at most as many.
pub record IsPlan (p : PlanState) : Type 0 where
  pub few_links : p.links_left ≤ LINKS_MAX
  pub few_own : length p.own ≤ PARTS_MAX
  pub few_inner : length p.inner + PARTS_MAX * p.links_left ≤ PARTS_MAX * LINKS_MAX

-- the most parts that are still to be passed: those to come, and those of the links that may yet be followed
abbrev pub most_parts_left : PlanState → ℕ
most_parts_left p = length p.inner + length p.own + PARTS_MAX * p.links_left

-- all parts still to come, in order
abbrev pub parts_to_come : PlanState → List Part
parts_to_come p = p.inner ++ p.own

abbrev pub first_part : List Part → Option Part
first_part [] = None
first_part (part ∷ parts) = Some part

-- the next part, where one is left
abbrev pub next_part : PlanState → Option Part
next_part p = first_part (parts_to_come p)

abbrev pub is_single : List Part → Bool
is_single [] = false
is_single (part ∷ []) = true
is_single (part ∷ other ∷ parts) = false

-- the next part is the last one to come
abbrev pub is_last : PlanState → Bool
is_last p = is_single (parts_to_come p)

abbrev pub comes_from_own : List Part → List Part → Bool
comes_from_own [] [] = false
comes_from_own [] (part ∷ own) = true
comes_from_own (part ∷ inner) own = false

-- the next part is of the caller's own text
abbrev pub is_own : PlanState → Bool
is_own p = comes_from_own p.inner p.own

abbrev pub is_name : Option Part → Bool
is_name None = false
is_name (Some Cur) = false
is_name (Some Up) = false
is_name (Some (Named bytes)) = true

-- a link at the very last part of the caller's path is followed (O_NOFOLLOW of open(2))
abbrev pub follows : Goal → Bool
follows Follow = true
follows NoFollow = false
follows Deepest = true

-- The next part is a name at which a link is followed: at the very last part of the caller's text it is so
-- only where the goal says it, at any other part always (path_resolution(7), Final entry).
abbrev pub follows_next_link : PlanState → Bool
follows_next_link p = is_name (next_part p) && (follows p.goal || not (is_own p && is_last p))

abbrev pub after_first : List Part → List Part
after_first [] = []
after_first (part ∷ parts) = parts

-- the own parts after the next part was taken off, which is one of them where no other is to come before them
abbrev pub own_after_next : List Part → List Part → List Part
own_after_next [] own = after_first own
own_after_next (part ∷ inner) own = own

-- the next part taken off, and no more: at `.`, and at `..` where no name was passed
abbrev pub stayed : PlanState → PlanState
stayed p = record p { inner = after_first p.inner; own = own_after_next p.inner p.own }

-- the next part taken off, and the last name: at `..`
abbrev pub went_up : PlanState → PlanState
went_up p = record (stayed p) { names = take (length p.names - 1) p.names }

-- the next part taken off, and a name passed: at a name
abbrev pub went_down : PlanState → List ℕ → PlanState
went_down p name = record (stayed p) { names = p.names ++ name ∷ [] }

-- A link followed whose text is read like this: the text's parts come in the place of the next part, one link less
-- is left, and an absolute text leads back to the root.
abbrev pub spliced : PlanState → Reading → PlanState
spliced p text =
    record (stayed p) {
      inner = text.parts ++ after_first p.inner;
      names = if text.absolute then [] else p.names;
      links_left = p.links_left - 1;
    }

-- a link followed with this text: at a name
abbrev pub through : PlanState → List ℕ → PlanState
through p text = spliced p (reading_of text)

-- RESOLVE_BENEATH of openat2(2): neither a path nor a link's text may begin at the root
abbrev pub leads_out : Bool → Flags → Bool
leads_out absolute flags = flags.beneath && absolute

abbrev pub first_fault : Option Errno → Option Errno → Option Errno
first_fault None later = later
first_fault (Some fault) later = Some fault

-- Why a link with this text isn't followed, where it isn't: links are forbidden (RESOLVE_NO_SYMLINKS) or used
-- up, the text is no path, or it leads out.
abbrev pub through_fault : PlanState → List ℕ → Option Errno
through_fault p text =
    if p.flags.no_links || p.links_left == 0 then Some Loop
    else first_fault (text_fault text) (if leads_out (begins_with_slash text) p.flags then Some CrossRoot else None)

-- the plan of a path at the root, with nothing passed yet
abbrev pub begun : Reading → Goal → Flags → PlanState
begun path goal flags =
    record { inner = []; own = path.parts; names = []; links_left = LINKS_MAX; goal = goal; flags = flags }

-- at `.` the walk stays where it is, and at `..` where no name was passed
abbrev pub CanStay : Option Part → List (List ℕ) → Type 0
CanStay None names = ⊥
CanStay (Some Cur) names = Unit {0}
CanStay (Some Up) names = names ≡ []
CanStay (Some (Named bytes)) names = ⊥

-- the part is a name, and this holds of its bytes
abbrev pub IsNameAnd : Option Part → (List ℕ → Type 0) → Type 0
IsNameAnd None P = ⊥
IsNameAnd (Some Cur) P = ⊥
IsNameAnd (Some Up) P = ⊥
IsNameAnd (Some (Named bytes)) P = P bytes

-- this holds of the part's bytes, where it is a name
abbrev pub IfName : Option Part → (List ℕ → Type 0) → Type 0
IfName None P = Unit {0}
IfName (Some Cur) P = Unit {0}
IfName (Some Up) P = Unit {0}
IfName (Some (Named bytes)) P = P bytes
