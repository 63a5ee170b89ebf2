-- Worked histories in which a walk would end wrongly, each refused by what its end would have to tell: no word of them
-- speaks of the order of steps. And one in which the right end is a path that never stood there whole before.
use Rattle.std.specs.Prelude.{ℕ, List, [], ◌∷◌, ◌++◌, Some, codes}
use Rattle.path_text.specs.declared.errno.Errno.TheVariants.{NotFound}
use Rattle.path_text.specs.Text.{reading_of}
use Rattle.tree_model.specs.declared.answer.Answer.TheVariants.{Opened, Names, Done, Refused}
use Rattle.tree_model.specs.declared.answer.Event.{Event}
use Rattle.tree_model.specs.declared.step.Kind.TheVariants as kind
use Rattle.tree_model.specs.declared.step.Mode.TheVariants.{Plain}
use Rattle.tree_model.specs.declared.step.StepOf.TheVariants.{Open, Parent, NameBelow, Close, MakeFile, Rename}
use Rattle.tree_model.specs.State.{State}
use Rattle.tree_model.specs.BaseTree.{base_nodes}
use Rattle.walk_plan.specs.declared.goal.Goal.TheVariants.{Follow}
use Rattle.step_resolver.specs.Order.{Handle, Line, answered, Turn, found, failed, begins, events_of, LeadsTo}
use Rattle.step_resolver.specs.WalkHistory.{WalkInHistory, IsWalkInHistory, own_events}
use Rattle.step_resolver.specs.Headline.{Headline}
use Rattle.step_resolver.specs.WorkedPaths.{ROOT, plain}
use Rattle.step_resolver.specs.WorkedRace.{WALKER, MOVER}
use Rattle.headline_only.specs.Alone.{TellsAlone}

-- ---- what they share

-- the base tree, in which the one has /c open, and the other /c/a, /secret and /c
abbrev pub opening : State
opening = record {
  nodes = base_nodes;
  handles = Some (record { actor = WALKER; node = ROOT }) ∷ Some (record { actor = MOVER; node = 2 })
      ∷ Some (record { actor = MOVER; node = 9 }) ∷ Some (record { actor = MOVER; node = ROOT }) ∷ [];
}

-- a walk along a path below /c, what happens before it and meanwhile, and what it is told
abbrev pub walk_along : List ℕ → List Event → List Event → List Line → WalkInHistory
walk_along text before window lines = record {
  opening = opening;
  before = before;
  window = window;
  actor = WALKER;
  way = record { root = 0; goal = Follow; flags = plain };
  root = ROOT;
  path = reading_of text;
  lines = lines;
}

abbrev pub A : List ℕ
A = codes "a"

abbrev pub B : List ℕ
B = codes "b"

-- what the other moves, by its handles on /c/a, /secret and /c
abbrev pub moved : ℕ → List ℕ → ℕ → Event
moved from name to = record { actor = MOVER; step = Rename from name to name Plain; answer = Done }

abbrev pub told : List Line → List Event
told lines = events_of WALKER lines

abbrev pub dir_at : ℕ → ℕ → Handle
dir_at number node = record { number = number; node = node; kind = kind.Dir }

-- The history is legal, and no resolution that is held to the headline alone ends so in it, whichever lines it has for
-- these events.
pub record IsRefused (w : WalkInHistory) (end : Turn) : Type 0 where
  pub is_history : IsWalkInHistory w
  pub refused : TellsAlone w.way w.path w.actor [] (own_events w.actor w.window) end → ⊥

-- ---- another object

-- Along `a/b`, where nobody else acts: b is opened, and then closed in place of a.
abbrev pub lines_to_a : List Line
lines_to_a =
    answered (Open 0 A) (Opened 4 2 kind.Dir)
    ∷ answered (Open 4 B) (Opened 5 3 kind.Dir)
    ∷ answered (Close 5) Done
    ∷ answered (NameBelow 0 4) (Names (A ∷ []))
    ∷ []

abbrev pub another_object : WalkInHistory
another_object = walk_along (codes "a/b") [] (told lines_to_a) lines_to_a

-- ---- a check that is skipped

-- Along `a/b/..`, while b is moved to /secret: its parent is taken for a, and nobody asks where it stands.
abbrev pub lines_down : List Line
lines_down =
    answered (Open 0 A) (Opened 4 2 kind.Dir)
    ∷ answered (Open 4 B) (Opened 5 3 kind.Dir)
    ∷ answered (Close 4) Done
    ∷ []

abbrev pub lines_up : List Line
lines_up = answered (Parent 5) (Opened 6 9 kind.Dir) ∷ answered (Close 5) Done ∷ []

abbrev pub skipped_check : WalkInHistory
skipped_check = walk_along (codes "a/b/..") [] (told lines_down ++ moved 1 B 2 ∷ told lines_up) (lines_down ++ lines_up)

-- ---- a check of several moments

-- Along `a/b`, b being in /secret at first. Each step is right as it is made: a is in /c, b is in a, b's parent is a,
-- a's parent is /c. Yet b never stood at /c/a/b: a was out of /c while b was in it.
abbrev pub before_moments : List Event
before_moments = moved 1 B 2 ∷ []

abbrev pub open_a : List Line
open_a = answered (Open 0 A) (Opened 4 2 kind.Dir) ∷ []

abbrev pub open_b : List Line
open_b = answered (Open 4 B) (Opened 5 3 kind.Dir) ∷ answered (Parent 5) (Opened 6 2 kind.Dir) ∷ []

abbrev pub ask_parent : List Line
ask_parent =
    answered (Parent 6) (Opened 7 ROOT kind.Dir)
    ∷ answered (Close 4) Done
    ∷ answered (Close 6) Done
    ∷ answered (Close 7) Done
    ∷ []

abbrev pub several_moments : WalkInHistory
several_moments =
    walk_along (codes "a/b") before_moments
    (told open_a ++ moved 3 A 2 ∷ moved 2 B 1 ∷ told open_b ++ moved 1 B 2 ∷ moved 2 A 3 ∷ told ask_parent)
    (open_a ++ open_b ++ ask_parent)

-- ---- a remembered handle

-- Along `a/b/..`, while b is moved to /secret: the handle by which a was passed is taken for b's parent. It stands
-- where it is expected.
abbrev pub lines_kept : List Line
lines_kept =
    answered (Open 0 A) (Opened 4 2 kind.Dir)
    ∷ answered (Open 4 B) (Opened 5 3 kind.Dir)
    ∷ []

abbrev pub lines_back : List Line
lines_back = answered (Close 5) Done ∷ answered (NameBelow 0 4) (Names (A ∷ [])) ∷ []

abbrev pub remembered_handle : WalkInHistory
remembered_handle =
    walk_along (codes "a/b/..") [] (told lines_kept ++ moved 1 B 2 ∷ told lines_back) (lines_kept ++ lines_back)

-- ---- an entry that is made

-- Along `x`, which is missing: a file is made there, and the walk fails as if it had only looked.
abbrev pub lines_making : List Line
lines_making = answered (Open 0 (codes "x")) (Refused NotFound) ∷ answered (MakeFile 0 (codes "x")) Done ∷ []

abbrev pub entry_made : WalkInHistory
entry_made = walk_along (codes "x") [] (told lines_making) lines_making

-- ---- the right end

-- Along `a/b`, b being in /secret at first. It is moved to a once a is opened: what the walk opens was never there at a
-- moment before.
abbrev pub lines_found : List Line
lines_found =
    answered (Open 4 B) (Opened 5 3 kind.Dir)
    ∷ answered (Close 4) Done
    ∷ answered (NameBelow 0 5) (Names (A ∷ B ∷ []))
    ∷ []

abbrev pub found_late : WalkInHistory
found_late =
    walk_along (codes "a/b") before_moments (told open_a ++ moved 2 B 1 ∷ told lines_found) (open_a ++ lines_found)

abbrev pub found_end : Turn
found_end = found (dir_at 5 3) (B ∷ A ∷ [])

pub record FoundIsWorked : Type 0 where
  pub walked : IsWalkInHistory found_late
  pub ends : LeadsTo found_late.way (begins found_late.way found_late.path) found_late.lines found_end
  pub headline : Headline found_late found_end

-- ---- the law

pub record WrongEndsAreRefused : Type 0 where
  pub object : IsRefused another_object (found (dir_at 4 2) (A ∷ []))
  pub check : IsRefused skipped_check (found (dir_at 6 9) (A ∷ []))
  pub moments : IsRefused several_moments (found (dir_at 5 3) (B ∷ A ∷ []))
  pub remembered : IsRefused remembered_handle (found (dir_at 4 2) (A ∷ []))
  pub entry : IsRefused entry_made (failed NotFound)
