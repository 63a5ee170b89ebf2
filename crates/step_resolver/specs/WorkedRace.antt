-- One race, computed: a walk along `a/b/..` below /c, whose directory /c/a/b another moves to /secret/b meanwhile.
use Rattle.std.specs.Prelude.{ℕ, List, [], ◌∷◌, ◌++◌, Some, codes}
use Rattle.path_text.specs.declared.errno.Errno.TheVariants.{Raced}
use Rattle.path_text.specs.Text.{reading_of}
use Rattle.tree_model.specs.declared.answer.Answer.TheVariants.{Opened, NotBelow, Done}
use Rattle.tree_model.specs.declared.answer.Event.{Event}
use Rattle.tree_model.specs.declared.step.Kind.TheVariants as kind
use Rattle.tree_model.specs.declared.step.Mode.TheVariants.{Plain}
use Rattle.tree_model.specs.declared.step.StepOf.TheVariants.{Open, Parent, NameBelow, Close, Rename}
use Rattle.tree_model.specs.State.{State}
use Rattle.tree_model.specs.BaseTree.{base_nodes}
use Rattle.walk_plan.specs.declared.goal.Goal.TheVariants.{Follow}
use Rattle.step_resolver.specs.Asked.{follows}
use Rattle.step_resolver.specs.Meaning.{reads_of, reading_means}
use Rattle.step_resolver.specs.Order.{Line, answered, failed, begins, events_of, LeadsTo}
use Rattle.step_resolver.specs.WalkHistory.{WalkInHistory, IsWalkInHistory}
use Rattle.step_resolver.specs.Footprint.{ground}
use Rattle.step_resolver.specs.Headline.{Tells}
use Rattle.step_resolver.specs.FootprintLaws.{SomeIsChanged}
use Rattle.step_resolver.specs.WorkedPaths.{ROOT, plain}

-- who walks, and who moves the directory
abbrev pub WALKER : ℕ
WALKER = 7

abbrev pub MOVER : ℕ
MOVER = 8

-- the base tree, in which the one has /c open, and the other /c/a and /secret
abbrev pub race_opening : State
race_opening = record {
  nodes = base_nodes;
  handles = Some (record { actor = WALKER; node = ROOT }) ∷ Some (record { actor = MOVER; node = 2 })
      ∷ Some (record { actor = MOVER; node = 9 }) ∷ [];
}

-- down to b
abbrev pub lines_down : List Line
lines_down =
    answered (Open 0 (codes "a")) (Opened 3 2 kind.Dir)
    ∷ answered (Open 3 (codes "b")) (Opened 4 3 kind.Dir)
    ∷ answered (Close 3) Done
    ∷ []

-- b is moved away
abbrev pub move : Event
move = record { actor = MOVER; step = Rename 1 (codes "b") 2 (codes "b") Plain; answer = Done }

-- up from b, to /secret, which isn't below /c
abbrev pub lines_up : List Line
lines_up =
    answered (Parent 4) (Opened 5 9 kind.Dir)
    ∷ answered (Close 4) Done
    ∷ answered (NameBelow 0 5) NotBelow
    ∷ answered (Close 5) Done
    ∷ []

abbrev pub race : WalkInHistory
race = record {
  opening = race_opening;
  before = [];
  window = events_of WALKER lines_down ++ move ∷ events_of WALKER lines_up;
  actor = WALKER;
  way = record { root = 0; goal = Follow; flags = plain };
  root = ROOT;
  path = reading_of (codes "a/b/..");
  lines = lines_down ++ lines_up;
}

-- It is a walk in a legal history, it ends in EAGAIN, and tells why; and the entry that was changed is among those
-- that the path reads.
pub record RaceIsWorked : Type 0 where
  pub walked : IsWalkInHistory race
  pub ends : LeadsTo race.way (begins race.way race.path) race.lines (failed Raced)
  pub tells : Tells race (failed Raced)
  pub changed : SomeIsChanged race (reads_of (reading_means (ground race) race.path (follows race.way.goal)))
