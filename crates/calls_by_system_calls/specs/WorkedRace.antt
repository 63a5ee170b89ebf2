-- One race with a change, computed, as Linux might answer it: a directory is made at a/b/../new below /c of the base
-- tree. /c/a is below the root as its place is asked for. Another moves /c/a to /secret/a before mkdirat(2). So what is
-- supposed of a call can be met.
use Rattle.std.specs.Prelude.{◌≡◌, ℕ, List, [], ◌∷◌, ◌==◌, if◌then◌else◌, false, Some, None, codes}
use Rattle.tree_model.specs.declared.answer.Answer.TheVariants.{Opened, Names, Done}
use Rattle.tree_model.specs.declared.answer.Event.{Event}
use Rattle.tree_model.specs.declared.step.Kind.TheVariants as kind
use Rattle.tree_model.specs.declared.step.Mode.TheVariants.{Plain}
use Rattle.tree_model.specs.declared.step.StepOf.TheVariants.{Open, Parent, NameBelow, MakeDir, Close, Rename}
use Rattle.tree_model.specs.State.{State, child, names_below}
use Rattle.tree_model.specs.BaseTree.{base_nodes}
use Rattle.step_resolver.specs.Order.{Line, answered}
use Rattle.root_ops.specs.declared.below.Below.{Below}
use Rattle.calls_by_system_calls.specs.Joined.{LinesAreMade}
use Rattle.calls_by_system_calls.specs.Linux.{Change, Linux, state_at}

-- the program has /c open; another, the actor 8, has /c and /secret
abbrev pub race_opening : State
race_opening = record {
  nodes = base_nodes;
  handles = Some (record { actor = 0; node = 1 }) ∷ Some (record { actor = 8; node = 1 })
      ∷ Some (record { actor = 8; node = 9 }) ∷ [];
}

-- a is moved away
abbrev pub move : Event
move = record { actor = 8; step = Rename 1 (codes "a") 2 (codes "a") Plain; answer = Done }

-- mkdirat(2) in the directory 2
abbrev pub mkdir : Change
mkdir = record { directory = 2; second = 2; step = MakeDir 0 (codes "new") }

-- it is the sixteenth system call, and a is moved away between the one before and this one
abbrev pub race : Linux
race = record {
  opening = race_opening;
  own = λ n. if n == 16 then Some mkdir else None;
  others = λ n. if n == 15 then move ∷ [] else [];
}

-- The program numbers what it opens from 51 on, and nodes as their handles: /c/a, /c/a/b, and /c/a once more.
abbrev pub race_nodes : ℕ → ℕ
race_nodes k = if k == 52 then 3 else 2

abbrev pub race_lines : List Line
race_lines =
    answered (Open 0 (codes "a")) (Opened 51 51 kind.Dir)
    ∷ answered (Open 51 (codes "b")) (Opened 52 52 kind.Dir)
    ∷ answered (Close 51) Done
    ∷ answered (Parent 52) (Opened 53 53 kind.Dir)
    ∷ answered (Close 52) Done
    ∷ answered (NameBelow 0 53) (Names (codes "a" ∷ []))
    ∷ answered (NameBelow 0 53) (Names (codes "a" ∷ []))
    ∷ answered (MakeDir 53 (codes "new")) Done
    ∷ answered (Close 53) Done
    ∷ []

-- How many system calls each takes: `..` is opened, and the child is asked for its links and its file system; of the
-- place, readlink(2) of the root's link and of the directory's, openat2(2), and readlink(2) of the directory's again.
abbrev pub race_counts : List ℕ
race_counts = 1 ∷ 1 ∷ 1 ∷ 3 ∷ 1 ∷ 4 ∷ 4 ∷ 1 ∷ 1 ∷ []

abbrev pub race_below : Below
race_below = record {
  root = record { owner = record { tag = 0; actor = 0 }; handle = 0 };
  flags = record { beneath = false; no_links = false };
}

-- All that is supposed is met; and what is made is the node 11, which doesn't stand below the root.
pub record RaceIsMade : Type 0 where
  pub made : LinesAreMade race race_below race_nodes 0 1 race_lines race_counts
  pub new : child (state_at race 16).nodes 2 (codes "new") ≡ Some 11
  pub outside : names_below (state_at race 16).nodes 1 11 ≡ None
