-- What a call is told whose walks the kernel makes as a whole, and what the history has in its place: one openat2(2)
-- says that the object is below the root, and not at which names.
use Rattle.std.specs.Prelude.{◌≡◌, ℕ, List, [], ◌∷◌, reverse, Option, Some, None}
use Rattle.tree_model.specs.declared.answer.Answer.TheVariants.{Names}
use Rattle.tree_model.specs.StepWith.{StepWith}
use Rattle.step_machine.specs.Machine.{taken}
use Rattle.step_resolver.specs.Order.{Line, answered}
use Rattle.step_resolver.specs.Order as walk
use Rattle.bulk_ops.specs.MakeAllOrder as make
use Rattle.bulk_ops.specs.RemoveAllOrder as remove
use Rattle.root_ops.specs.declared.below.Below.{Below}
use Rattle.root_ops.specs.CallHistory.{CallInHistory}
use Rattle.root_ops.specs.Order.{Reply, Doing, walking, making, removing, CallTurn, more, ends, calls, starts, LeadsTo}

-- The names that a walk passed, the innermost first, where all its parts are passed and it asks where its object
-- stands.
abbrev pub passed_in : walk.Walking → Option (List (List ℕ))
passed_in (walk.ending handle names []) = Some names
passed_in other = None

-- the same of the walk with which a call is under way
abbrev pub passed_by : Doing → Option (List (List ℕ))
passed_by (walking walk aim) = passed_in walk
passed_by (making (make.walking walk)) = passed_in walk
passed_by (removing (remove.walking way target walk)) = passed_in walk
passed_by other = None

-- The history has the line that the call was told; or the call was told that its object stands at the names passed,
-- where the history has whatever names as the answer.
pub data IsTold (passed : Option (List (List ℕ))) (told was : Line) : Type 0 where
  as_it_was : told ≡ was → IsTold passed told was
  as_passed : (step : StepWith ℕ) (names others : List (List ℕ)) → passed ≡ Some names
      → told ≡ answered step (Names (reverse names)) → was ≡ answered step (Names others) → IsTold passed told was

-- So it is of each line from this turn on: what the call was told, and what the history has.
abbrev pub AreTold : Below → CallTurn → List Line → List Line → Type 0
AreTold below turn [] [] = Unit {0}
AreTold below (more doing) (told ∷ lines) (was ∷ others) =
    IsTold (passed_by doing) told was × AreTold below (taken (calls below) doing told) lines others
AreTold below turn lines others = ⊥

-- The call replies so by what it was told, in the place of its lines in the history.
pub record RepliesAsTold (c : CallInHistory) (reply : Reply) : Type 0 where
  pub told : List Line
  pub leads : LeadsTo c.below (starts c.below c.room c.op) told (ends reply)
  pub are : AreTold c.below (starts c.below c.room c.op) told c.lines
