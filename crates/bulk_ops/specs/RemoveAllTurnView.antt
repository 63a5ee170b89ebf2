-- What a RemoveAll call has come to, as the order of steps sees it.
use Rattle.std.specs.Prelude.{◌≡◌, ℕ, ◌+◌, ◌*◌, List, Bool}
use Rattle.path_text.specs.Reading.{Reading}
use Rattle.tree_model.specs.declared.answer.Answer.{Answer}
use Rattle.step_resolver.specs.Order.{Way, Walking}
use Rattle.step_resolver.specs.TurnView.{STEPS_MAX, IsFirstWalk}
use Rattle.bulk_ops.specs.declared.remove_all.clearing.TheConstants.{CLEARING_STEPS_MAX}
use Rattle.bulk_ops.specs.declared.remove_all.phase.Phase.{Phase}
use Rattle.bulk_ops.specs.declared.remove_all.phase.Phase.TheVariants as phase
use Rattle.bulk_ops.specs.declared.turn.BulkTurn.{BulkTurn}
use Rattle.bulk_ops.specs.declared.turn.BulkTurn.TheVariants.{More, Made, Removed, Failed}
use Rattle.bulk_ops.specs.RemoveAllOrder.{Removing, walking, Turn, more, removed, failed, for_call, starts, take, steps_left}

-- the outcome is this turn; none makes a directory
abbrev pub IsTurn : BulkTurn Removing → Turn → Type 0
IsTurn (More call) turn = turn ≡ more call
IsTurn (Made standing) turn = ⊥
IsTurn (Removed count) turn = turn ≡ removed count
IsTurn (Failed error) turn = turn ≡ failed error

-- the outcome is the first turn, with room for the call or without
abbrev pub StartsTo : Way → List ℕ → Reading → BulkTurn Removing → Type 0
StartsTo way target path outcome = (room : Bool) × IsTurn outcome (starts way room target path)

-- the same of a call at a step of its walk
abbrev pub BeginsTo : Way → List ℕ → Walking → BulkTurn Removing → Type 0
BeginsTo way target walking_at outcome =
    (room : Bool) × IsTurn outcome (for_call room (more (walking way target walking_at)))

-- the outcome is what the answer makes of the call, with room for what it brings or without
abbrev pub TakesTo : Removing → Answer → BulkTurn Removing → Type 0
TakesTo removing answer outcome = (room : Bool) × IsTurn outcome (take room removing answer)

-- how many steps are to come at most; none at an end
abbrev pub steps_to_come : BulkTurn Removing → ℕ
steps_to_come (More call) = steps_left call
steps_to_come (Made standing) = 0
steps_to_come (Removed count) = 0
steps_to_come (Failed error) = 0

-- those of a walk, and those of clearing, each of which may open a handle that is to be closed
abbrev pub REMOVE_STEPS_MAX : ℕ
REMOVE_STEPS_MAX = STEPS_MAX + (2 * CLEARING_STEPS_MAX + 1)

-- nothing is held yet
abbrev pub IsFirstPhase : Phase → Type 0
IsFirstPhase (phase.Walking to) = IsFirstWalk to.walk.walking
IsFirstPhase (phase.Clearing c) = ⊥
IsFirstPhase (phase.Closing c) = ⊥
IsFirstPhase (phase.Over end) = ⊥
