-- What a contract sees of a call to MkdirAll, and what its turns are in the order of steps.
use Rattle.std.specs.Prelude.{◌≡◌, ◌≤◌, ◌<◌, ℕ, suc, ◌+◌, ◌*◌, List, [], ◌∷◌, Bool, length, take, drop, reverse, Option}
use Rattle.path_text.specs.declared.errno.Errno.{Errno}
use Rattle.path_text.specs.declared.part.Part.{Part}
use Rattle.path_text.specs.declared.path.TheConstants.{PARTS_MAX}
use Rattle.path_text.specs.Reading.{Reading}
use Rattle.tree_model.specs.declared.answer.Answer.{Answer}
use Rattle.handles.specs.declared.owner.Owner.{Owner}
use Rattle.handles.specs.Objects.{ReachedObject}
use Rattle.walk_plan.specs.declared.goal.Goal.TheVariants.{Deepest}
use Rattle.step_resolver.specs.Asked.{followed}
use Rattle.step_resolver.specs.Order.{Way, Handle}
use Rattle.step_resolver.specs.View.{handle_of, numbers_of, way_from}
use Rattle.step_resolver.specs.TurnView.{STEPS_MAX, standing_handle}
use Rattle.bulk_ops.specs.MakeAllOrder.{Making, walking, making, opening, leaving, ending, closing, MakeTurn, more, made, failed, rest_fault, rest_names, starts, steps_left}
use Rattle.bulk_ops.specs.MakeAllOrder.{take as takes}
use Rattle.bulk_ops.specs.declared.make_all.Call.{Call}
use Rattle.bulk_ops.specs.declared.make_all.Chain.{Chain}
use Rattle.bulk_ops.specs.declared.make_all.Stage.{Stage}
use Rattle.bulk_ops.specs.declared.make_all.Stage.TheVariants.{Walking, Making as MakingIn, Opening, Leaving, Ending, Closing}
use Rattle.bulk_ops.specs.declared.turn.BulkTurn.{BulkTurn}
use Rattle.bulk_ops.specs.declared.turn.BulkTurn.TheVariants.{More, Made, Removed, Failed}

-- whose call it is, what stays the same for it, and what is due
pub record MakingView : Type 0 where
  pub owner : Owner
  pub way : Way
  pub making : Making

abbrev pub way_of : Call → Way
way_of call = way_from call.root Deepest call.flags

-- ---- the names that are expected at the end: those passed, and those to come

abbrev pub passed : Chain → List (List ℕ)
passed chain = reverse (take chain.done chain.names)

abbrev pub to_come : Chain → List (List ℕ)
to_come chain = drop chain.done chain.names

-- at the next of the names to come; with none the last directory is held
abbrev pub at_next : (List ℕ → List (List ℕ) → Making) → Handle → List (List ℕ) → List (List ℕ) → Making
at_next due held names [] = ending held names
at_next due held names (n ∷ left) = due n left

abbrev pub making_of : Stage → Making
making_of (Walking walker) = walking walker.walking
making_of (MakingIn held chain) = at_next (making (handle_of held) (passed chain.value)) (handle_of held)
    (passed chain.value) (to_come chain.value)
making_of (Opening held chain) = at_next (opening (handle_of held) (passed chain.value)) (handle_of held)
    (passed chain.value) (to_come chain.value)
making_of (Leaving old new chain) = leaving old.handle (handle_of new) (passed chain.value) (to_come chain.value)
making_of (Ending held chain) = ending (handle_of held) (reverse chain.value.names)
making_of (Closing first second error) = closing first.handle (numbers_of second) error

abbrev pub view_of : Call → Stage → MakingView
view_of call stage = record { owner = call.root.owner; way = way_of call; making = making_of stage }

-- the next name is passed, and the directory above is to be closed
abbrev pub gone_into : ReachedObject → ReachedObject → Chain → Making
gone_into old new chain = leaving old.handle (handle_of new) (reverse (take (suc chain.done) chain.names))
    (drop (suc chain.done) chain.names)

-- ---- what every call keeps

-- the walk, or what is held at the names passed, is the call's own; a name is to come where one is due; and no more
-- were passed than there are
abbrev pub IsStage : Call → Stage → Type 0
IsStage call (Walking walker) = (walker.owner ≡ call.root.owner) × (walker.way ≡ way_of call)
IsStage call (MakingIn held chain) =
    (held.owner ≡ call.root.owner) × (chain.value.done < length chain.value.names)
IsStage call (Opening held chain) = (held.owner ≡ call.root.owner) × (chain.value.done < length chain.value.names)
IsStage call (Leaving old new chain) = (new.owner ≡ call.root.owner) × (chain.value.done ≤ length chain.value.names)
IsStage call (Ending held chain) = held.owner ≡ call.root.owner
IsStage call (Closing first second error) = Unit {0}

-- ---- turns

-- what a bulk call has come to is this turn of the order; it removes nothing
abbrev pub IsTurn : BulkTurn MakingView → MakeTurn → Type 0
IsTurn (More call) turn = turn ≡ more call.making
IsTurn (Made standing) turn = turn ≡ made (standing_handle standing) (reverse standing.names)
IsTurn (Removed count) turn = ⊥
IsTurn (Failed error) turn = turn ≡ failed error

-- it is still this owner's, and on this way
abbrev pub Keeps : Owner → Way → BulkTurn MakingView → Type 0
Keeps owner way (More call) = (call.owner ≡ owner) × (call.way ≡ way)
Keeps owner way (Made standing) = standing.owner ≡ owner
Keeps owner way (Removed count) = Unit {0}
Keeps owner way (Failed error) = Unit {0}

-- the turn is the first one, with room for the walk or without
abbrev pub StartsTo : Way → Reading → BulkTurn MakingView → Type 0
StartsTo way path result = (room : Bool) × IsTurn result (starts way room path)

-- the turn is what the answer makes of the call, with room for what it brings or without
abbrev pub TakesTo : Way → Making → Answer → BulkTurn MakingView → Type 0
TakesTo way call answer result = (room : Bool) × IsTurn result (takes way room call answer)

-- how many steps are to come at most; none at an end
abbrev pub steps_to_come : BulkTurn MakingView → ℕ
steps_to_come (More call) = steps_left call.making
steps_to_come (Made standing) = 0
steps_to_come (Removed count) = 0
steps_to_come (Failed error) = 0

-- those of a walk, and then three for each part of the path, and two more
abbrev pub MAKE_STEPS_MAX : ℕ
MAKE_STEPS_MAX = STEPS_MAX + (3 * PARTS_MAX + 2)

-- ---- the rest of the path

-- why nothing is made
abbrev pub fault_in : List Part → Option Errno
fault_in rest = rest_fault (followed rest)

-- its names
abbrev pub names_in : List Part → List (List ℕ)
names_in rest = rest_names (followed rest)
