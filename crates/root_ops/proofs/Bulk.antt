-- The bulk calls of a call: what their turns are in its own order of steps.
use Rattle.std.proofs.Common.{◌≡◌, ℕ, List, Bool, true, false, refl, sym, ◌∙◌, ap}
use Rattle.path_text.specs.declared.errno.Errno.TheVariants.{NoMemory}
use Rattle.path_text.specs.Reading.{Reading}
use Rattle.walk_plan.specs.declared.goal.Goal.TheVariants.{Follow}
use Rattle.step_resolver.specs.Order.{Way, Line}
use Rattle.step_resolver.specs.Order as walk
use Rattle.step_resolver.specs.View.{way_from}
use Rattle.bulk_ops.specs.declared.turn.BulkTurn.{BulkTurn}
use Rattle.bulk_ops.specs.MakeAllOrder as make
use Rattle.bulk_ops.specs.MakeAllView as making_view
use Rattle.bulk_ops.specs.MakeAllView.{MakingView}
use Rattle.bulk_ops.specs.RemoveAllOrder as remove
use Rattle.bulk_ops.specs.RemoveAllTurnView as removing_view
use Rattle.step_machine.specs.Machine.{HasEnded}
use Rattle.step_machine.proofs.Split.{runs_split, all_led}
use Rattle.bulk_ops.proofs.MakeAllTurns.{is_machine as making_machine}
use Rattle.bulk_ops.proofs.RemovingAll.TurnsTell.{is_machine as removing_machine}
use Rattle.root_ops.proofs.Within.{making_of_call, removing_of_call}
use Rattle.root_ops.specs.declared.below.Below.{Below}
use Rattle.root_ops.specs.Order.{Reply, CallTurn, ends, fault, making, removing, make_way, makes, removing_turn, under_way, calls, LeadsTo}
use Rattle.root_ops.specs.TurnView.{Either}
use Rattle.root_ops.proofs.Rooms.{FindsNone, first_turn}

-- ---- the first turn

begun_making : (way : Way) (path : Reading) (room : Bool) (begun : walk.Turn) (turn : CallTurn) → walk.begins way path ≡ begun → FindsNone begun
    → turn ≡ makes (make.after_walk room (walk.for_walk room begun)) → Either (makes (make.begins way path)) (ends (fault NoMemory)) turn
begun_making way path true begun turn e none is = (true, is ∙ ap (λ t. makes (make.after_walk true t)) (sym e))
begun_making way path false (walk.more w) turn e none is = (false, is)
begun_making way path false (walk.found handle names) turn e none is = absurd none
begun_making way path false (walk.partial handle names rest) turn e none is = absurd none
begun_making way path false (walk.failed error) turn e none is = (true, is ∙ ap (λ t. makes (make.after_walk true t)) (sym e))

-- of a MkdirAll, as it was begun
pub makes_by : (below : Below) (path : Reading) (outcome : BulkTurn MakingView) (turn : CallTurn) → making_view.StartsTo (make_way below) path outcome
    → ((to : make.MakeTurn) → making_view.IsTurn outcome to → turn ≡ makes to) → Either (makes (make.begins (make_way below) path)) (ends (fault NoMemory)) turn
makes_by below path outcome turn started by =
    begun_making (make_way below) path started.0 (walk.begins (make_way below) path) turn refl (first_turn (make_way below) path) (by (make.starts (make_way below) started.0 path) started.1)

begun_clearing : (room : Bool) (begun : remove.Turn) (turn : CallTurn) → turn ≡ removing_turn (remove.for_call room begun) → Either (removing_turn begun) (ends (fault NoMemory)) turn
begun_clearing true begun turn is = (true, is)
begun_clearing false (remove.more call) turn is = (false, is)
begun_clearing false (remove.removed n) turn is = (true, is)
begun_clearing false (remove.failed error) turn is = (true, is)

-- of a RemoveAll, as it was begun
pub clears_by : (below : Below) (name : List ℕ) (path : Reading) (outcome : BulkTurn remove.Removing) (turn : CallTurn)
    → removing_view.StartsTo (way_from below.root Follow below.flags) name path outcome
    → ((to : remove.Turn) → removing_view.IsTurn outcome to → turn ≡ removing_turn to)
    → Either (removing_turn (remove.begins (way_from below.root Follow below.flags) name path)) (ends (fault NoMemory)) turn
clears_by below name path outcome turn started by =
    begun_clearing started.0 (remove.begins (way_from below.root Follow below.flags) name path) turn
    (by (remove.starts (way_from below.root Follow below.flags) started.0 name path) started.1)

-- ---- each answer

-- ---- the lines of a bulk call

-- lines that lead a call from a turn of a MkdirAll to a reply, lead the MkdirAll to the end that is this reply
pub record MakeLed (below : Below) (turn : make.MakeTurn) (lines : List Line) (reply : Reply) : Type 0 where
  pub end : make.MakeTurn
  pub led : make.LeadsTo (make_way below) turn lines end
  pub is_reply : makes end ≡ ends reply

pub makes_led : (below : Below) (turn : make.MakeTurn) (lines : List Line) (reply : Reply) → LeadsTo below (makes turn) lines (ends reply) → MakeLed below turn lines reply
makes_led below turn lines reply leads =
    let m = make.calls (make_way below) in
    let split = runs_split m (calls below) (λ room. makes) making (making_machine (make_way below)) (making_of_call below) true turn lines (ends reply) tt leads in
    let by = all_led m (calls below) (λ room. makes) making (λ room. made_over) true turn lines (ends reply) split in
    record { end = by.at; led = by.led; is_reply = by.is_end }
  where
    made_over : (t : make.MakeTurn) → HasEnded (make.under_way t) → HasEnded (under_way (makes t))
    made_over (make.more call) over = absurd over
    made_over (make.made handle names) over = tt
    made_over (make.failed error) over = tt

-- the same of a RemoveAll
pub record ClearLed (turn : remove.Turn) (lines : List Line) (reply : Reply) : Type 0 where
  pub end : remove.Turn
  pub led : remove.LeadsTo turn lines end
  pub is_reply : removing_turn end ≡ ends reply

pub clears_led : (below : Below) (turn : remove.Turn) (lines : List Line) (reply : Reply) → LeadsTo below (removing_turn turn) lines (ends reply) → ClearLed turn lines reply
clears_led below turn lines reply leads =
    let split = runs_split remove.calls (calls below) (λ room. removing_turn) removing removing_machine (removing_of_call below) true turn lines (ends reply) tt leads in
    let by = all_led remove.calls (calls below) (λ room. removing_turn) removing (λ room. cleared_over) true turn lines (ends reply) split in
    record { end = by.at; led = by.led; is_reply = by.is_end }
  where
    cleared_over : (t : remove.Turn) → HasEnded (remove.under_way t) → HasEnded (under_way (removing_turn t))
    cleared_over (remove.more call) over = absurd over
    cleared_over (remove.removed count) over = tt
    cleared_over (remove.failed error) over = tt
