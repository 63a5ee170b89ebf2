-- The turns of a call tell what its end tells, since its lines lead to them.
use Rattle.std.specs.Prelude.{◌≡◌, Bool, true, false, Some, refl}
use Rattle.std.proofs.Common.{sym, ap, subst, ◌∙◌}
use Rattle.std.proofs.lemmas.Option.{none-some, same_Some}
use Rattle.path_text.specs.declared.errno.Errno.{Errno}
use Rattle.path_text.specs.Reading.{Reading}
use Rattle.tree_model.specs.declared.answer.Answer.{Answer}
use Rattle.tree_model.specs.declared.answer.Answer.TheVariants.{Refused}
use Rattle.step_machine.proofs.Machines.{IsMachine}
use Rattle.step_machine.specs.Tells.{EveryCallTells, lines_before}
use Rattle.step_machine.proofs.Runs as machine
use Rattle.step_resolver.specs.Order.{Way, for_walk}
use Rattle.step_resolver.specs.Order as walk
use Rattle.step_resolver.specs.TurnsTell.{first_lines}
use Rattle.step_resolver.proofs.FirstTurns.{first_lines_lead, IsFirst, begins_first}
use Rattle.step_resolver.proofs.TurnsTell.{refusal_needs_no_room as walk_needs_no_room}
use Rattle.bulk_ops.specs.MakeAllOrder.{Making, walking, making, opening, leaving, ending, closing, MakeTurn, more, made, failed, after_walk, begins, starts, take, under_way, calls, LeadsTo}
use Rattle.bulk_ops.specs.MakeAllTurnsTell.{histories, TellsTaken, TellsBegun}
use Rattle.bulk_ops.specs.MakeAllView.{MakingView, IsTurn, TakesTo, StartsTo}
use Rattle.bulk_ops.specs.declared.turn.BulkTurn.{BulkTurn}
use Rattle.bulk_ops.proofs.MakeAllSteps.{refused_within, needs_no_room}
use Rattle.bulk_ops.proofs.MakeAllEnds.{makes_tell}

pub refusal_needs_no_room : (way : Way) (room : Bool) (call : Making) (error : Errno)
    → take way true call (Refused error) ≡ take way room call (Refused error)
refusal_needs_no_room way room (walking w) error =
    needs_no_room _ _ (refused_within way w error) true room ∙ ap (after_walk room) (walk_needs_no_room way room w error)
refusal_needs_no_room way room (making held names n left) error = refl
refusal_needs_no_room way room (opening held names n left) error = refl
refusal_needs_no_room way room (leaving old new names left) error = refl
refusal_needs_no_room way room (ending held names) error = refl
refusal_needs_no_room way room (closing h hs cause) error = refl

else_ends : (turn : MakeTurn) (call : Making) → under_way turn ≡ Some call → turn ≡ more call
else_ends (more other) call e = ap more (same_Some other call e)
else_ends (made handle names) call e = absurd (none-some call e)
else_ends (failed error) call e = absurd (none-some call e)

pub is_machine : (way : Way) → IsMachine (calls way)
is_machine way = record { goes_on = λ call. refl; else_ends = else_ends; refusals_need_no_room = refusal_needs_no_room way }

every_call_tells : (way : Way) → EveryCallTells (calls way) (histories way)
every_call_tells way w end is leads =
    makes_tell w end is.0 (subst (λ (v : Way). LeadsTo v (begins v w.path) w.lines end) (sym is.1) leads)

pub taken_tells : (way : Way) (call : Making) (answer : Answer) (result : BulkTurn MakingView) → TakesTo way call answer result → TellsTaken way call answer result
unfolding TellsTaken
taken_tells way call answer result taken =
    machine.taken_tells (calls way) (is_machine way) (histories way) (every_call_tells way) (IsTurn result) call answer taken.0 taken.1

-- ---- the first turn

begun_leads : (way : Way) (turn : walk.Turn) → IsFirst turn → (room : Bool) → walk.LeadsTo way turn (first_lines room turn) (for_walk room turn)
    → LeadsTo way (after_walk true turn) (lines_before room (under_way (after_walk true turn))) (after_walk room (for_walk room turn))
begun_leads way turn first true leads = refl
begun_leads way (walk.more w) first false leads = (leads.0, ap (after_walk true) leads.1)
begun_leads way (walk.found handle names) first false leads = absurd first
begun_leads way (walk.partial handle names rest) first false leads = absurd first
begun_leads way (walk.failed error) first false leads = refl

pub begun_tells : (way : Way) (path : Reading) (result : BulkTurn MakingView) → StartsTo way path result → TellsBegun way path result
unfolding TellsBegun
begun_tells way path result begun =
    machine.begun_tells (calls way) (histories way) (every_call_tells way) (begins way path) (λ room. starts way room path) (IsTurn result) begun.0 begun.1
    (begun_leads way (walk.begins way path) (begins_first way path) begun.0 (first_lines_lead way begun.0 path))
