-- The turns of a call tell what its end tells, since its lines lead to them.
use Rattle.std.specs.Prelude.{◌≡◌, ℕ, List, Bool, true, false, Some, refl}
use Rattle.std.proofs.Common.{ap}
use Rattle.std.proofs.lemmas.Option.{none-some, same_Some}
use Rattle.path_text.specs.declared.errno.Errno.{Errno}
use Rattle.path_text.specs.Reading.{Reading}
use Rattle.tree_model.specs.declared.answer.Answer.{Answer}
use Rattle.tree_model.specs.declared.answer.Answer.TheVariants.{Refused}
use Rattle.step_machine.proofs.Machines.{IsMachine}
use Rattle.step_machine.specs.Tells.{EveryCallTells, lines_before}
use Rattle.step_machine.proofs.Runs as machine
use Rattle.step_resolver.specs.Order.{Way}
use Rattle.step_resolver.specs.Order as walk
use Rattle.step_resolver.specs.TurnsTell.{first_lines}
use Rattle.step_resolver.proofs.FirstTurns.{first_lines_lead, IsFirst, begins_first}
use Rattle.step_resolver.proofs.TurnsTell.{refusal_needs_no_room as walk_needs_no_room}
use Rattle.bulk_ops.specs.declared.turn.BulkTurn.{BulkTurn}
use Rattle.bulk_ops.specs.RemoveAllOrder.{removes_file, opens, lists, shuts, leaves, removes_dir, Removing, walking, clearing, closing, Turn, more, removed, failed, for_call, begins, starts, walked, take, under_way, calls, LeadsTo}
use Rattle.bulk_ops.specs.RemoveAllTurnView.{IsTurn, TakesTo, StartsTo}
use Rattle.bulk_ops.specs.RemoveAllTurnsTell.{histories, TellsTaken, TellsBegun}
use Rattle.bulk_ops.proofs.RemovingAll.EachEnd.{every_call_tells}

pub refusal_needs_no_room : (room : Bool) (call : Removing) (error : Errno)
    → take true call (Refused error) ≡ take room call (Refused error)
refusal_needs_no_room room (walking way target w) error = ap (walked way target) (walk_needs_no_room way room w error)
refusal_needs_no_room room (clearing removes_file level above count left) error = refl
refusal_needs_no_room room (clearing opens level above count left) error = refl
refusal_needs_no_room true (clearing (lists h) level above count left) error = refl
refusal_needs_no_room false (clearing (lists h) level above count left) error = refl
refusal_needs_no_room room (clearing (shuts h) level above count left) error = refl
refusal_needs_no_room room (clearing (leaves h) level above count left) error = refl
refusal_needs_no_room room (clearing removes_dir level above count left) error = refl
refusal_needs_no_room room (closing h hs end) error = refl

else_ends : (turn : Turn) (call : Removing) → under_way turn ≡ Some call → turn ≡ more call
else_ends (more other) call e = ap more (same_Some other call e)
else_ends (removed count) call e = absurd (none-some call e)
else_ends (failed error) call e = absurd (none-some call e)

pub is_machine : IsMachine calls
is_machine = record { goes_on = λ call. refl; else_ends = else_ends; refusals_need_no_room = refusal_needs_no_room }

every_removal_tells : EveryCallTells calls histories
every_removal_tells w end is leads = every_call_tells w.0 w.1 end is.0 is.1 leads

pub taken_tells : (call : Removing) (answer : Answer) (outcome : BulkTurn Removing) → TakesTo call answer outcome → TellsTaken call answer outcome
unfolding TellsTaken
taken_tells call answer outcome taken =
    machine.taken_tells calls is_machine histories every_removal_tells (IsTurn outcome) call answer taken.0 taken.1

-- ---- the first turn

begun_leads : (way : Way) (target : List ℕ) (turn : walk.Turn) → IsFirst turn → (room : Bool) → walk.LeadsTo way turn (first_lines room turn) (walk.for_walk room turn)
    → LeadsTo (walked way target turn) (lines_before room (under_way (walked way target turn))) (for_call room (walked way target turn))
begun_leads way target turn first true leads = refl
begun_leads way target (walk.more w) first false leads = (leads.0, ap (walked way target) leads.1)
begun_leads way target (walk.found handle names) first false leads = absurd first
begun_leads way target (walk.partial handle names rest) first false leads = absurd first
begun_leads way target (walk.failed error) first false leads = refl

pub begun_tells : (way : Way) (target : List ℕ) (path : Reading) (outcome : BulkTurn Removing) → StartsTo way target path outcome → TellsBegun way target path outcome
unfolding TellsBegun
begun_tells way target path outcome begun =
    machine.begun_tells calls histories every_removal_tells (begins way target path) (λ room. starts way room target path) (IsTurn outcome) begun.0 begun.1
    (begun_leads way target (walk.begins way path) (begins_first way path) begun.0 (first_lines_lead way begun.0 path))
