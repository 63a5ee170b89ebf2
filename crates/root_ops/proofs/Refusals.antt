-- A refusal brings nothing, so that the room for what an answer brings plays no part in what it makes of a call.
use Rattle.std.proofs.Common.{◌≡◌, Bool, true, false, refl, sym, ap, ◌∙◌}
use Rattle.path_text.specs.declared.errno.Errno.{Errno}
use Rattle.tree_model.specs.declared.answer.Answer.TheVariants.{Refused}
use Rattle.step_resolver.specs.Order.{Way, Walking, opening, reading, rising, judging, duping, ending, closing, take, IsWant, is_close}
use Rattle.step_resolver.proofs.TurnsTell.{refusal_needs_no_room as walk_needs_no_room}
use Rattle.bulk_ops.proofs.MakeAllTurns.{refusal_needs_no_room as make_needs_no_room}
use Rattle.bulk_ops.proofs.RemovingAll.TurnsTell.{refusal_needs_no_room as remove_needs_no_room}
use Rattle.root_ops.specs.declared.below.Below.{Below}
use Rattle.root_ops.specs.Order.{way_of, make_way, makes, removing_turn}
use Rattle.root_ops.specs.Order as call
use Rattle.root_ops.proofs.Rooms.{FindsNone, same_room, not_opened, not_risen, closed}

-- no object is found by it
finds_none : (way : Way) (room : Bool) (walking : Walking) (error : Errno) → FindsNone (take way room walking (Refused error))
finds_none way room (opening position own follow n rest) error = not_opened way position own follow n rest error
finds_none way room (reading position link rest) error = tt
finds_none way room (rising old names rest) error = not_risen way old error
finds_none way room (judging new names rest) error = tt
finds_none way room (duping rest) error = tt
finds_none way room (ending handle names rest) error = tt
finds_none way room (closing h hs after) error = closed way hs after

pub refusal_needs_no_room : (below : Below) (room : Bool) (doing : call.Doing) (error : Errno)
    → call.take below room doing (Refused error) ≡ call.take below true doing (Refused error)
refusal_needs_no_room below room (call.walking w aim) error =
    same_room below room true aim (take (way_of below aim) room w (Refused error)) (finds_none (way_of below aim) room w error)
    ∙ ap (call.walked below true aim) (sym (walk_needs_no_room (way_of below aim) room w error))
refusal_needs_no_room below room (call.acting wanted step hs) error = refl
refusal_needs_no_room below room (call.checking old new renaming) error = refl
refusal_needs_no_room below room (call.closing h hs after) error = refl
refusal_needs_no_room below room (call.making m) error = ap makes
    (sym (make_needs_no_room (make_way below) room m error))
refusal_needs_no_room below room (call.removing r) error = ap removing_turn (sym (remove_needs_no_room room r error))
refusal_needs_no_room below room (call.releasing h) error = refl

-- ---- a step that may be left out

-- any step but a Close may be left out for a want
pub unmade : (below : Below) (doing : call.Doing) (error : Errno) → IsWant error → is_close (call.due below doing) ≡ false → call.IsUnmade below doing error
unmade below (call.walking w aim) error want stays = (want, stays)
unmade below (call.acting wanted step hs) error want stays = (want, stays)
unmade below (call.checking old new renaming) error want stays = (want, stays)
unmade below (call.closing h hs after) error want stays = (want, stays)
unmade below (call.making m) error want stays = (want, stays)
unmade below (call.removing r) error want stays = (want, stays)
unmade below (call.releasing h) error want stays = cc (stays)
