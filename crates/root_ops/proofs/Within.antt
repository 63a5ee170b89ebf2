-- What runs within a call: a walk, a MkdirAll, a RemoveAll.
use Rattle.std.specs.Prelude.{List, [], ◌∷◌, refl}
use Rattle.std.proofs.Common.{inl, inr}
use Rattle.path_text.specs.declared.errno.Errno.TheVariants.{NoMemory}
use Rattle.step_machine.proofs.Machines.{IsWithin}
use Rattle.step_machine.specs.Told.{Line, answered, no_room, not_made}
use Rattle.step_machine.proofs.Split.{RanShort}
use Rattle.step_resolver.specs.Order as walk
use Rattle.bulk_ops.specs.MakeAllOrder as make
use Rattle.bulk_ops.specs.RemoveAllOrder as remove
use Rattle.root_ops.specs.declared.aim.Aim.{Aim}
use Rattle.root_ops.specs.declared.below.Below.{Below}
use Rattle.root_ops.specs.Order.{walking, making, removing, way_of, make_way, makes, removing_turn, walked, calls}
use Rattle.root_ops.specs.Quiet.{MetWant}

pub walk_of_call : (below : Below) (aim : Aim) → IsWithin (walk.walks (way_of below aim)) (calls below) (λ room. walked below room aim) (λ w. walking w aim)
walk_of_call below aim = record { goes_on = λ room w. refl; same_step = λ w. refl; same_wants = λ w error want. want; same_turn = λ room w answer. refl }

pub making_of_call : (below : Below) → IsWithin (make.calls (make_way below)) (calls below) (λ room. makes) making
making_of_call below = record { goes_on = λ room call. refl; same_step = λ call. refl; same_wants = λ call error want. want; same_turn = λ room call answer. refl }

pub removing_of_call : (below : Below) → IsWithin remove.calls (calls below) (λ room. removing_turn) removing
removing_of_call below = record { goes_on = λ room call. refl; same_step = λ call. refl; same_wants = λ call error want. want; same_turn = λ room call answer. refl }

-- where what a line brought found no room, that is a want that was met
pub short_met : (lines : List Line) → RanShort lines → MetWant lines NoMemory
short_met [] short = elim short [ ]
short_met (answered step answer ∷ lines) (inl e) = cc (e)
short_met (no_room step answer ∷ lines) (inl e) = inl (inl refl)
short_met (not_made error ∷ lines) (inl e) = cc (e)
short_met (line ∷ lines) (inr later) = inr (short_met lines later)
