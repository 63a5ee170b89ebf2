-- The walk runs within the bulk calls; and what it ran short of, and what the others did, is told in all lines.
use Rattle.std.specs.Prelude.{ℕ, List, [], ◌∷◌, ◌++◌, refl}
use Rattle.std.proofs.Common.{inl, inr}
use Rattle.path_text.specs.declared.errno.Errno.{Errno}
use Rattle.path_text.specs.declared.errno.Errno.TheVariants.{NoMemory}
use Rattle.step_machine.specs.Told.{Line, answered, no_room, not_made}
use Rattle.step_machine.proofs.Machines.{IsWithin}
use Rattle.step_machine.proofs.Split.{RanShort}
use Rattle.step_resolver.specs.Failures.{TellsWant}
use Rattle.step_resolver.specs.Order.{Way, walks}
use Rattle.bulk_ops.specs.MakeAllOrder as make
use Rattle.bulk_ops.specs.RemoveAllOrder as remove

pub walk_of_making : (way : Way) → IsWithin (walks way) (make.calls way) make.after_walk make.walking
walk_of_making way = record { goes_on = λ room w. refl; same_step = λ w. refl; same_wants = λ w error want. want; same_turn = λ room w answer. refl }

pub walk_of_removing : (way : Way) (target : List ℕ) → IsWithin (walks way) remove.calls (λ room. remove.walked way target) (remove.walking way target)
walk_of_removing way target =
    record { goes_on = λ room w. refl; same_step = λ w. refl; same_wants = λ w error want. want; same_turn = λ room w answer. refl }

-- what one of the lines brought found no room, which is a want of memory
pub short_told : (lines : List Line) → RanShort lines → TellsWant NoMemory lines
short_told [] short = elim short [ ]
short_told (answered step answer ∷ lines) (inl e) = cc (e)
short_told (no_room step answer ∷ lines) (inl e) = inl refl
short_told (not_made error ∷ lines) (inl e) = cc (e)
short_told (line ∷ lines) (inr later) = inr (short_told lines later)

-- a want of the first lines, or of those after them, is one of all
pub want_first : (error : Errno) (first rest : List Line) → TellsWant error first → TellsWant error (first ++ rest)
want_first error [] rest want = elim want [ ]
want_first error (line ∷ first) rest (inl here) = inl here
want_first error (line ∷ first) rest (inr later) = inr (want_first error first rest later)

pub want_behind : (error : Errno) (first rest : List Line) → TellsWant error rest → TellsWant error (first ++ rest)
want_behind error [] rest want = want
want_behind error (line ∷ first) rest want = inr (want_behind error first rest want)
