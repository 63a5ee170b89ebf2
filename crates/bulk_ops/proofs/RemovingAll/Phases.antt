-- What a phase is to the order of steps.
use Rattle.std.specs.Prelude.{◌≡◌, ◌≢◌, ℕ, suc, ◌<◌, List, [], ◌∷◌, ◌++◌, drop, length, refl}
use Rattle.std.proofs.Common.{sym, ap, ◌∙◌}
use Rattle.tree_model.specs.declared.answer.Answer.{Answer}
use Rattle.bulk_ops.specs.declared.remove_all.clearing.End.{End}
use Rattle.bulk_ops.specs.declared.remove_all.phase.Phase.{Phase}
use Rattle.bulk_ops.specs.declared.remove_all.phase.Phase.TheVariants.{Walking, Clearing, Closing, Over}
use Rattle.bulk_ops.specs.declared.turn.BulkTurn.TheVariants.{More}
use Rattle.bulk_ops.specs.declared.remove_all.clearing.TheConstants.{CLEARING_STEPS_MAX}
use Rattle.bulk_ops.specs.declared.remove_all.frame.Frame.{Frame}
use Rattle.bulk_ops.specs.RemoveAllOrder.{Level, Removing, removes_file, is_due, enters, Turn, more, steps_left}
use Rattle.bulk_ops.specs.RemoveAllView.{name_at, level_of, level_at, levels_of, removing_of, phase_turn, TakesOn}
use Rattle.bulk_ops.specs.RemoveAllTurnView.{TakesTo}
use Rattle.bulk_ops.proofs.RemovingAll.Levels.{levels_of-append}
use Rattle.bulk_ops.proofs.RemovingAll.StepCount.{taken_lowers}

going : (phase : Phase) → ((end : End) → phase ≢ Over end) → phase_turn phase ≡ more (removing_of phase)
going (Walking to) on = refl
going (Clearing c) on = refl
going (Closing c) on = refl
going (Over end) on = absurd (on end refl)

-- a phase that isn't over is what the answer makes of the call, which goes on
pub goes_on : (removing : Removing) (answer : Answer) (phase : Phase) → ((end : End) → phase ≢ Over end) → TakesOn removing answer phase
    → TakesTo removing answer (More (removing_of phase))
goes_on removing answer phase on taken = (taken.0, sym taken.1 ∙ going phase on)

pub goes_on_fewer : (removing : Removing) (answer : Answer) (phase : Phase) → ((end : End) → phase ≢ Over end) → TakesOn removing answer phase
    → steps_left (removing_of phase) < steps_left removing
goes_on_fewer removing answer phase on taken = taken_lowers removing answer (More (removing_of phase)) (goes_on removing answer phase on taken)

one_name : (names : List (List ℕ)) → length names ≡ 1 → drop (suc 0) names ≡ []
one_name [] e = refl
one_name (n ∷ []) e = refl
one_name (n ∷ m ∷ names) e = cc (e)

-- the first step of clearing is the target's, the one name to be cleared
pub begun : (d : ℕ) (target : List (List ℕ)) (frames : List Frame) (turn : Turn) → length target ≡ 1 → frames ≡ []
    → turn ≡ is_due removes_file (record { dir = d; name = name_at target 0; others = drop (suc 0) target }) (levels_of frames) 0 CLEARING_STEPS_MAX
    → turn ≡ is_due removes_file (record { dir = d; name = name_at target 0; others = [] }) [] 0 CLEARING_STEPS_MAX
begun d target frames turn one none due =
    due
    ∙ ap (λ ns. is_due removes_file (record { dir = d; name = name_at target 0; others = ns }) (levels_of frames) 0 CLEARING_STEPS_MAX) (one_name target one)
    ∙ ap (λ fs. is_due removes_file (record { dir = d; name = name_at target 0; others = [] }) (levels_of fs) 0 CLEARING_STEPS_MAX) none

-- a directory that was opened and has entries is entered: the first of them is the next to be cleared
pub entered_first : (d : ℕ) (names : List (List ℕ)) (inner here : Frame) (above more_above : List Frame) (count left : ℕ) (turn : Turn)
    → level_at d names ≡ level_of inner ∷ [] → more_above ≡ above ++ here ∷ []
    → turn ≡ is_due removes_file (level_of inner) (levels_of more_above) count left
    → turn ≡ enters d names (level_of here) (levels_of above) count left
entered_first d [] inner here above more_above count left turn first pushed due = cc (first)
entered_first d (n ∷ others) inner here above more_above count left turn first pushed due =
    let same : level_of inner ≡ record { dir = d; name = n; others = others } = cc (first) in
    due
    ∙ ap (λ (level : Level). is_due removes_file level (levels_of more_above) count left) same
    ∙ ap (λ (frames : List Frame). is_due removes_file (record { dir = d; name = n; others = others }) (levels_of frames) count left) pushed
    ∙ ap (λ (levels : List Level). is_due removes_file (record { dir = d; name = n; others = others }) levels count left) (levels_of-append above here)
