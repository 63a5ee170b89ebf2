-- Each answer leaves fewer steps to come, and a call begins with few.
use Rattle.std.specs.Prelude.{◌≡◌, ℕ, suc, ◌+◌, ◌<◌, ◌≤◌, List, [], ◌∷◌, Bool, true, false, length, if◌then◌else◌, refl}
use Rattle.std.proofs.Common.{sym, subst, arith}
use Rattle.path_text.specs.declared.errno.Errno.{Errno}
use Rattle.path_text.specs.declared.errno.Errno.TheVariants.{NotFound}
use Rattle.tree_model.specs.declared.answer.Answer.{Answer}
use Rattle.tree_model.specs.declared.answer.Answer.TheVariants.{Opened}
use Rattle.walk_plan.specs.declared.goal.Goal.TheVariants.{Follow}
use Rattle.step_resolver.specs.Order.{Handle, Turn, found, partial, failed, is_dir_kind}
use Rattle.step_resolver.specs.Order as walk
use Rattle.step_resolver.specs.View.{way_from}
use Rattle.step_resolver.proofs.WalkSteps as walk_steps
use Rattle.bulk_ops.specs.MakeAllOrder as make
use Rattle.bulk_ops.specs.RemoveAllOrder as remove
use Rattle.bulk_ops.proofs.MakeAllSteps.{MakesFewerThan, take_few, left_some}
use Rattle.bulk_ops.proofs.RemovingAll.StepCount as remove_steps
use Rattle.root_ops.specs.declared.aim.Aim.{Aim}
use Rattle.root_ops.specs.declared.aim.Aim.TheVariants.{Opens, Reads, Changes, WalksOn, Renames}
use Rattle.root_ops.specs.declared.aim.Renaming.{Renaming}
use Rattle.root_ops.specs.declared.below.Below.{Below}
use Rattle.root_ops.specs.Order.{After, gives, acts, Doing, walking, acting, checking, closing, making, removing, releasing, CallTurn, more, ends, make_way, makes, removing_turn, closes, gives_up, renames, walked_on, reached, walked, take, checked, reply_to, way_of, held_by, steps_then, steps_after, steps_left}
use Rattle.root_ops.specs.declared.call.CallTurn.{CallTurn as Outcome}
use Rattle.root_ops.specs.declared.call.CallTurn.TheVariants as outcomes
use Rattle.root_ops.specs.TurnView.{turn_view, Keeps, TakesTo, steps_to_come}
use Rattle.root_ops.specs.StepCount.{is_walking, is_of_bulk, FewerThan}

-- fewer than this many steps are left where the call goes on; and at most five, where no walk's step is due; it is no bulk call
abbrev pub IsLower : Below → ℕ → CallTurn → Type 0
IsLower below k (more doing) = (steps_left below doing < k) × ((is_of_bulk doing ≡ false) × (is_walking doing ≡ false → steps_left below doing ≤ 5))
IsLower below k (ends reply) = Unit {0}

module _ (below : Below) where
  pub either_lower : (k : ℕ) (b : Bool) (t u : CallTurn) → IsLower below k t → IsLower below k u → IsLower below k (if b then t else u)
  either_lower k true t u lower other = lower
  either_lower k false t u lower other = other

  renames_lower : (k old new : ℕ) (renaming : Renaming) → 5 < k → IsLower below k (renames old new renaming)
  renames_lower k old new renaming few = either_lower k renaming.slash _ _ (omega arith, (refl, λ e. omega arith)) (omega arith, (refl, λ e. omega arith))

  -- the walk to the new directory begins, with room or without
  on_lower : (k old : ℕ) (renaming : Renaming) (room : Bool) (begun : Turn) → 0 < k → IsLower below (k + (walk.steps_left_at begun + 6)) (walked_on old renaming (walk.for_walk room begun))
  on_lower k old renaming true (walk.more w) few = (omega arith, (refl, λ e. cc (e)))
  on_lower k old renaming false (walk.more w) few = (omega arith, (refl, λ e. omega arith))
  on_lower k old renaming true (found handle names) few = renames_lower _ old handle.number renaming (omega arith)
  on_lower k old renaming false (found handle names) few = renames_lower _ old handle.number renaming (omega arith)
  on_lower k old renaming true (partial handle names rest) few = (omega arith, (refl, λ e. omega arith))
  on_lower k old renaming false (partial handle names rest) few = (omega arith, (refl, λ e. omega arith))
  on_lower k old renaming true (failed error) few = (omega arith, (refl, λ e. omega arith))
  on_lower k old renaming false (failed error) few = (omega arith, (refl, λ e. omega arith))

  reached_lower : (k : ℕ) (room : Bool) (handle : Handle) (names : List (List ℕ)) (aim : Aim) → 0 < k → IsLower below (k + steps_then below aim) (reached below room handle names aim)
  reached_lower k room handle names (Opens goal) few = tt
  reached_lower k room handle names Reads few = (omega arith, (refl, λ e. omega arith))
  reached_lower k room handle names (Changes change n) few = (omega arith, (refl, λ e. omega arith))
  reached_lower k room handle names (WalksOn path renaming) few =
      on_lower k handle.number renaming room (walk.begins (way_from below.root Follow below.flags) path) few
  reached_lower k room handle names (Renames old renaming) few = renames_lower (k + 5) old handle.number renaming (omega arith)

  partial_lower : (k h : ℕ) (aim : Aim) → 0 < k → IsLower below (k + steps_then below aim) (gives_up (h ∷ held_by aim) NotFound)
  partial_lower k h (Opens goal) few = (omega arith, (refl, λ e. omega arith))
  partial_lower k h Reads few = (omega arith, (refl, λ e. omega arith))
  partial_lower k h (Changes change n) few = (omega arith, (refl, λ e. omega arith))
  partial_lower k h (WalksOn path renaming) few = (omega arith, (refl, λ e. omega arith))
  partial_lower k h (Renames old renaming) few = (omega arith, (refl, λ e. omega arith))

  failed_lower : (k : ℕ) (aim : Aim) (error : Errno) → 0 < k → IsLower below (k + steps_then below aim) (gives_up (held_by aim) error)
  failed_lower k (Opens goal) error few = tt
  failed_lower k Reads error few = tt
  failed_lower k (Changes change n) error few = tt
  failed_lower k (WalksOn path renaming) error few = tt
  failed_lower k (Renames old renaming) error few = (omega arith, (refl, λ e. omega arith))

  pub walked_lower : (k : ℕ) (room : Bool) (aim : Aim) (turn : Turn) → 0 < k → walk_steps.FewerThan k turn → IsLower below (k + steps_then below aim) (walked below room aim turn)
  walked_lower k room aim (walk.more w) few lower = (omega arith, (refl, λ e. cc (e)))
  walked_lower k room aim (found handle names) few lower = reached_lower k room handle names aim few
  walked_lower k room aim (partial handle names rest) few lower = partial_lower k handle.number aim few
  walked_lower k room aim (failed error) few lower = failed_lower k aim error few

  -- ---- each answer

  checked_lower : (old new : ℕ) (renaming : Renaming) (child : ℕ) (is_dir : Bool) → FewerThan 5 below (checked old new renaming child is_dir)
  checked_lower old new renaming child true = (refl, refl, omega arith)
  checked_lower old new renaming child false = (refl, refl, omega arith)

  closes_fewer : (k : ℕ) (hs : List ℕ) (after : After) → length hs + steps_after after < k → FewerThan k below (closes hs after)
  closes_fewer k [] (gives reply) few = tt
  closes_fewer k [] (acts wanted step hs) few = (refl, refl, omega arith)
  closes_fewer k (h ∷ hs) after few = (refl, refl, omega arith)

  -- once no walk's step is due
  pub fewer_after : (room : Bool) (doing : Doing) (answer : Answer) → is_walking doing ≡ false → is_of_bulk doing ≡ false → FewerThan (steps_left below doing) below (take below room doing answer)
  fewer_after room (walking w aim) answer e none = cc (e)
  fewer_after room (making call) answer e none = cc (none)
  fewer_after room (removing call) answer e none = cc (none)
  fewer_after room (acting wanted step hs) answer e none = closes_fewer (suc (length hs)) hs (gives (reply_to wanted answer)) (omega arith)
  fewer_after room (checking old new renaming) (Opened h x kind) e none = checked_lower old new renaming h (is_dir_kind kind)
  fewer_after room (checking old new renaming) answer e none = (refl, refl, omega arith)
  fewer_after room (closing h hs after) answer e none = closes_fewer (suc (length hs) + steps_after after) hs after (omega arith)
  fewer_after room (releasing h) answer e none = tt

  pub walking_lower : (room : Bool) (w : walk.Walking) (aim : Aim) (answer : Answer) → IsLower below (walk.steps_left w + steps_then below aim) (take below room (walking w aim) answer)
  walking_lower room w aim answer =
      walked_lower (walk.steps_left w) room aim (walk.take (way_of below aim) room w answer) (walk_steps.a_step_left w) (walk_steps.take_lowers (way_of below aim) room w answer)

-- ---- bulk calls

-- fewer than this many steps are to come
abbrev pub IsFewer : Below → ℕ → CallTurn → Type 0
IsFewer below k (more doing) = steps_left below doing < k
IsFewer below k (ends reply) = Unit {0}

module _ (below : Below) (k : ℕ) where
  pub lower_fewer : (turn : CallTurn) → IsLower below k turn → IsFewer below k turn
  lower_fewer (more doing) lower = lower.0
  lower_fewer (ends reply) lower = tt

  few_fewer : (turn : CallTurn) → FewerThan k below turn → IsFewer below k turn
  few_fewer (more doing) few = few.2
  few_fewer (ends reply) few = tt

  pub makes_fewer : (turn : make.MakeTurn) → MakesFewerThan k turn → IsFewer below k (makes turn)
  makes_fewer (make.more call) few = few
  makes_fewer (make.made handle names) few = tt
  makes_fewer (make.failed error) few = tt

  pub clears_fewer : (turn : remove.Turn) → remove_steps.FewerThan k turn → IsFewer below k (removing_turn turn)
  clears_fewer (remove.more call) few = few
  clears_fewer (remove.removed n) few = tt
  clears_fewer (remove.failed error) few = tt

-- ---- as a call is seen

pub fewer_to_come : (k : ℕ) (below : Below) (outcome : Outcome) → 0 < k → IsFewer below k (turn_view outcome) → Keeps below outcome → steps_to_come outcome < k
fewer_to_come k below (outcomes.More call) some fewer kept = subst (λ (b : Below). steps_left b call.doing < k) (sym kept) fewer
fewer_to_come k below (outcomes.Done reply) some fewer kept = some

-- each answer leaves fewer steps to come
pub take_fewer : (below : Below) (room : Bool) (doing : Doing) (answer : Answer) → IsFewer below (steps_left below doing) (take below room doing answer)
take_fewer below room (walking w aim) answer = lower_fewer below _ _ (walking_lower below room w aim answer)
take_fewer below room (making call) answer = makes_fewer below _ (make.take (make_way below) room call answer) (take_few (make_way below) room call answer)
take_fewer below room (removing call) answer = clears_fewer below _ (remove.take room call answer) (remove_steps.take_lowers room call answer)
take_fewer below room (acting wanted step hs) answer = few_fewer below (steps_left below (acting wanted step hs)) (take below room (acting wanted step hs) answer) (fewer_after below room (acting wanted step hs) answer refl refl)
take_fewer below room (checking old new renaming) answer = few_fewer below (steps_left below (checking old new renaming)) (take below room (checking old new renaming) answer) (fewer_after below room (checking old new renaming) answer refl refl)
take_fewer below room (closing h hs after) answer = few_fewer below (steps_left below (closing h hs after)) (take below room (closing h hs after) answer) (fewer_after below room (closing h hs after) answer refl refl)
take_fewer below room (releasing h) answer = few_fewer below (steps_left below (releasing h)) (take below room (releasing h) answer) (fewer_after below room (releasing h) answer refl refl)

pub a_step_left : (below : Below) (doing : Doing) → 0 < steps_left below doing
a_step_left below (walking w aim) = omega (arith, walk_steps.a_step_left w)
a_step_left below (making call) = left_some call
a_step_left below (removing call) = remove_steps.a_call_left call
a_step_left below (acting wanted step hs) = omega arith
a_step_left below (checking old new renaming) = omega arith
a_step_left below (closing h hs after) = omega arith
a_step_left below (releasing h) = omega arith

pub taken_lowers : (below : Below) (doing : Doing) (answer : Answer) (outcome : Outcome) → TakesTo below doing answer (turn_view outcome) → Keeps below outcome
    → steps_to_come outcome < steps_left below doing
taken_lowers below doing answer outcome taken kept =
    fewer_to_come (steps_left below doing) below outcome (a_step_left below doing)
    (subst (IsFewer below (steps_left below doing)) (sym taken.1) (take_fewer below taken.0 doing answer)) kept
