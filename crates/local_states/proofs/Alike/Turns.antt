-- Nor does an actor's turn look at a handle's number; so on alike books alike seats take alike turns.
use Rattle.std.specs.Prelude.{◌≡◌, ℕ, zero, suc, List, [], ◌∷◌, ◌++◌, Bool, Option, Some, None, slice_index_or, slice_set, refl}
use Rattle.std.specs.Option.{option_map}
use Rattle.std.proofs.Common.{sym, ap, ◌∙◌, ◌||◌, is_some}
use Rattle.std.proofs.lemmas.Option.{same_Some}
use Rattle.path_text.specs.declared.errno.Errno.TheVariants.{BadHandle}
use Rattle.tree_model.specs.declared.answer.Answer.{Answer}
use Rattle.tree_model.specs.StepWith.{StepWith}
use Rattle.tree_model.specs.declared.step.StepOf.TheVariants as steps
use Rattle.handles.specs.declared.owner.Owner.{Owner}
use Rattle.handles.specs.Objects.{StandingObject}
use Rattle.step_resolver.specs.declared.walk.Root.{Root}
use Rattle.root_ops.specs.declared.below.Below.{Below}
use Rattle.root_ops.specs.declared.op.Op.TheVariants as op
use Rattle.root_ops.specs.declared.op.Request.{Request}
use Rattle.root_ops.specs.Order.{Reply, opened, link_text, done, count, stepped, kept, fault, CallTurn, more, ends, starts, take, due}
use Rattle.root_ops.specs.Renumbered.{for_handles}
use Rattle.root_ops.specs.TurnView.{below_of}
use Rattle.root_ops.specs.View.{CallView}
use Rattle.root_ops.proofs.Blind.Calls.{calls_begin_blindly, steps_are_due_blindly, answers_are_taken_blindly}
use Rattle.race_core.specs.declared.plan.Planned.{Planned}
use Rattle.race_core.specs.declared.plan.Planned.TheVariants as planned
use Rattle.race_core.specs.declared.plan.Ref.{Ref}
use Rattle.race_core.specs.declared.plan.Ref.TheVariants as ref
use Rattle.race_core.specs.declared.report.Outcome.{Outcome}
use Rattle.race_core.specs.declared.seat.Seat.{Seat}
use Rattle.race_core.specs.Ledgers.{LedgerView}
use Rattle.race_core.specs.Turns.{handle_at, with_handle, step_at, plain, request_of, left_by, outcome_of, opened_by, ended, comes, begins, begins_next, begun}
use Rattle.race_core.specs.Turns as turns
use Rattle.race_core.specs.TurnView.{is_busy, is_within, are_some}
use Rattle.race_core.specs.Renamed.{step_by, answer_by, standing_by, reply_by, call_turn_by, root_by, below_by, request_by, call_by, planned_by, plans_by, outcome_by, outcomes_by, standings_by, kept_by, ledger_by, seat_by}
use Rattle.local_states.specs.Alike.{Pairs, SameSteps, SameSeats}
use Rattle.local_states.proofs.Alike.Steps.{zero_agrees}

-- the seat once a step's answer is taken
abbrev pub answered_seat : Bool → LedgerView → CallView → Answer → Seat
answered_seat room ledger call answer = comes ledger call.below (take call.below room call.doing answer)

module _ (f : ℕ → ℕ) where
  -- ---- a call's end

  outcome_of_by : (reply : Reply) → outcome_by f (outcome_of reply) ≡ outcome_of (reply_by f reply)
  outcome_of_by (opened handle names) = refl
  outcome_of_by (link_text text) = refl
  outcome_of_by done = refl
  outcome_of_by (count n) = refl
  outcome_of_by (stepped answer) = refl
  outcome_of_by (kept standing) = refl
  outcome_of_by (fault error) = refl

  opened_in_by : (owner : Owner) (reply : Reply) → option_map (standing_by f) (opened_by owner reply) ≡ opened_by owner (reply_by f reply)
  opened_in_by owner (opened handle names) = refl
  opened_in_by owner (link_text text) = refl
  opened_in_by owner done = refl
  opened_in_by owner (count n) = refl
  opened_in_by owner (stepped answer) = refl
  opened_in_by owner (kept standing) = refl
  opened_in_by owner (fault error) = refl

  outcomes_push : (before : List Outcome) (last : Outcome) → outcomes_by f (before ++ last ∷ []) ≡ outcomes_by f before ++ outcome_by f last ∷ []
  outcomes_push [] last = refl
  outcomes_push (first ∷ before) last = ap (λ others. outcome_by f first ∷ others) (outcomes_push before last)

  standings_push : (before : List (Option StandingObject)) (last : Option StandingObject)
      → standings_by f (before ++ last ∷ []) ≡ standings_by f before ++ option_map (standing_by f) last ∷ []
  standings_push [] last = refl
  standings_push (first ∷ before) last = ap (λ others. option_map (standing_by f) first ∷ others) (standings_push before last)

  kept_join : (before after : List StandingObject) → kept_by f (before ++ after) ≡ kept_by f before ++ kept_by f after
  kept_join [] after = refl
  kept_join (first ∷ before) after = ap (λ others. standing_by f first ∷ others) (kept_join before after)

  kept_in_by : (reply : Reply) → kept_by f (turns.kept_by reply) ≡ turns.kept_by (reply_by f reply)
  kept_in_by (opened handle names) = refl
  kept_in_by (link_text text) = refl
  kept_in_by done = refl
  kept_in_by (count n) = refl
  kept_in_by (stepped answer) = refl
  kept_in_by (kept standing) = refl
  kept_in_by (fault error) = refl

  ended_by : (owner : Owner) (ledger : LedgerView) (reply : Reply) → ledger_by f (ended owner ledger reply) ≡ ended owner (ledger_by f ledger) (reply_by f reply)
  ended_by owner ledger reply =
      let outcomes = outcomes_push ledger.outcomes (outcome_of reply) ∙ ap (λ last. outcomes_by f ledger.outcomes ++ last ∷ []) (outcome_of_by reply) in
      let standings = standings_push ledger.standings (opened_by owner reply) ∙ ap (λ last. standings_by f ledger.standings ++ last ∷ []) (opened_in_by owner reply) in
      let keeps = kept_join ledger.kept (turns.kept_by reply) ∙ ap (λ others. kept_by f ledger.kept ++ others) (kept_in_by reply) in
      λ i. record { root = root_by f ledger.root; to_come = plans_by f ledger.to_come; outcomes = outcomes i; standings = standings i; kept = keeps i }

  comes_by : (ledger : LedgerView) (below : Below) (turn : CallTurn) → seat_by f (comes ledger below turn) ≡ comes (ledger_by f ledger) (below_by f below) (call_turn_by f turn)
  comes_by ledger below (more doing) = refl
  comes_by ledger below (ends reply) = ap (λ l. record { ledger = l; doing = None }) (ended_by below.root.owner ledger reply)

  -- ---- what is asked

  standing_under_by : (standings : List (Option StandingObject)) (number : ℕ)
      → option_map (standing_by f) (slice_index_or standings number None) ≡ slice_index_or (standings_by f standings) number None
  standing_under_by [] number = refl
  standing_under_by (first ∷ standings) zero = refl
  standing_under_by (first ∷ standings) (suc number) = standing_under_by standings number

  number_of : (standing : Option StandingObject) → option_map f (option_map (λ (s : StandingObject). s.handle) standing) ≡ option_map (λ (s : StandingObject). s.handle) (option_map (standing_by f) standing)
  number_of None = refl
  number_of (Some standing) = refl

  handle_at_by : (root : Root) (standings : List (Option StandingObject)) (r : Ref) → option_map f (handle_at root standings r) ≡ handle_at (root_by f root) (standings_by f standings) r
  handle_at_by root standings ref.Root = refl
  handle_at_by root standings (ref.Call number) = number_of (slice_index_or standings number None) ∙ ap (option_map (λ (s : StandingObject). s.handle)) (standing_under_by standings number)

  one_by : (o o' : Option ℕ) → option_map f o ≡ o' → (F G : ℕ → Option (StepWith ℕ)) → ((x : ℕ) → option_map (step_by f) (F x) ≡ G (f x))
      → option_map (step_by f) (with_handle o F) ≡ with_handle o' G
  one_by None o' e F G p = ap (λ o. with_handle o G) e
  one_by (Some x) o' e F G p = p x ∙ ap (λ o. with_handle o G) e

  step_at_by : (at at' : Ref → Option ℕ) → ((r : Ref) → option_map f (at r) ≡ at' r) → (step : StepWith Ref) → option_map (step_by f) (step_at at step) ≡ step_at at' step
  step_at_by at at' e (steps.Open d n) = one_by (at d) (at' d) (e d) _ _ (λ x. refl)
  step_at_by at at' e (steps.Dup h) = one_by (at h) (at' h) (e h) _ _ (λ x. refl)
  step_at_by at at' e (steps.Parent h) = one_by (at h) (at' h) (e h) _ _ (λ x. refl)
  step_at_by at at' e (steps.ReadLink h) = one_by (at h) (at' h) (e h) _ _ (λ x. refl)
  step_at_by at at' e (steps.NameBelow r h) = one_by (at r) (at' r) (e r) _ _ (λ x. one_by (at h) (at' h) (e h) _ _ (λ y. refl))
  step_at_by at at' e (steps.List h) = one_by (at h) (at' h) (e h) _ _ (λ x. refl)
  step_at_by at at' e (steps.Close h) = one_by (at h) (at' h) (e h) _ _ (λ x. refl)
  step_at_by at at' e (steps.MakeDir d n) = one_by (at d) (at' d) (e d) _ _ (λ x. refl)
  step_at_by at at' e (steps.MakeFile d n) = one_by (at d) (at' d) (e d) _ _ (λ x. refl)
  step_at_by at at' e (steps.MakeLink d n text) = one_by (at d) (at' d) (e d) _ _ (λ x. refl)
  step_at_by at at' e (steps.RemoveFile d n) = one_by (at d) (at' d) (e d) _ _ (λ x. refl)
  step_at_by at at' e (steps.RemoveDir d n) = one_by (at d) (at' d) (e d) _ _ (λ x. refl)
  step_at_by at at' e (steps.Rename d n k m mode) = one_by (at d) (at' d) (e d) _ _ (λ x. one_by (at k) (at' k) (e k) _ _ (λ y. refl))

  single_by : (step : Option (StepWith ℕ)) → option_map (request_by f) (option_map (λ (s : StepWith ℕ). record { op = op.Single s; flags = plain }) step)
      ≡ option_map (λ (s : StepWith ℕ). record { op = op.Single s; flags = plain }) (option_map (step_by f) step)
  single_by None = refl
  single_by (Some step) = refl

  release_by : (standing : Option StandingObject) → option_map (request_by f) (option_map (λ (s : StandingObject). record { op = op.Release s; flags = plain }) standing)
      ≡ option_map (λ (s : StandingObject). record { op = op.Release s; flags = plain }) (option_map (standing_by f) standing)
  release_by None = refl
  release_by (Some standing) = refl

  request_of_by : (root : Root) (standings : List (Option StandingObject)) (next : Planned)
      → option_map (request_by f) (request_of root standings next) ≡ request_of (root_by f root) (standings_by f standings) (planned_by f next)
  request_of_by root standings (planned.Call request) = refl
  request_of_by root standings (planned.Single step) =
      single_by (step_at (handle_at root standings) step)
      ∙ ap (option_map (λ (s : StepWith ℕ). record { op = op.Single s; flags = plain }))
      (step_at_by (handle_at root standings) (handle_at (root_by f root) (standings_by f standings)) (handle_at_by root standings) step)
  request_of_by root standings (planned.Release number) =
      release_by (slice_index_or standings number None)
      ∙ ap (option_map (λ (s : StandingObject). record { op = op.Release s; flags = plain })) (standing_under_by standings number)

  set_by : (standings : List (Option StandingObject)) (number : ℕ) → standings_by f (slice_set standings number None) ≡ slice_set (standings_by f standings) number None
  set_by [] number = refl
  set_by (first ∷ standings) zero = refl
  set_by (first ∷ standings) (suc number) = ap (λ others. option_map (standing_by f) first ∷ others) (set_by standings number)

  left_by_by : (next : Planned) (standings : List (Option StandingObject)) → standings_by f (left_by next standings) ≡ left_by (planned_by f next) (standings_by f standings)
  left_by_by (planned.Call request) standings = refl
  left_by_by (planned.Single step) standings = refl
  left_by_by (planned.Release number) standings = set_by standings number

  -- ---- a turn

  begins_by : (room : Bool) (ledger : LedgerView) (request : Option Request) → seat_by f (begins room ledger request) ≡ begins room (ledger_by f ledger) (option_map (request_by f) request)
  begins_by room ledger None = ap (λ l. record { ledger = l; doing = None }) (ended_by ledger.root.owner ledger (fault BadHandle))
  begins_by room ledger (Some request) =
      comes_by ledger (below_of ledger.root request.flags) (starts (below_of ledger.root request.flags) room request.op)
      ∙ ap (comes (ledger_by f ledger) (below_of (root_by f ledger.root) request.flags)) (calls_begin_blindly (for_handles f) (below_of ledger.root request.flags) room request.op)

  begins_next_by : (room : Bool) (ledger : LedgerView) (to_come : List Planned) → seat_by f (begins_next room ledger to_come) ≡ begins_next room (ledger_by f ledger) (plans_by f to_come)
  begins_next_by room ledger [] = refl
  begins_next_by room ledger (next ∷ others) =
      begins_by room (record ledger { to_come = others; standings = left_by next ledger.standings }) (request_of ledger.root ledger.standings next)
      ∙ (λ i. begins room (record (ledger_by f ledger) { to_come = plans_by f others; standings = left_by_by next ledger.standings i })
      (request_of_by ledger.root ledger.standings next i))

  pub begun_by : (room : Bool) (ledger : LedgerView) (doing : Option CallView) → seat_by f (begun room ledger doing) ≡ begun room (ledger_by f ledger) (option_map (call_by f) doing)
  begun_by room ledger None = begins_next_by room ledger ledger.to_come
  begun_by room ledger (Some call) = refl

  pub answered_by : (room : Bool) (ledger : LedgerView) (call : CallView) (answer : Answer)
      → seat_by f (answered_seat room ledger call answer) ≡ answered_seat room (ledger_by f ledger) (call_by f call) (answer_by f answer)
  answered_by room ledger call answer =
      comes_by ledger call.below (take call.below room call.doing answer)
      ∙ ap (comes (ledger_by f ledger) (below_by f call.below)) (answers_are_taken_blindly (for_handles f) call.below room call.doing answer)

-- ---- two seats

module _ (pairs : Pairs) where
  pub same_begun : (room : Bool) (s t : Seat) → SameSeats pairs s t → SameSeats pairs (begun room s.ledger s.doing) (begun room t.ledger t.doing)
  same_begun room s t same f g agree =
      begun_by f room s.ledger s.doing
      ∙ ap (λ (seat : Seat). begun room seat.ledger seat.doing) (same f g agree)
      ∙ sym (begun_by g room t.ledger t.doing)

  pub same_actor : (s t : Seat) → SameSeats pairs s t → s.ledger.root.owner.actor ≡ t.ledger.root.owner.actor
  same_actor s t same = ap (λ (seat : Seat). seat.ledger.root.owner.actor) (same (λ h. 0) (λ h. 0) (zero_agrees pairs))

  -- the same step is due
  pub due_alike : (ledger ledger' : LedgerView) (call call' : CallView)
      → SameSeats pairs (record { ledger = ledger; doing = Some call }) (record { ledger = ledger'; doing = Some call' })
      → SameSteps pairs (due call.below call.doing) (due call'.below call'.doing)
  due_alike ledger ledger' call call' same f g agree =
      steps_are_due_blindly (for_handles f) call.below call.doing
      ∙ ap (λ (view : CallView). due view.below view.doing) (same_Some (call_by f call) (call_by g call') (ap (λ (seat : Seat). seat.doing) (same f g agree)))
      ∙ sym (steps_are_due_blindly (for_handles g) call'.below call'.doing)

  -- ---- who is busy

  blind_within : (f : ℕ → ℕ) (view : Option CallView) → is_some (option_map (call_by f) view) ≡ is_some view
  blind_within f None = refl
  blind_within f (Some view) = refl

  blind_busy : (f : ℕ → ℕ) (seat : Seat) → is_busy (seat_by f seat) ≡ is_busy seat
  blind_busy f seat = λ i. blind_within f seat.doing i || plans seat.ledger.to_come i
    where
      plans : (to_come : List Planned) → are_some (plans_by f to_come) ≡ are_some to_come
      plans [] = refl
      plans (next ∷ others) = refl

  pub same_busy : (s t : Seat) → SameSeats pairs s t → is_busy s ≡ is_busy t
  same_busy s t same = sym (blind_busy (λ h. 0) s) ∙ ap is_busy (same (λ h. 0) (λ h. 0) (zero_agrees pairs)) ∙ blind_busy (λ h. 0) t

  pub same_within : (s t : Seat) → SameSeats pairs s t → is_within s ≡ is_within t
  same_within s t same =
      sym (blind_within (λ h. 0) s.doing) ∙ ap is_within (same (λ h. 0) (λ h. 0) (zero_agrees pairs)) ∙ blind_within (λ h. 0) t.doing
