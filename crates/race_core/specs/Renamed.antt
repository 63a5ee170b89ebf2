-- All that an actor has to do and holds, with the numbers of its handles replaced by others; everything else stays.
use Rattle.std.specs.Prelude.{◌≡◌, ℕ, List, [], ◌∷◌, ◌++◌, Option, Some, None}
use Rattle.std.specs.Option.{option_map}
use Rattle.handles.specs.Objects.{StandingObject}
pub use Rattle.root_ops.specs.Renamed.{numbers_by, root_by, way_by, handle_by, position_by, walk_after_by, walking_by, walk_after_handles, walking_handles, making_by, level_by, levels_by, stage_by, removing_by, making_handles, stage_handles, levels_handles, removing_handles, step_by, answer_by, standing_by, reply_by, after_by, aim_by, doing_by, call_turn_by, below_by, op_by, request_by, call_by, step_handles, answer_handles, reply_handles, after_handles, aim_handles, doing_handles, call_handles, op_handles}
use Rattle.root_ops.specs.View.{CallView}
use Rattle.race_core.specs.declared.plan.Planned.{Planned}
use Rattle.race_core.specs.declared.plan.Planned.TheVariants as plans
use Rattle.race_core.specs.declared.report.Outcome.{Outcome}
use Rattle.race_core.specs.declared.report.Outcome.TheVariants as outcomes
use Rattle.race_core.specs.declared.seat.Seat.{Seat}
use Rattle.race_core.specs.Ledgers.{LedgerView}

-- ---- what an actor has to do, and what came of it

abbrev pub planned_by : (ℕ → ℕ) → Planned → Planned
planned_by f (plans.Call request) = plans.Call (request_by f request)
planned_by f (plans.Single step) = plans.Single step
planned_by f (plans.Release number) = plans.Release number

abbrev pub plans_by : (ℕ → ℕ) → List Planned → List Planned
plans_by f [] = []
plans_by f (next ∷ others) = planned_by f next ∷ plans_by f others

abbrev pub outcome_by : (ℕ → ℕ) → Outcome → Outcome
outcome_by f (outcomes.Opened x kind names) = outcomes.Opened x kind names
outcome_by f (outcomes.Text text) = outcomes.Text text
outcome_by f outcomes.Done = outcomes.Done
outcome_by f (outcomes.Count n) = outcomes.Count n
outcome_by f (outcomes.Stepped answer) = outcomes.Stepped (answer_by f answer)
outcome_by f (outcomes.Fault error) = outcomes.Fault error

abbrev pub outcomes_by : (ℕ → ℕ) → List Outcome → List Outcome
outcomes_by f [] = []
outcomes_by f (outcome ∷ others) = outcome_by f outcome ∷ outcomes_by f others

abbrev pub replies_by : (ℕ → ℕ) → List (List Outcome) → List (List Outcome)
replies_by f [] = []
replies_by f (replies ∷ others) = outcomes_by f replies ∷ replies_by f others

abbrev pub standings_by : (ℕ → ℕ) → List (Option StandingObject) → List (Option StandingObject)
standings_by f [] = []
standings_by f (standing ∷ others) = option_map (standing_by f) standing ∷ standings_by f others

abbrev pub kept_by : (ℕ → ℕ) → List StandingObject → List StandingObject
kept_by f [] = []
kept_by f (standing ∷ others) = standing_by f standing ∷ kept_by f others

abbrev pub ledger_by : (ℕ → ℕ) → LedgerView → LedgerView
ledger_by f ledger = record {
  root = root_by f ledger.root;
  to_come = plans_by f ledger.to_come;
  outcomes = outcomes_by f ledger.outcomes;
  standings = standings_by f ledger.standings;
  kept = kept_by f ledger.kept;
}

abbrev pub seat_by : (ℕ → ℕ) → Seat → Seat
seat_by f seat = record { ledger = ledger_by f seat.ledger; doing = option_map (call_by f) seat.doing }

abbrev pub seats_by : (ℕ → ℕ) → List Seat → List Seat
seats_by f [] = []
seats_by f (seat ∷ seats) = seat_by f seat ∷ seats_by f seats

-- ---- the handles themselves, one by one

abbrev pub planned_handles : Planned → List ℕ
planned_handles (plans.Call request) = op_handles request.op
planned_handles (plans.Single step) = []
planned_handles (plans.Release number) = []

abbrev pub plans_handles : List Planned → List ℕ
plans_handles [] = []
plans_handles (next ∷ others) = planned_handles next ++ plans_handles others

abbrev pub outcome_handles : Outcome → List ℕ
outcome_handles (outcomes.Opened x kind names) = []
outcome_handles (outcomes.Text text) = []
outcome_handles outcomes.Done = []
outcome_handles (outcomes.Count n) = []
outcome_handles (outcomes.Stepped answer) = answer_handles answer
outcome_handles (outcomes.Fault error) = []

abbrev pub outcomes_handles : List Outcome → List ℕ
outcomes_handles [] = []
outcomes_handles (outcome ∷ others) = outcome_handles outcome ++ outcomes_handles others

abbrev pub option_handles : Option StandingObject → List ℕ
option_handles None = []
option_handles (Some standing) = standing.handle ∷ []

abbrev pub standings_handles : List (Option StandingObject) → List ℕ
standings_handles [] = []
standings_handles (standing ∷ others) = option_handles standing ++ standings_handles others

abbrev pub kept_handles : List StandingObject → List ℕ
kept_handles [] = []
kept_handles (standing ∷ others) = standing.handle ∷ kept_handles others

abbrev pub ledger_handles : LedgerView → List ℕ
ledger_handles ledger = ledger.root.handle
    ∷ (plans_handles ledger.to_come
    ++ (outcomes_handles ledger.outcomes ++ (standings_handles ledger.standings ++ kept_handles ledger.kept)))

abbrev pub doing_call_handles : Option CallView → List ℕ
doing_call_handles None = []
doing_call_handles (Some call) = call_handles call

abbrev pub seat_handles : Seat → List ℕ
seat_handles seat = ledger_handles seat.ledger ++ doing_call_handles seat.doing

-- ---- what is the same but for handles' numbers, and gets one number for each handle in both, is the same with these

abbrev pub LikeSeats : Seat → Seat → Type 0
LikeSeats s t = seat_by (λ h. 0) s ≡ seat_by (λ h. 0) t

abbrev pub LikeSeatsAgree : Type 0
LikeSeatsAgree = (f g : ℕ → ℕ) (s t : Seat) → LikeSeats s t
    → numbers_by f (seat_handles s) ≡ numbers_by g (seat_handles t)
    → seat_by f s ≡ seat_by g t

-- the actors of both worlds, one by one, are the same but for the numbers of handles
abbrev pub LikeActors : List Seat → List Seat → Type 0
LikeActors ss ts = seats_by (λ h. 0) ss ≡ seats_by (λ h. 0) ts
