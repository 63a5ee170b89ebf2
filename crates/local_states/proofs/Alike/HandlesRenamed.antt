-- The handles of an actor with other handles are those other handles.
use Rattle.std.specs.Prelude.{◌≡◌, ℕ, List, [], ◌∷◌, Option, Some, None, refl}
use Rattle.std.specs.Option.{option_map}
use Rattle.std.proofs.Common.{ap}
use Rattle.handles.specs.Objects.{StandingObject}
use Rattle.root_ops.specs.View.{CallView}
use Rattle.root_ops.proofs.HandlesRenamed.{join, doing_numbers}
use Rattle.race_core.proofs.LikeSeats.{planned_keeps, outcome_keeps}
use Rattle.race_core.specs.declared.plan.Planned.{Planned}
use Rattle.race_core.specs.declared.report.Outcome.{Outcome}
use Rattle.race_core.specs.declared.seat.Seat.{Seat}
use Rattle.race_core.specs.Ledgers.{LedgerView}
use Rattle.race_core.specs.Renamed.{numbers_by, call_by, plans_by, outcomes_by, standings_by, standing_by, kept_by, ledger_by, seat_by, planned_handles, plans_handles, outcome_handles, outcomes_handles, option_handles, standings_handles, kept_handles, ledger_handles, doing_call_handles, seat_handles}

module _ (f : ℕ → ℕ) where
  plans_numbers : (ps : List Planned) → plans_handles (plans_by f ps) ≡ numbers_by f (plans_handles ps)
  plans_numbers [] = refl
  plans_numbers (p ∷ ps) = join f (planned_handles p) (plans_handles ps) _ _ (planned_keeps f p) (plans_numbers ps)

  outcomes_numbers : (os : List Outcome) → outcomes_handles (outcomes_by f os) ≡ numbers_by f (outcomes_handles os)
  outcomes_numbers [] = refl
  outcomes_numbers (o ∷ os) =
      join f (outcome_handles o) (outcomes_handles os) _ _ (outcome_keeps f o) (outcomes_numbers os)

  option_numbers : (s : Option StandingObject)
      → option_handles (option_map (standing_by f) s) ≡ numbers_by f (option_handles s)
  option_numbers None = refl
  option_numbers (Some standing) = refl

  standings_numbers : (ss : List (Option StandingObject))
      → standings_handles (standings_by f ss) ≡ numbers_by f (standings_handles ss)
  standings_numbers [] = refl
  standings_numbers (s ∷ ss) =
      join f (option_handles s) (standings_handles ss) _ _ (option_numbers s) (standings_numbers ss)

  kept_numbers : (ss : List StandingObject) → kept_handles (kept_by f ss) ≡ numbers_by f (kept_handles ss)
  kept_numbers [] = refl
  kept_numbers (s ∷ ss) = ap (λ ks. f s.handle ∷ ks) (kept_numbers ss)

  ledger_numbers : (l : LedgerView) → ledger_handles (ledger_by f l) ≡ numbers_by f (ledger_handles l)
  ledger_numbers l =
      let ends = join f (standings_handles l.standings) (kept_handles l.kept) _ _ (standings_numbers l.standings)
      (kept_numbers l.kept) in
      let came = join f (outcomes_handles l.outcomes) _ _ _ (outcomes_numbers l.outcomes) ends in
      ap (λ ks. f l.root.handle ∷ ks) (join f (plans_handles l.to_come) _ _ _ (plans_numbers l.to_come) came)

  call_numbers : (c : Option CallView)
      → doing_call_handles (option_map (call_by f) c) ≡ numbers_by f (doing_call_handles c)
  call_numbers None = refl
  call_numbers (Some c) = ap (λ ks. f c.below.root.handle ∷ ks) (doing_numbers f c.doing)

  pub seat_numbers : (s : Seat) → seat_handles (seat_by f s) ≡ numbers_by f (seat_handles s)
  seat_numbers s = join f (ledger_handles s.ledger) (doing_call_handles s.doing) _ _ (ledger_numbers s.ledger)
      (call_numbers s.doing)
