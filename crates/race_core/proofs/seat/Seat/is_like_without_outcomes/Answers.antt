use Rattle.std.proofs.Common.{sym, ap, ◌∙◌}
use Rattle.std.specs.Option.{option_map}
use Rattle.std.proofs.lemmas.Bool.{true≢false, false≢true}
use Rattle.race_core.specs.declared.seat.Seat.{Seat}
use Rattle.race_core.specs.Renamed.{call_by}
use Rattle.race_core.proofs.LikeSeats.{like_without, none_told, ledgers_without, calls_without}
use Rattle.race_core.proofs.seat.Seat.is_like_without_outcomes.Goals as goal

pub returns-then-not-is_empty : goal.returns-then-not-is_empty
returns-then-not-is_empty c = (
  (λ t. absurd (false≢true t)),
  (λ like. absurd (true≢false (sym (c.is_empty.ensures.1 (ap (λ (s : Seat). s.ledger.outcomes) c.other.view_is ∙ none_told c.args.self.now c.args.other.now like)) ∙ c.if-not-is_empty.true))),
)

pub returns-then-not-is_like_beside_outcomes : goal.returns-then-not-is_like_beside_outcomes
returns-then-not-is_like_beside_outcomes c = (
  (λ t. absurd (false≢true t)),
  (λ like. absurd (true≢false (sym (c.is_like_beside_outcomes.ensures.1 (ledgers_without c.args.self.now c.args.other.now like)) ∙ c.if-not-is_like_beside_outcomes.true))),
)

pub returns : goal.returns
returns c = (
  (λ t. like_without c.args.self.now c.args.other.now
      (ap (λ (s : Seat). s.ledger.outcomes) (sym c.other.view_is) ∙ c.is_empty.ensures.0 c.if-not-is_empty.false)
      (c.is_like_beside_outcomes.ensures.0 c.if-not-is_like_beside_outcomes.false)
      (c.is_like.ensures.0 t ∙ ap (λ (s : Seat). option_map (call_by (λ h. 0)) s.doing) c.other.view_is)),
  (λ like. c.is_like.ensures.1
      (calls_without c.args.self.now c.args.other.now like ∙ ap (λ (s : Seat). option_map (call_by (λ h. 0)) s.doing) (sym c.other.view_is))),
)
