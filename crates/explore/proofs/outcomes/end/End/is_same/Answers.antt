use Rattle.std.proofs.Common.{◌<◌, ◌∙◌, List, ap, sym, subst, length}
use Rattle.std.proofs.lemmas.Bool.{true≢false, false≢true}
use Rattle.race_core.specs.declared.report.Outcome.{Outcome}
use Rattle.race_core.specs.Renamed.{replies_by}
use Rattle.explore.proofs.outcomes.end.End.is_same.Goals as goal

pub returns-then-not-holds_as : goal.returns-then-not-holds_as
returns-then-not-holds_as g c = (
  (λ t. absurd (false≢true t)),
  (λ s. absurd (true≢false (sym (c.holds_as.ensures.1 (λ a lt.
      s.held a (subst (λ (xs : List (List Outcome)). a < length xs) c.replies-replies.ensures.replies lt))) ∙ c.if-not-holds_as.true))),
)

pub returns : goal.returns
returns g c = (
  (λ t. record {
    replies = ap (replies_by (λ h. 0)) (sym c.replies.ensures.replies)
        ∙ (c.same_replies.ensures.0 c.if-not-same_replies.false ∙ ap (replies_by (λ h. 0)) c.replies-replies.ensures.replies);
    held = λ a lt. c.holds_as.ensures.0 c.if-not-holds_as.false a
        (subst (λ (xs : List (List Outcome)). a < length xs) (sym c.replies-replies.ensures.replies) lt);
    nodes = c.has_nodes_of.ensures.0 t;
    outside = c.changed_as.ensures.0 c.if-not-changed_as.false;
  }),
  (λ s. c.has_nodes_of.ensures.1 s.nodes),
)
