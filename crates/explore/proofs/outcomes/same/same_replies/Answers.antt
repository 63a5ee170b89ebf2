use Rattle.std.proofs.Common.{◌≡◌, ◌∙◌, ap, sym}
use Rattle.std.proofs.lemmas.Bool.{true≢false, false≢true}
use Rattle.race_core.specs.Renamed.{outcomes_by}
use Rattle.local_states.proofs.Worlds.Ends.{other_reply_lengths, other_reply_at}
use Rattle.explore.proofs.outcomes.same.same_replies.Goals as goal

pub returns-then-replies-others : goal.returns-then-replies-others
returns-then-replies-others c =
    ((λ t. absurd (false≢true t)), (λ e. absurd (c.if-replies-others.true (other_reply_lengths (λ h. 0) c.args.replies.now c.args.others.now e))))

pub returns-then-not-like_outcomes : goal.returns-then-not-like_outcomes
returns-then-not-like_outcomes c = (
  (λ t. absurd (false≢true t)),
  (λ e. let one : outcomes_by (λ h. 0) c.index-replies-actor.result ≡ outcomes_by (λ h. 0) c.index-others-actor.result =
      other_reply_at (λ h. 0) c.args.replies.now c.args.others.now c.loop-actor.actor c.index-replies-actor.result c.index-others-actor.result e c.loop-actor-test.true c.index-replies-actor.is c.index-others-actor.is in
      let there : outcomes_by (λ h. 0) c.as_slice.result.now ≡ outcomes_by (λ h. 0) c.as_slice-in-loop-actor.result.now =
      ap (outcomes_by (λ h. 0)) c.as_slice.ensures ∙ (one ∙ ap (outcomes_by (λ h. 0)) (sym c.as_slice-in-loop-actor.ensures)) in
      absurd (true≢false (sym (c.like_outcomes.ensures.1 there) ∙ c.if-not-like_outcomes.true))),
)
