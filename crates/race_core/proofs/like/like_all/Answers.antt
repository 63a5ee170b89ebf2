use Rattle.std.proofs.Common.{◌≡◌, ◌∙◌, sym}
use Rattle.std.proofs.lemmas.Bool.{true≢false, false≢true}
use Rattle.bulk_ops.proofs.MappedLists.{same_at}
use Rattle.race_core.proofs.like.like_all.Goals as goal

pub returns-then-not-is_like : goal.returns-then-not-is_like
returns-then-not-is_like g c = (
  (λ t. absurd (false≢true t)),
  (λ e. let one : g.L.Like.by (λ h. 0) c.index-all-at.result ≡ g.L.Like.by (λ h. 0) c.index-others-at.result =
      same_at (g.L.Like.by (λ h. 0)) c.args.all.now c.args.others.now c.loop-at.at c.index-all-at.result c.index-others-at.result e c.loop-at-test.true c.index-all-at.is c.index-others-at.is in
      absurd (true≢false (sym (c.is_like.ensures.1 one) ∙ c.if-not-is_like.true))),
)
