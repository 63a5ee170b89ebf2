use Rattle.std.proofs.Common.{◌≡◌, sym, ◌∙◌, refl, length, arith}
use Rattle.std.proofs.lemmas.Bool.{true≢false, false≢true}
use Rattle.bulk_ops.proofs.LikeFrames.{alike_lengths, alike_at, all_alike}
use Rattle.bulk_ops.proofs.remove_all.like.like_frames.Goals as goal

pub returns-then-frames-others : goal.returns-then-frames-others
returns-then-frames-others c =
    ((λ t. absurd (false≢true t)), (λ e. absurd (c.if-frames-others.true (alike_lengths c.args.frames.now c.args.others.now e))))

pub returns-then-not-is_like : goal.returns-then-not-is_like
returns-then-not-is_like c = (
  (λ t. absurd (false≢true t)),
  (λ e. absurd (true≢false (sym (c.is_like.ensures.1
      (alike_at c.args.frames.now c.args.others.now c.loop-place.place c.index-frames-place.result c.index-others-place.result e c.loop-place-test.true c.index-frames-place.is c.index-others-place.is))
      ∙ c.if-not-is_like.true))),
)

pub returns : goal.returns
returns c =
    let all : length c.args.frames.now ≡ c.loop-place.place = omega arith in
    let all_others : length c.args.others.now ≡ c.loop-place.place = omega arith in
    ((λ t. all_alike c.args.frames.now c.args.others.now c.loop-place.place all all_others c.loop-place.invariant), (λ e. refl))
