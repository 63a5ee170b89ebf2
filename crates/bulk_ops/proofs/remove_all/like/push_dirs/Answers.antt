use Rattle.std.proofs.Common.{ap, sym, ◌∙◌, List, ℕ, [], ◌∷◌, ◌++◌, append_assoc, take}
use Rattle.bulk_ops.specs.RemoveAllView.{dirs_of}
use Rattle.bulk_ops.specs.declared.remove_all.frame.Frame.{Frame}
use Rattle.bulk_ops.proofs.LikeFrames.{next_dir}
use Rattle.bulk_ops.proofs.remove_all.like.push_dirs.Goals as goal

pub loop-below-preserved : goal.loop-below-preserved
loop-below-preserved c =
    let before = c.args.into.now.items in
    let passed = take c.loop-below.below (dirs_of c.args.frames.now) in
    c.in_ok-push.ensures.items
    ∙ (ap (λ (ns : List ℕ). ns ++ c.handle.result ∷ []) c.loop-below.invariant
    ∙ (append_assoc before passed (c.handle.result ∷ [])
    ∙ ap (λ (ns : List ℕ). before ++ ns) (ap (λ (n : ℕ). passed ++ n ∷ []) c.handle.ensures
    ∙ (ap (λ (f : Frame). passed ++ f.dir.handle ∷ []) (sym c.index-frames-count.is)
    ∙ sym (next_dir c.args.frames.now c.loop-below.below c.index-frames-count.result c.loop-below-test.true c.index-frames-count.is)))))
