use Rattle.std.proofs.Common.{◌≡◌, ap, subst, ◌∙◌, List, ℕ, [], ◌∷◌, ◌++◌, IfOk}
use Rattle.bulk_ops.specs.RemoveAllView.{stage_of, levels_of, dirs_of}
use Rattle.bulk_ops.specs.Renamed.{stage_handles}
use Rattle.bulk_ops.specs.declared.remove_all.frame.Frame.{Frame}
use Rattle.bulk_ops.proofs.LikeFrames.{pushed}
use Rattle.bulk_ops.proofs.remove_all.clearing.Clearing.push_handles.Goals as goal

pub returns : goal.returns
returns c =
    let before = c.args.into.now.items in
    let opened = stage_handles (stage_of c.args.self.now.stage) in
    let progress = c.args.self.now.progress in
    let here : c.push.new.self.items ≡ (before ++ opened) ++ progress.here.dir.handle ∷ [] =
    c.in_ok-push.ensures.items
    ∙ (ap (λ (ns : List ℕ). ns ++ c.handle.result ∷ []) c.in_ok-push_handles.ensures ∙ ap (λ (n : ℕ). (before ++ opened) ++ n ∷ []) c.handle.ensures) in
    subst (λ (hs : List ℕ). IfOk c.push_dirs.result (λ u. c.push_dirs.new.into.items ≡ hs))
    (ap (λ (hs : List ℕ). hs ++ dirs_of c.as_slice.result.now) here
    ∙ (ap (λ (frames : List Frame). ((before ++ opened) ++ progress.here.dir.handle ∷ []) ++ dirs_of frames) c.as_slice.ensures.value
    ∙ pushed before opened progress.here.dir.handle (levels_of progress.above.items)))
    c.push_dirs.ensures
