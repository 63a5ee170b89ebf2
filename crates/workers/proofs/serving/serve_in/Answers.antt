use Rattle.std.proofs.Common.{◌≡◌, length, List, inr, sym, ap, subst, ◌∙◌}
use Rattle.std.proofs.lemmas.List.{length-replicate}
use Rattle.root_ops.specs.declared.reply.Reply.{Reply}
use Rattle.workers.specs.Serve.{IsCauseAfter, IsServed, AllOnce}
use Rattle.workers.proofs.Tallies.{is_served, all_written}
use Rattle.workers.proofs.serving.serve_in.Goals as goal

pub returns-in-Some-clause-refused : goal.returns-in-Some-clause-refused
returns-in-Some-clause-refused g c =
    let jobs : length c.as_mut_slice.result.now ≡ length c.args.jobs.now = ap length (c.as_mut_slice.ensures.value ∙ c.requires.counts) ∙ length-replicate (length c.args.jobs.now) 0 in
    inr (
      (c.requires.workers, c.employ-sessions.ensures),
      subst (λ n. IsCauseAfter c.employ-sessions.result.1.items n c.in-Some.cause) jobs
          (subst (λ ls. IsCauseAfter ls (length c.as_mut_slice.result.now) c.in-Some.cause) c.as_slice.ensures.value c.in-Some.ensures),
    )

pub returns-clause-served : goal.returns-clause-served
returns-clause-served g c =
    let jobs : length c.as_mut_slice.result.now ≡ length c.args.jobs.now = ap length (c.as_mut_slice.ensures.value ∙ c.requires.counts) ∙ length-replicate (length c.args.jobs.now) 0 in
    let once : AllOnce c.employ-sessions.result.1.items (length c.args.jobs.now) =
    subst (λ n. AllOnce c.employ-sessions.result.1.items n) jobs
    (subst (λ ls. AllOnce ls (length c.as_mut_slice.result.now)) c.as_slice.ensures.value c.in_default.ensures) in
    let empty : List Reply = c.args.room.replies.items in
    let put : List Reply = c.put_all.new.replies in
    let lent : c.as_mut_slice-2.result.now ≡ empty = c.as_mut_slice-2.ensures.value in
    let same : length put ≡ length empty = c.put_all.auto.replies ∙ ap length lent in
    let places : length empty ≡ length c.args.jobs.now = sym c.args.room.replies.ok.0 ∙ c.requires.replies in
    subst (λ rs. IsServed c.args.service.now c.args.jobs.now c.args.sessions.items c.employ-sessions.result.0.items rs)
    (sym (all_written put empty c.args.room.replies.len same c.args.room.replies.ok.0))
    (is_served c.args.service.now c.args.jobs.now c.args.sessions.items c.employ-sessions.result.0.items c.employ-sessions.result.1.items c.as_mut_slice-2.result.now put
    c.requires.workers c.employ-sessions.ensures once (ap length lent ∙ places) c.put_all.auto.replies c.put_all.ensures)
