use Rattle.std.proofs.Common.{sym, subst}
use Rattle.workers.specs.declared.told.Numbered.{Numbered}
use Rattle.workers.specs.Work.{WorkerView, WorksOn}
use Rattle.workers.proofs.Works.{works_once}
use Rattle.workers.proofs.worker.Worker.take_job.Goals as goal

pub returns-in-Some : goal.returns-in-Some
returns-in-Some g c =
    let numbered : Numbered = record { job = c.in-Ok.job; reply = c.reply_to-reply.result } in
    let old : WorkerView = record { session = c.self.inside.session; told = c.self.inside.told.items } in
    let new : WorkerView = record { session = c.reply_to-reply.new.session; told = c.push_reserved.new.self.items } in
    subst (λ (w : WorkerView). WorksOn c.args.service.now c.args.jobs.now w new) c.self.view_is
    (works_once c.args.service.now c.args.jobs.now old new numbered c.in-Some.request.now
    c.push_reserved.ensures.items (sym c.in-Some.ensures) c.reply_to-reply.ensures)
