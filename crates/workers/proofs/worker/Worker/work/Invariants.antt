use Rattle.workers.specs.Work.{WorksOn}
use Rattle.workers.proofs.worker.Worker.work.Given as goal

abbrev pub invariant-jobs : goal.invariant-jobs
invariant-jobs g l = WorksOn l.service l.jobs l.initial.self l.self
