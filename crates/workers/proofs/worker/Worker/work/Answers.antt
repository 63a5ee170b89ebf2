use Rattle.std.proofs.Common.{refl}
use Rattle.workers.proofs.Works.{works_nothing, works_on}
use Rattle.workers.proofs.worker.Worker.work.Goals as goal

pub jobs-init : goal.jobs-init
jobs-init g c = works_nothing _ _ _ _ refl refl

pub jobs-preserved : goal.jobs-preserved
jobs-preserved g c = works_on _ _ _ _ _ c.jobs.invariant c.take_job.ensures

pub returns-then-not-take_job : goal.returns-then-not-take_job
returns-then-not-take_job g c = works_on _ _ _ _ _ c.jobs.invariant c.take_job.ensures
