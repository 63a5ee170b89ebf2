use Rattle.std.proofs.Common.{◌≡◌, ℕ, ◌<◌, ◌++◌, List, length, get_or, take, drop, map, ap, subst, ◌∙◌}
use Rattle.workers.specs.Work.{WorkerView, WorksOn, idle, sessions_of, lists_of}
use Rattle.workers.proofs.Works.{employed}
use Rattle.workers.proofs.Tallies.{all_written}
use Rattle.workers.proofs.serving.employ.Goals as goal

pub returns : goal.returns
returns g c =
    let hired : List WorkerView = c.hire.new.workers.items in
    let worked : List WorkerView = c.work_all.new.workers in
    let left : List WorkerView = take c.hire.new.workers.len (worked ++ drop (length worked) hired) in
    let lent : c.as_mut_slice.result.now ≡ hired = c.as_mut_slice.ensures.value in
    let same : length worked ≡ length hired = c.work_all.auto.workers ∙ ap length lent in
    let whole : left ≡ worked = all_written worked hired c.hire.new.workers.len same c.hire.new.workers.ok.0 in
    let idle_first : hired ≡ map idle c.args.sessions.items = c.hire.ensures ∙ ap (λ (ws : List WorkerView). ws ++ map idle c.args.sessions.items) c.requires.no_worker in
    let Each : List WorkerView → Type 0 = λ ws. (i : ℕ) (d : WorkerView) → i < length ws → WorksOn c.args.service.now c.args.jobs.now (get_or ws i d) (get_or worked i d) in
    employed c.args.service.now c.args.jobs.now c.args.sessions.items c.dismiss.new.sessions.items c.dismiss.new.lists.items hired worked
    idle_first same (subst Each lent c.work_all.ensures)
    (c.dismiss.ensures.sessions ∙ (ap (λ ss. ss ++ sessions_of left) c.requires.no_session ∙ ap sessions_of whole))
    (c.dismiss.ensures.lists ∙ (ap (λ ls. ls ++ lists_of left) c.requires.no_list ∙ ap lists_of whole))
