use Rattle.std.proofs.Common.{◌≡◌, replicate, sym, subst, ap, ◌∙◌}
use Rattle.scripts.specs.declared.fault.RunFault.{RunFault}
use Rattle.run_command.specs.declared.jobs.JobsFault.TheVariants.{Run}
use Rattle.run_command.specs.Jobs.{IsNoService}
use Rattle.scripts.specs.Scenario.{said_by, first_root}
use Rattle.run_command.proofs.Services.{cause_is, why_refused, can_refuse, told_refused}
use Rattle.run_command.proofs.jobs.begin.Goals as goal

pub told_of_opening-requires : goal.told_of_opening-requires
told_of_opening-requires c =
    let s = c.args.scenario in
    let n = c.args.workers in
    let cause = c.in-Err.refusal.cause in
    let same : c.deref-2.result.now ≡ replicate n (first_root s.plans.items) =
    c.deref-2.ensures.value ∙ c.in_ok-roots.ensures ∙ ap (replicate n) (c.first_plan-first.ensures.root ∙ ap first_root c.deref.ensures.value) in
    can_refuse n (said_by s) cause
    (why_refused n (said_by s) cause c.requires.playable c.requires.few
    (cause_is n s.tree s.plans.items s.schedule.items s.lines c.deref-2.result.now c.requires.none same cause c.in-Err.ensures.cause))

pub returns : goal.returns
returns c =
    let s = c.args.scenario in
    let n = c.args.workers in
    let cause = c.in-Err.refusal.cause in
    let same : c.deref-2.result.now ≡ replicate n (first_root s.plans.items) =
    c.deref-2.ensures.value ∙ c.in_ok-roots.ensures ∙ ap (replicate n) (c.first_plan-first.ensures.root ∙ ap first_root c.deref.ensures.value) in
    record {
      begun = subst (λ (f : RunFault). IsNoService n (said_by s) (Run f)) (sym c.told_of_opening.ensures)
          (told_refused n (said_by s) cause
          (why_refused n (said_by s) cause c.requires.playable c.requires.few
          (cause_is n s.tree s.plans.items s.schedule.items s.lines c.deref-2.result.now c.requires.none same cause c.in-Err.ensures.cause)));
    }
