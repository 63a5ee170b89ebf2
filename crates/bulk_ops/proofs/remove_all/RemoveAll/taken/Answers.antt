-- What comes next isn't over, and is what the answer made of the call.
use Rattle.std.proofs.Common.{◌≡◌, ◌<◌, sym, ap, subst, ◌∙◌}
use Rattle.bulk_ops.specs.declared.turn.BulkTurn.TheVariants.{More}
use Rattle.bulk_ops.specs.RemoveAllOrder.{Removing, steps_left}
use Rattle.bulk_ops.specs.RemoveAllView.{removing_of, TakesOn}
use Rattle.bulk_ops.specs.RemoveAllTurnView.{TakesTo}
use Rattle.bulk_ops.proofs.RemovingAll.Phases.{goes_on, goes_on_fewer}
use Rattle.bulk_ops.proofs.remove_all.RemoveAll.taken.Goals as goal

pub returns-in_default : goal.returns-in_default
returns-in_default c =
    let self : removing_of c.replace-phase.result ≡ c.args.self =
    ap removing_of (c.replace-phase.ensures.value ∙ ap (λ s. s.phase) c.deref_mut.ensures.value) ∙ c.self.view_is in
    let taken : TakesOn c.args.self c.args.answer c.taken.result =
    subst (λ (r : Removing). TakesOn r c.args.answer c.taken.result) self c.taken.ensures in
    record {
      turn = subst (λ p. TakesTo c.args.self c.args.answer (More (removing_of p))) (sym c.replace.ensures.after)
          (goes_on c.args.self c.args.answer c.taken.result c.in_default.not-Over taken);
      fewer = subst (λ p. steps_left (removing_of p) < steps_left c.args.self) (sym c.replace.ensures.after)
          (goes_on_fewer c.args.self c.args.answer c.taken.result c.in_default.not-Over taken);
    }
