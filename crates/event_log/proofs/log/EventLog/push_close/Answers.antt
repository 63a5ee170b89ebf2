use Rattle.std.proofs.Common.{◌∙◌, sym, refl}
use Rattle.std.proofs.lemmas.List.{append-nil}
use Rattle.tree_model.specs.declared.answer.Answer.TheVariants.{Done}
use Rattle.tree_model.specs.declared.step.StepOf.TheVariants.{Close}
use Rattle.event_log.specs.Shapes.{step_shape, answer_shape}
use Rattle.event_log.proofs.Placed.{push_log}
use Rattle.event_log.proofs.log.EventLog.push_close.Goals as goal

pub invariant_of-self : goal.invariant_of-self
invariant_of-self c =
    (push_log c.self.inside.bytes.items c.self.inside.bytes.items c.self.inside.records.items c.self.inside.records.items c.push_reserved.new.self.items
    c.len.result c.args.actor (Close c.args.handle) Done (step_shape (Close c.args.handle)) (answer_shape Done)
    c.self.invariant tt tt refl (c.len.ensures ∙ c.self.inside.bytes.ok.0) refl refl (sym (append-nil c.self.inside.bytes.items)) c.push_reserved.ensures.items).0
