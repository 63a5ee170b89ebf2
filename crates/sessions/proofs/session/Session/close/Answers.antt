use Rattle.std.proofs.Common.{◌∙◌, ap, ◌++◌, ◌∷◌, [], List, arith}
use Rattle.tree_model.specs.declared.answer.Answer.TheVariants.{Done}
use Rattle.tree_model.specs.declared.answer.Event.{Event}
use Rattle.tree_model.specs.declared.step.StepOf.TheVariants.{Close}
use Rattle.sessions.proofs.Logs.{closed}
use Rattle.sessions.proofs.session.Session.close.Goals as goal

pub invariant_of-self : goal.invariant_of-self
invariant_of-self g c =
    closed c.self.inside.log.events c.close.new.own.events c.self.inside.open_handles c.saturating_sub-self-inside.result c.wait_for_room.new.log.room c.close.new.own.room
    c.self.inside.owner.actor c.args.handle c.self.invariant.counted c.saturating_sub-self-inside.ensures (omega (arith, c.self.invariant.in_room, c.wait_for_room.ensures.kept))
    (c.close.ensures.own ∙ ap (λ (es : List Event). es ++ record { actor = c.self.inside.owner.actor; step = Close c.args.handle; answer = Done } ∷ []) c.wait_for_room.ensures.events)
    c.close.ensures.own_room
