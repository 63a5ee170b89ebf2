use Rattle.std.proofs.Common.{◌≡◌, ◌++◌, ◌∙◌, ◌∷◌, [], ap, refl}
use Rattle.event_log.specs.Records.{IsLog, events_read, event_with}
use Rattle.event_log.proofs.Placed.{push_log}
use Rattle.event_log.proofs.log.EventLog.push_reserved.Goals as goal

added : (c : goal.After-push_reserved)
    → IsLog c.add_event.new.bytes.items c.push_reserved.new.self.items
    × (events_read c.add_event.new.bytes.items c.push_reserved.new.self.items
    ≡ events_read c.self.inside.bytes.items c.self.inside.records.items ++ event_with c.args.actor c.args.step.now c.args.answer.now ∷ [])
added c =
    push_log c.self.inside.bytes.items c.add_event.new.bytes.items c.self.inside.records.items c.self.inside.records.items c.push_reserved.new.self.items
    c.len-start.result c.args.actor c.args.step.now c.args.answer.now c.of.result c.of-2.result
    c.self.invariant c.of.ensures.valid c.of-2.ensures.valid refl (c.len-start.ensures ∙ c.self.inside.bytes.ok.0)
    c.of.ensures.shape c.of-2.ensures.shape c.add_event.ensures c.push_reserved.ensures.items

pub invariant_of-self : goal.invariant_of-self
invariant_of-self c = (added c).0

pub returns-clause-events : goal.returns-clause-events
returns-clause-events c = (added c).1 ∙ ap (λ v. v.events ++ event_with c.args.actor c.args.step.now c.args.answer.now ∷ []) c.self.view_is
