use Rattle.std.proofs.Common.{◌≡◌, ◌∙◌, ◌++◌, ap, drop}
use Rattle.event_log.specs.Words.{line_of, step_words, event_words}
use Rattle.event_log.specs.Records.{event_read, events_read}
use Rattle.event_log.specs.Shapes.{step_read, step_rest}
use Rattle.event_log.proofs.Placed.{found_in}
use Rattle.event_log.proofs.Printed.{event_written, nothing_said}
use Rattle.event_log.proofs.log.EventLog.write_event.Goals as goal

pub write_step-requires : goal.write_step-requires
write_step-requires c =
    let r = c.index-record.result.now in
    let own : c.back-own.result.now ≡ drop r.start c.self.inside.bytes.items = c.back-own.ensures ∙ ap (drop r.start) c.as_slice.ensures.value in
    let found = found_in c.self.inside.bytes.items c.self.inside.records.items c.args.self.now.events c.args.at r c.self.invariant (ap (λ v. v.events) c.self.view_is) c.requires c.index-record.ensures in
    rw own found.named.0

pub returns-in_err-write_step : goal.returns-in_err-write_step
returns-in_err-write_step c = nothing_said _ event_words _ _ _ c.from_residual.ensures.0

pub returns-in_err-text : goal.returns-in_err-text
returns-in_err-text c = nothing_said _ event_words _ _ _ c.from_residual-in_err-text.ensures.0

pub returns : goal.returns
returns c =
    let r = c.index-record.result.now in
    let own : c.back-own.result.now ≡ drop r.start c.self.inside.bytes.items = c.back-own.ensures ∙ ap (drop r.start) c.as_slice.ensures.value in
    let found = found_in c.self.inside.bytes.items c.self.inside.records.items c.args.self.now.events c.args.at r c.self.invariant (ap (λ v. v.events) c.self.view_is) c.requires c.index-record.ensures in
    let stepped : c.write_step.new.out ≡ c.args.out.now ++ line_of (step_words (step_read r.step (drop r.start c.self.inside.bytes.items))) =
    c.in_ok-write_step.ensures ∙ ap (λ o. c.args.out.now ++ line_of (step_words (step_read r.step o))) own in
    let rest : c.after_step.result.now ≡ step_rest r.step (drop r.start c.self.inside.bytes.items) = c.after_step.ensures ∙ ap (step_rest r.step) own in
    rw (← c.self.view_is)
    (event_written (events_read c.self.inside.bytes.items c.self.inside.records.items) c.args.at (event_read c.self.inside.bytes.items r) c.args.out.now c.write_step.new.out c.text.new.self c.write_answer.new.out c.write_answer.result
    found.there stepped c.in_ok-text.ensures (rw (← rest) c.write_answer.ensures))
