use Rattle.std.proofs.Common.{◌≡◌, ◌∙◌, sym, ap, drop}
use Rattle.std.specs.Prelude.{Some}
use Rattle.event_log.specs.Shapes.{step_read, step_rest, answer_read}
use Rattle.event_log.proofs.Again.{event_made}
use Rattle.event_log.proofs.Placed.{found_in}
use Rattle.event_log.proofs.log.EventLog.event.Goals as goal

pub lent_step-requires : goal.lent_step-requires
lent_step-requires c =
    let r = c.index-record.result.now in
    let own : c.back-own.result.now ≡ drop r.start c.self.inside.bytes.items = c.back-own.ensures ∙ ap (drop r.start) c.as_slice.ensures.value in
    let found = found_in c.self.inside.bytes.items c.self.inside.records.items c.args.self.now.events c.args.at r c.self.invariant (ap (λ v. v.events) c.self.view_is) c.requires c.index-record.ensures in
    rw own found.named.0

pub read_answer-requires : goal.read_answer-requires
read_answer-requires c =
    let r = c.index-record.result.now in
    let own : c.back-own.result.now ≡ drop r.start c.self.inside.bytes.items = c.back-own.ensures ∙ ap (drop r.start) c.as_slice.ensures.value in
    let found = found_in c.self.inside.bytes.items c.self.inside.records.items c.args.self.now.events c.args.at r c.self.invariant (ap (λ v. v.events) c.self.view_is) c.requires c.index-record.ensures in
    rw (c.after_step.ensures, own) found.named.1

pub returns : goal.returns
returns c =
    let r = c.index-record.result.now in
    let own : c.back-own.result.now ≡ drop r.start c.self.inside.bytes.items = c.back-own.ensures ∙ ap (drop r.start) c.as_slice.ensures.value in
    let found = found_in c.self.inside.bytes.items c.self.inside.records.items c.args.self.now.events c.args.at r c.self.invariant (ap (λ v. v.events) c.self.view_is) c.requires c.index-record.ensures in
    let step : c.in_ok-step.step ≡ step_read r.step (drop r.start c.self.inside.bytes.items) = c.in_ok-step.ensures ∙ c.lent_step.ensures ∙ ap (step_read r.step) own in
    let answer : c.in_ok-answer.answer ≡ answer_read r.answer (step_rest r.step (drop r.start c.self.inside.bytes.items)) =
    c.in_ok-answer.ensures ∙ ap (answer_read r.answer) (c.after_step.ensures ∙ ap (step_rest r.step) own) in
    rw (← c.self.view_is) (found.there ∙ ap (λ e. Some e) (event_made r.actor _ _ _ _ (sym step) (sym answer)))
