use Rattle.std.proofs.Common.{◌≡◌, List, length, rules, sym, subst, ◌∙◌}
use Rattle.std.proofs.lemmas.List.{with_items_is}
use Rattle.root_ops.specs.declared.op.Request.{Request}
use Rattle.workers.specs.Serve.{IsServed}
use Rattle.run_command.specs.Jobs.{IsServiceFault, jobs_text}
use Rattle.scripts.specs.Scenario.{said_by}
use Rattle.run_command.specs.declared.jobs.ServiceFault.{ServiceFault}
use Rattle.run_command.proofs.Releases.{can_release, done}
use Rattle.run_command.proofs.Services.{unclosed}
use Rattle.run_command.proofs.jobs.text_of.Goals as goal

pub release_all-requires : goal.release_all-requires
release_all-requires g c =
    let said = said_by c.args.scenario in
    let at = c.in_ok-service.field-0 in
    let end = c.in_ok-served.served in
    let served : IsServed at.service at.jobs.items at.sessions.items end.sessions.items end.replies.items =
    subst (λ (js : List Request). IsServed at.service js at.sessions.items end.sessions.items end.replies.items) c.deref.ensures.value c.in_ok-served.ensures in
    let can =
    can_release c.args.workers said at.service at.sessions.items at.jobs.items end.sessions.items c.as_mut_slice.result.now end.replies.items c.in_ok-outcomes.opened.items
    c.in_ok-service.ensures.begun served c.in_ok-outcomes.ensures.opened c.as_mut_slice.ensures.value in
    record { in_place = can.0; ours = can.1 }

pub returns-in-Err-clause-text : goal.returns-in-Err-clause-text
returns-in-Err-clause-text g c =
    let said = said_by c.args.scenario in
    let at = c.in_ok-service.field-0 in
    let end = c.in_ok-served.served in
    let served : IsServed at.service at.jobs.items at.sessions.items end.sessions.items end.replies.items =
    subst (λ (js : List Request). IsServed at.service js at.sessions.items end.sessions.items end.replies.items) c.deref.ensures.value c.in_ok-served.ensures in
    let back = with_items_is end.sessions c.release_all.new.sessions (c.release_all.auto.sessions ∙ c.as_mut_slice.ensures.len) in
    let are_done = done c.args.workers said at.service at.sessions.items at.jobs.items end.sessions.items c.as_mut_slice.result.now c.release_all.new.sessions _ end.replies.items
    c.in_ok-outcomes.opened.items c.in_ok-service.ensures.begun served c.in_ok-outcomes.ensures.opened c.as_mut_slice.ensures.value c.release_all.ensures back in
    subst (λ (f : ServiceFault). IsServiceFault c.args.workers said f) (sym c.told_of_closing.ensures)
    (unclosed c.args.workers said end.replies.items at.service _ c.in-Err.cause are_done c.in-Err.ensures)

pub returns-clause-text : goal.returns-clause-text
returns-clause-text g c =
    let said = said_by c.args.scenario in
    let at = c.in_ok-service.field-0 in
    let end = c.in_ok-served.served in
    let served : IsServed at.service at.jobs.items at.sessions.items end.sessions.items end.replies.items =
    subst (λ (js : List Request). IsServed at.service js at.sessions.items end.sessions.items end.replies.items) c.deref.ensures.value c.in_ok-served.ensures in
    let back = with_items_is end.sessions c.release_all.new.sessions (c.release_all.auto.sessions ∙ c.as_mut_slice.ensures.len) in
    let are_done = done c.args.workers said at.service at.sessions.items at.jobs.items end.sessions.items c.as_mut_slice.result.now c.release_all.new.sessions _ end.replies.items
    c.in_ok-outcomes.opened.items c.in_ok-service.ensures.begun served c.in_ok-outcomes.ensures.opened c.as_mut_slice.ensures.value c.release_all.ensures back in
    let text : c.in_ok-text.text ≡ jobs_text end.replies.items (length c.in-Ok.events.events) = search rules in
    record {
      replies = end.replies.items;
      events = c.in-Ok.events.events;
      over = record { service = at.service; sessions = _; done = are_done; closes = c.in-Ok.ensures };
      is = text;
    }
