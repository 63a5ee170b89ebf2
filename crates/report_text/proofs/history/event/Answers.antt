use Rattle.std.proofs.Common.{◌≡◌}
use Rattle.event_log.proofs.Printed.{nothing_said}
use Rattle.report_text.specs.Report.{event_line}
use Rattle.report_text.proofs.EventLines.{event_line_written}
use Rattle.report_text.proofs.history.event.Goals as goal

pub returns-in_err-numbered : goal.returns-in_err-numbered
returns-in_err-numbered c = nothing_said _ (event_line c.args.at) _ _ _ c.from_residual.ensures.0

pub returns-in_err-numbered-2 : goal.returns-in_err-numbered-2
returns-in_err-numbered-2 c = nothing_said _ (event_line c.args.at) _ _ _ c.from_residual-in_err-numbered-2.ensures.0

pub returns-in_err-text : goal.returns-in_err-text
returns-in_err-text c = nothing_said _ (event_line c.args.at) _ _ _ c.from_residual-in_err-text.ensures.0

pub returns-in_err-write_event : goal.returns-in_err-write_event
returns-in_err-write_event c = nothing_said _ (event_line c.args.at) _ _ _ c.from_residual-in_err-write_event.ensures.0

pub returns : goal.returns
returns c =
    let told : c.from.result ≡ c.actor.result = cc in
    event_line_written _ c.args.at _ _ _ _ _ _ _ _ _ c.actor.ensures told c.in_ok-numbered.ensures c.in_ok-numbered-2.ensures c.in_ok-text.ensures c.in_ok-write_event.ensures c.text-2.ensures
