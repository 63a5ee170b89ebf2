use Rattle.std.proofs.Common.{sym, subst}
use Rattle.kernel_calls.specs.Calls.{IsBare}
use Rattle.linux_call.specs.Whole.{besides}
use Rattle.linux_call.proofs.WholeLemmas.{next_changed}
use Rattle.linux_call.proofs.progress.Progress.change_named.Goals as goal

pub returns-in_err-outcome-clause-next : goal.returns-in_err-outcome-clause-next
returns-in_err-outcome-clause-next c = λ changes bare.
    next_changed c.args.request.now _ _ _ (besides c.args.texts) _ _ _ _ _ _ c.wanted_of.ensures
    c.step_of.ensures c.text_read.ensures
    (c.change_entry.ensures.next changes (subst IsBare (sym c.wanted_of.ensures) bare))

pub returns-clause-next : goal.returns-clause-next
returns-clause-next c = λ changes bare.
    next_changed c.args.request.now _ _ _ (besides c.args.texts) _ _ _ _ _ _ c.wanted_of.ensures
    c.step_of.ensures c.text_read.ensures
    (c.change_entry.ensures.next changes (subst IsBare (sym c.wanted_of.ensures) bare))
