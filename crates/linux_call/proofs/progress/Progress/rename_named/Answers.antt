use Rattle.std.proofs.Common.{sym, subst, ap}
use Rattle.std.specs.Prelude.{false}
use Rattle.kernel_calls.specs.Calls.{IsBare}
use Rattle.kernel_calls.specs.Path.{at_of}
use Rattle.linux_call.proofs.WholeLemmas.{next_renamed}
use Rattle.linux_call.proofs.progress.Progress.rename_named.Goals as goal

pub returns-in_err-outcome-clause-next : goal.returns-in_err-outcome-clause-next
returns-in_err-outcome-clause-next c = λ b same changes bare.
    next_renamed c.args.request.now _ _ _ _ b _ _ _ _ _ c.wanted_of.ensures
    (ap (λ t. record (at_of c.args.at.now) { slashed = t; looked = false }) (sym same))
    (c.rename.ensures.next changes (subst IsBare (sym c.wanted_of.ensures) bare))

pub returns-clause-next : goal.returns-clause-next
returns-clause-next c = λ b same changes bare.
    next_renamed c.args.request.now _ _ _ _ b _ _ _ _ _ c.wanted_of.ensures
    (ap (λ t. record (at_of c.args.at.now) { slashed = t; looked = false }) (sym same))
    (c.rename.ensures.next changes (subst IsBare (sym c.wanted_of.ensures) bare))
