use Rattle.std.proofs.Common.{refl, sym, ap, subst, ◌∙◌}
use Rattle.dialogue.specs.Dialogue.{ran}
use Rattle.kernel_calls.specs.Calls.{EndsNext}
use Rattle.kernel_calls.specs.Entry.{closed_by}
use Rattle.linux_call.specs.Whole.{CallDialogue, IsByKernel, besides}
use Rattle.linux_call.proofs.WholeLemmas.{rename_case}
use Rattle.linux_call.proofs.progress.Progress.by_kernel.Goals as goal

pub returns-in-9-clause-ran : goal.returns-in-9-clause-ran
returns-in-9-clause-ran c = λ exact closes s is.
    let b = besides c.args.texts in
    let here = subst (λ a. IsByKernel c.args.asked.now c.args.self.now.known a b c.args.self.now.ends s)
    (sym c.path_below-at.ensures) is in
    let x = rename_case c.args.asked.now c.args.self.now.known _ b c.args.self.now.ends s c.in-9.is here in
    c.rename.ensures.ran x.0 x.1 b refl x.2 x.3 ∙ ap (λ (d : CallDialogue). ran d c.args.self.now.answers.now) (sym x.4)

pub returns-in-9-clause-next : goal.returns-in-9-clause-next
returns-in-9-clause-next c = λ exact bare before changes s is.
    let b = besides c.args.texts in
    let here = subst (λ a. IsByKernel c.args.asked.now c.args.self.now.known a b c.args.self.now.ends s)
    (sym c.path_below-at.ensures) is in
    let x = rename_case c.args.asked.now c.args.self.now.known _ b c.args.self.now.ends s c.in-9.is here in
    subst (λ d. EndsNext d c.args.self.now.answers.now (closed_by c.rename.new.self.behind.closes)) (sym x.4)
    (c.rename.ensures.next x.0 x.1 b refl x.2 x.3 changes bare)
