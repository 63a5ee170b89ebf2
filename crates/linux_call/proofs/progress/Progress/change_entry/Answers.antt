use Rattle.std.proofs.Common.{ap, subst, ◌∙◌}
use Rattle.dialogue.specs.Dialogue.{ran}
use Rattle.kernel_calls.specs.Calls.{EndsNext}
use Rattle.kernel_calls.specs.Entry.{IsDivision, IsNameless, closed_by, named_of}
use Rattle.kernel_calls.specs.Path.{at_of, text_in}
use Rattle.kernel_calls.proofs.FrontLemmas.{one_division}
use Rattle.linux_call.specs.Whole.{besides, changed_by}
use Rattle.linux_call.proofs.progress.Progress.change_entry.Goals as goal

pub returns-in-None-clause-ran : goal.returns-in-None-clause-ran
returns-in-None-clause-ran c = λ n is.
    absurd (subst (IsNameless (text_in c.args.at.now.path.slashed.now)) c.takes_slash.ensures c.in-None.ensures
    is.divided.split is.divided.entry)

pub returns-in-None-clause-next : goal.returns-in-None-clause-next
returns-in-None-clause-next c = λ n is.
    absurd (subst (IsNameless (text_in c.args.at.now.path.slashed.now)) c.takes_slash.ensures c.in-None.ensures
    is.divided.split is.divided.entry)

pub returns-in-Some-clause-ran : goal.returns-in-Some-clause-ran
returns-in-Some-clause-ran c = λ n is.
    let entry = named_of c.in-Some.entry in
    let here = subst (λ t. IsDivision c.args.at.now.path.slashed.now t entry) c.takes_slash.ensures c.in-Some.ensures in
    c.change_named.ensures.ran
    ∙ ap (λ m. ran (changed_by c.args.request.now c.args.self.now.known (at_of c.args.at.now) m (besides c.args.texts)
    c.args.self.now.ends) c.args.self.now.answers.now) (one_division _ _ entry n here is)

pub returns-in-Some-clause-next : goal.returns-in-Some-clause-next
returns-in-Some-clause-next c = λ n is changes bare.
    let entry = named_of c.in-Some.entry in
    let here = subst (λ t. IsDivision c.args.at.now.path.slashed.now t entry) c.takes_slash.ensures c.in-Some.ensures in
    subst (λ m. EndsNext (changed_by c.args.request.now c.args.self.now.known (at_of c.args.at.now) m
    (besides c.args.texts) c.args.self.now.ends) c.args.self.now.answers.now
    (closed_by c.change_named.new.self.behind.closes)) (one_division _ _ entry n here is)
    (c.change_named.ensures.next changes bare)
