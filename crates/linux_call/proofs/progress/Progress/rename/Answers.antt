use Rattle.std.proofs.Common.{ap, subst, ◌∙◌}
use Rattle.std.specs.Prelude.{false}
use Rattle.dialogue.specs.Dialogue.{ran}
use Rattle.kernel_calls.specs.Calls.{EndsNext}
use Rattle.kernel_calls.specs.Entry.{EntryAt, IsDivision, closed_by, named_of}
use Rattle.kernel_calls.specs.Path.{at_of}
use Rattle.kernel_calls.proofs.FrontLemmas.{one_division}
use Rattle.linux_call.specs.Whole.{renamed_by}
use Rattle.linux_call.proofs.progress.Progress.rename.Goals as goal

pub returns-in-None-clause-ran : goal.returns-in-None-clause-ran
returns-in-None-clause-ran c = λ n m b same is other. absurd (c.in-None.ensures is.divided.split is.divided.entry)

pub returns-in-None-clause-next : goal.returns-in-None-clause-next
returns-in-None-clause-next c = λ n m b same is other. absurd (c.in-None.ensures is.divided.split is.divided.entry)

pub returns-in-None-named-clause-ran : goal.returns-in-None-named-clause-ran
returns-in-None-named-clause-ran c = λ n m b same is other.
    let there = subst (λ t. IsDivision t false m) same other in
    absurd (c.in-None-named.ensures there.divided.split there.divided.entry)

pub returns-in-None-named-clause-next : goal.returns-in-None-named-clause-next
returns-in-None-named-clause-next c = λ n m b same is other.
    let there = subst (λ t. IsDivision t false m) same other in
    absurd (c.in-None-named.ensures there.divided.split there.divided.entry)

pub returns-in-Some-named-clause-ran : goal.returns-in-Some-named-clause-ran
returns-in-Some-named-clause-ran c = λ n m b same is other.
    let from = named_of c.in-Some.from in
    let new = named_of c.in-Some-named.new in
    let there = subst (λ t. IsDivision t false m) same other in
    let run : EntryAt → EntryAt → _ = λ x y.
    ran (renamed_by c.args.request.now c.args.self.now.known (at_of c.args.at.now) x b y c.args.self.now.ends)
    c.args.self.now.answers.now in
    c.rename_named.ensures.ran b same ∙ ap (λ x. run x new) (one_division _ _ from n c.in-Some.ensures is)
    ∙ ap (run n) (one_division _ _ new m c.in-Some-named.ensures there)

pub returns-in-Some-named-clause-next : goal.returns-in-Some-named-clause-next
returns-in-Some-named-clause-next c = λ n m b same is other changes bare.
    let from = named_of c.in-Some.from in
    let new = named_of c.in-Some-named.new in
    let there = subst (λ t. IsDivision t false m) same other in
    let next : EntryAt → EntryAt → Type 0 = λ x y.
    EndsNext (renamed_by c.args.request.now c.args.self.now.known (at_of c.args.at.now) x b y c.args.self.now.ends)
    c.args.self.now.answers.now (closed_by c.rename_named.new.self.behind.closes) in
    subst (next n) (one_division _ _ new m c.in-Some-named.ensures there)
    (subst (λ x. next x new) (one_division _ _ from n c.in-Some.ensures is)
    (c.rename_named.ensures.next b same changes bare))
