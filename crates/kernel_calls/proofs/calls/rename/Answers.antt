use Rattle.std.proofs.Common.{ap, sym, ◌∙◌}
use Rattle.std.specs.Prelude.{Ok}
use Rattle.dialogue.specs.Dialogue.{asked_of, ran_by}
use Rattle.kernel_calls.specs.Entry.{closed_by, named_of}
use Rattle.kernel_calls.specs.Look.{came_to}
use Rattle.kernel_calls.specs.Path.{at_of}
use Rattle.kernel_calls.proofs.NextLemmas.{next_in_both}
use Rattle.kernel_calls.proofs.calls.rename.Goals as goal

pub returns-in-Ok-clause-next : goal.returns-in-Ok-clause-next
returns-in-Ok-clause-next c = λ changes bare.
    let l1 = c.find_directory.new.answers.now in
    let one = sym c.find_directory.ensures
    ∙ ap (λ r. ran_by (λ v. came_to c.find_directory.new.known v) asked_of r l1)
    (c.in_ok-dir.was ∙ ap (λ r. Ok r) c.in-Ok.is) in
    next_in_both c.args.known.now c.find_directory.new.known c.args.wanted.now (at_of c.args.at.now)
    (named_of c.args.from) (at_of c.args.other.now) (named_of c.args.to) c.args.ends c.args.answers.now.now l1
    c.in-Ok.dir (closed_by c.rename_from.new.behind.closes) one (c.rename_from.ensures.next changes bare)
