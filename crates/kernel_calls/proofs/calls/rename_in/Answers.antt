use Rattle.std.proofs.Common.{true, ap, sym, subst, ◌∙◌}
use Rattle.dialogue.specs.Dialogue.{asked_of, ran_by}
use Rattle.kernel_calls.specs.Calls.{EndsNext, rename_in}
use Rattle.kernel_calls.specs.Entry.{closed_by}
use Rattle.kernel_calls.specs.Look.{came_to}
use Rattle.kernel_calls.proofs.NextLemmas.{next_in_rename}
use Rattle.kernel_calls.proofs.calls.rename_in.Goals.{then-ends, else-ends}
use Rattle.kernel_calls.proofs.calls.rename_in.Goals as goal

pub returns-in_err-outcome-clause-next : goal.returns-in_err-outcome-clause-next
returns-in_err-outcome-clause-next c = λ changes bare.
    elim c.if-ends.branch [
      | then-ends w ↦
          let three = sym c.make_change.ensures
          ∙ ap (λ r. ran_by (λ v. came_to c.make_change.new.known v) asked_of r c.make_change.new.answers.now)
          (c.in_err-outcome.was) in
          let next = next_in_rename c.args.known.now c.args.wanted.now c.args.from c.args.to c.args.name.now
          c.args.new.now c.args.answers.now.now _ bare bare.2 three in
          let s = rename_in c.args.known.now c.args.wanted.now c.args.from c.args.name.now c.args.to c.args.new.now in
          let fds = sym w.closes_of_both.ensures ∙ sym (ap (λ b. closed_by b.closes) w.behind-is) in
          subst (λ e. EndsNext (s e) c.args.answers.now.now (closed_by c.if-ends.behind.closes)) (sym w.if-ends.true)
          (subst (EndsNext (s true) c.args.answers.now.now) fds next)
      | else-ends w ↦ absurd (cc (sym changes ∙ ap (λ b. b.changes) w.behind-is))
    ]
