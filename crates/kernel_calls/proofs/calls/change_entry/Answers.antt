use Rattle.std.proofs.Common.{◌≡◌, true, ap, sym, subst, ◌∙◌}
use Rattle.std.specs.Prelude.{Ok}
use Rattle.dialogue.specs.Dialogue.{asked_of, came, ran_by}
use Rattle.kernel_calls.specs.Calls.{EndsNext, change_entry}
use Rattle.kernel_calls.specs.Entry.{closed_by, named_of}
use Rattle.kernel_calls.specs.Look.{came_to}
use Rattle.kernel_calls.specs.Path.{at_of}
use Rattle.kernel_calls.proofs.NextLemmas.{next_in_change}
use Rattle.kernel_calls.proofs.calls.change_entry.Goals.{then-ends, else-ends}
use Rattle.kernel_calls.proofs.calls.change_entry.Goals as goal

pub returns-in_err-outcome-clause-next : goal.returns-in_err-outcome-clause-next
returns-in_err-outcome-clause-next c = λ changes bare.
    elim c.if-ends.branch [
      | then-ends w ↦
          let l1 = c.is_plain.new.answers.now in
          let l2 = c.find_directory.new.answers.now in
          let one = sym c.is_plain.ensures ∙ ap (λ r. ran_by (λ x. x) asked_of r l1) (c.in_ok-is_plain.was)
          ∙ ap (λ b. came b l1) c.if-not-branch.false in
          let dir : c.find_directory.result ≡ Ok (Ok c.in-Ok.dir) = c.in_ok-dir.was ∙ ap (λ r. Ok r) c.in-Ok.is in
          let two = sym c.find_directory.ensures
          ∙ ap (λ r. ran_by (λ v. came_to c.find_directory.new.known v) asked_of r l2) dir in
          let three = sym c.make_change.ensures
          ∙ ap (λ r. ran_by (λ v. came_to c.make_change.new.known v) asked_of r c.make_change.new.answers.now)
          (c.in_err-outcome.was) in
          let next = next_in_change c.args.known.now c.find_directory.new.known (at_of c.args.at.now)
          (named_of c.args.named) c.args.wanted.now c.args.step c.args.text.now c.args.read.now
          c.args.answers.now.now l1 l2 c.in-Ok.dir _ bare bare.2 one two three in
          let s = change_entry c.args.known.now (at_of c.args.at.now) (named_of c.args.named) c.args.wanted.now
          c.args.step c.args.text.now c.args.read.now in
          let fds = sym w.closes_of.ensures ∙ sym (ap (λ b. closed_by b.closes) w.behind-is) in
          subst (λ e. EndsNext (s e) c.args.answers.now.now (closed_by c.if-ends.behind.closes)) (sym w.if-ends.true)
          (subst (EndsNext (s true) c.args.answers.now.now) fds next)
      | else-ends w ↦ absurd (cc (sym changes ∙ ap (λ b. b.changes) w.behind-is))
    ]
