use Rattle.std.proofs.Common.{◌≡◌, ◌≤◌, false, sym, ap, subst, ◌∙◌, arith}
use Rattle.std.specs.Prelude.{length, take}
use Rattle.dialogue.specs.Dialogue.{ran}
use Rattle.linux_call.specs.Turns.{IsLooked, IsPlain, IsWhole, Tells, Turned, is_told, next_count, whole_at}
use Rattle.linux_call.specs.Whole.{inner}
use Rattle.linux_call.specs.declared.kept.State.{State}
use Rattle.linux_call.specs.declared.request.Request.{Request}
use Rattle.linux_call.proofs.ToldLemmas.{fresh_count, turned}
use Rattle.linux_call.proofs.turns.take.Goals as goal

pub returns-then-state-answers : goal.returns-then-state-answers
returns-then-state-answers c = λ none plain room not_opens kept looked s is is_said.
    let r = c.args.request.now in
    let old = c.args.state.now in
    let n = next_count old in
    let answers = c.args.answers.now in
    let b = c.count_answer-fault.ensures plain.whole room.1 in
    let r1 = sym b.1 in
    let st = b.2 in
    let within : n ≤ length answers = omega (arith, room.0) in
    let count = ap (λ (x : State). x.count) st in
    let looked_is = ap (λ (x : State). x.looked) st in
    let g = c.next_due-due.ensures none (subst IsPlain r1 plain) (subst (λ k. k ≤ length answers) (sym count) within)
    (ap (λ (x : State). x.opens) st ∙ not_opens)
    (λ z. looked_is ∙ fresh_count old kept (sym count ∙ z))
    (λ z. subst (λ (x : Request). IsLooked (inner x) (whole_at x c.args.first.now false)) r1
    (looked (sym looked_is ∙ z)))
    s (subst (λ (x : Request). IsWhole x c.args.first.now c.args.second.now s) r1 is)
    (ap (λ k. is_told (ran s (take k answers))) count ∙ is_said) in
    let new = c.next_due-due.new.state in
    let tells = subst (λ (x : Request). Tells x c.args.first.now s (ran s (take n answers)) new answers
    c.next_due-due.result c.next_due-due.new.room) b.1
    (subst (λ k. Tells c.count_answer-fault.new.request c.args.first.now s (ran s (take k answers)) new answers
    c.next_due-due.result c.next_due-due.new.room) count g.4) in (
      g.2 ∙ b.1,
      g.3,
      λ st2 same.
          subst (λ k. Turned r c.args.first.now s (ran s (take n answers)) n st2 answers
          (record c.next_due-due.result { at = k }) c.next_due-due.new.room) (sym (g.0 ∙ count))
          (turned r c.args.first.now s (ran s (take n answers)) n new st2 answers c.next_due-due.result
          c.next_due-due.new.room same (g.0 ∙ count) (g.1 ∙ ap (λ (x : State). x.begun) st) tells),
    )

pub returns-else-state-answers : goal.returns-else-state-answers
returns-else-state-answers c = λ none plain room not_opens kept looked s is is_said.
    let r = c.args.request.now in
    let old = c.args.state.now in
    let n = next_count old in
    let answers = c.args.answers.now in
    let b = c.count_answer-fault.ensures plain.whole room.1 in
    let r1 = sym b.1 in
    let st = b.2 in
    let within : n ≤ length answers = omega (arith, room.0) in
    let count = ap (λ (x : State). x.count) st in
    let looked_is = ap (λ (x : State). x.looked) st in
    let g = c.next_due-due.ensures none (subst IsPlain r1 plain) (subst (λ k. k ≤ length answers) (sym count) within)
    (ap (λ (x : State). x.opens) st ∙ not_opens)
    (λ z. looked_is ∙ fresh_count old kept (sym count ∙ z))
    (λ z. subst (λ (x : Request). IsLooked (inner x) (whole_at x c.args.first.now false)) r1
    (looked (sym looked_is ∙ z)))
    s (subst (λ (x : Request). IsWhole x c.args.first.now c.args.second.now s) r1 is)
    (ap (λ k. is_told (ran s (take k answers))) count ∙ is_said) in
    let here : c.next_due-due.new.state.count ≡ n = g.0 ∙ count in
    absurd (omega (arith, c.if-state-answers.false, room.0, here, c.next_due-due.auto.answers))
