use Rattle.std.proofs.Common.{◌≡◌, true, reverse, sym, ap, ◌∙◌}
use Rattle.handles.specs.Objects.{unchecked}
use Rattle.step_resolver.specs.Order.{holds, judging, goes_on, take}
use Rattle.step_resolver.specs.View.{way_of, handle_of, todo_of}
use Rattle.step_resolver.proofs.WalkAnswers.{judging_stands}
use Rattle.step_resolver.proofs.course.Course.judged.Goals as goal

pub returns-in-Ok-clause-turn : goal.returns-in-Ok-clause-turn
returns-in-Ok-clause-turn c =
    let p = c.args.self.now.plan in
    let way = way_of c.args.self.now.root p in
    let new = c.taken-new.result in
    let told = rw c.names.ensures at c.in-Ok.ensures.ok.0 in
    let same : handle_of c.onward.result ≡ handle_of new =
    ap handle_of (c.onward.ensures ∙ ap unchecked c.in-Ok.ensures.ok.1) in
    let going = rw c.hold.ensures at c.go_on.ensures.turn in
    rw c.taken-new.ensures.held (
      true,
      going ∙ ap (λ handle. goes_on way (holds handle (reverse p.names)) (todo_of p)) same
          ∙ sym (judging_stands way new p.names (todo_of p))
          ∙ ap (take way true (judging (handle_of new) (reverse p.names) (todo_of p))) (sym told),
    )
