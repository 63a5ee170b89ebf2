-- Nothing is held yet, since the walk is still at the root itself.
use Rattle.std.proofs.Common.{sym, subst}
use Rattle.step_resolver.specs.View.{course_way, todo_of, HoldsNothing}
use Rattle.step_resolver.specs.declared.walk.State.{State}
use Rattle.step_resolver.proofs.FirstTurns.{first_holds_nothing}
use Rattle.step_resolver.proofs.walk.Walk.on_course.Goals as goal

pub unboxed-requires : goal.unboxed-requires
unboxed-requires c =
    subst (λ (s : State). HoldsNothing s.place s.pending) (sym c.in-Err.ensures.value_returned)
    (first_holds_nothing (course_way c.args.course) (todo_of c.args.course.plan) c.go_on.new.self.plan c.go_on.new.place c.in-Due.pending c.in-Due.ensures.turn c.in-Due.ensures.kept.3)
