use Rattle.std.proofs.Common.{◌≡◌, false, sym, ◌∙◌, arith}
use Rattle.walk_plan.specs.declared.goal.Goal.TheVariants.{Deepest}
use Rattle.walk_plan.specs.Plan.{next_part, is_own, follows_next_link, stayed}
use Rattle.path_text.specs.declared.errno.Errno.TheVariants.{NotFound}
use Rattle.step_resolver.specs.View.{way_of, place_of, todo_of, name_in}
use Rattle.step_resolver.proofs.WalkParts.{handles_at}
use Rattle.step_resolver.proofs.WalkAnswers.{refused_otherwise}
use Rattle.step_resolver.proofs.course.Course.not_opened.Goals.{else-eq-via-then-eq+then-eq-2+else-is_own, else-eq-via-then-eq+else-eq-2, else-eq-via-else-eq}
use Rattle.step_resolver.proofs.course.Course.not_opened.Goals as goal

pub returns-else-eq-clause-turn : goal.returns-else-eq-clause-turn
returns-else-eq-clause-turn c =
    let p = c.args.self.now.plan in
    let otherwise : c.args.error ≡ NotFound → p.goal ≡ Deepest → is_own p ≡ false =
    elim c.else-eq.branch [
      | else-eq-via-then-eq+then-eq-2+else-is_own w ↦ λ missing deepest. grind arith
      | else-eq-via-then-eq+else-eq-2 w ↦ λ missing deepest. grind arith
      | else-eq-via-else-eq w ↦ λ missing deepest. grind arith
    ] in
    let refused = refused_otherwise (way_of c.args.self.now.root p) (place_of c.args.place.now p.names) (is_own p) (follows_next_link p) (name_in (next_part p)) (todo_of (stayed p)) c.args.error otherwise in
    c.fail.ensures.turn ∙ sym (rw (handles_at c.args.place.now p.names) at refused)
