use Rattle.std.specs.Prelude.{◌≡◌, ℕ, suc, length, take}
use Rattle.std.proofs.Common.{◌∙◌, inl, inr, sym, ap, subst, arith}
use Rattle.explore.specs.Opened.{opened_world}
use Rattle.explore_command.specs.Surveyed.{scope_asked}
use Rattle.explore_command.specs.Part.{IsBarred}
use Rattle.explore_command.proofs.WhoMight.{barred_first}
use Rattle.explore_command.proofs.part.no_lists.Goals as goal
use Rattle.explore_command.proofs.part.no_lists.Goals.{then-at-len, else-at-len}

pub returns-clause-far : goal.returns-clause-far
returns-clause-far c =
    let scene = c.args.scene.now in
    let w = opened_world scene.tree scene.plans.items scene.lines in
    let scope = scope_asked c.args.asked.now in
    let begin = scope.begin in
    let at = c.args.at in
    let many : length c.in_ok-all_might.field-0.items ≡ c.if-at-len.turns = c.in_ok-all_might.ensures.many in
    elim c.if-at-len.branch [
      | then-at-len r ↦
          let turns : length c.in_ok-all_might.field-0.items ≡ suc at = omega (arith, many, r.turns-is) in
          inr (subst (λ (n : ℕ). IsBarred w scope (take n begin)) (sym turns) (barred_first w scope begin at c.requires.barred))
      | else-at-len r ↦
          let copied = ap length (c.in_ok-begin.ensures ∙ c.as_slice.ensures.value) in
          inl (omega (arith, many, r.turns-is, r.len-turns.ensures, copied, c.in_ok-begin.begin.ok))
    ]
